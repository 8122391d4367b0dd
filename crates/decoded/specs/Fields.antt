-- Fields of structures in bytes, and the lines that tell them. A line has the name that the standard gives the field, a
-- blank, and the value: a count in decimal, a code or bits as 0x and hex, a flag as 0 or 1, a text between quotes.
use Rattle.std.specs.Prelude.{ℕ, zero, suc, ◌+◌, ◌/◌, ◌==◌, Bool, false, ◌&&◌, ◌||◌, nat_le, bit_and, List, [], ◌∷◌, ◌++◌, length, map, slice_index, Option, None, Some, codes, decimal, if◌then◌else◌}
use Rattle.byteorder.specs.Endian.{big_number}
use Rattle.hex.specs.Hex.{encode_lower}
use Rattle.decoded.specs.declared.field.Form.{Form}
use Rattle.decoded.specs.declared.field.Form.TheVariants.{Decimal, Hex, Flag, Low, High, Text}
use Rattle.decoded.specs.declared.field.Field.{Field}

-- a field: its name, the places of its bytes with that of the highest one first, and how it is told
pub record FieldRow : Type 0 where
  pub name : List ℕ
  pub places : List ℕ
  pub form : Form

abbrev pub field : List ℕ → List ℕ → Form → FieldRow
field name places form = record { name = name; places = places; form = form }

-- a field of the code, and a table of them
abbrev pub field_row : Field → FieldRow
field_row f = field f.0.now f.1.now f.2

abbrev pub rows_of : List Field → List FieldRow
rows_of fields = map field_row fields

-- so many bytes from a place on, of which the first is the highest, or the last
abbrev pub big_endian : ℕ → ℕ → List ℕ
big_endian first zero = []
big_endian first (suc n) = first ∷ big_endian (first + 1) n

abbrev pub little_endian : ℕ → ℕ → List ℕ
little_endian first zero = []
little_endian first (suc n) = (first + n) ∷ little_endian first n

-- the bytes at these places
abbrev pub octets_at : List ℕ → List ℕ → List ℕ
octets_at places bytes = map (slice_index bytes) places

-- the number that they write, the highest first: one to eight of them, as each number has
abbrev pub octets_number : List ℕ → ℕ
octets_number octets =
    if nat_le 1 (length octets) && nat_le (length octets) 8
    then big_number (length octets) octets else 0

-- `0x` and hex
abbrev pub prefixed_hex : List ℕ → List ℕ
prefixed_hex octets = codes "0x" ++ encode_lower octets

-- a character of printable ASCII, or a question mark
abbrev pub printable : ℕ → ℕ
printable octet = if nat_le 32 octet && nat_le octet 126 then octet else 63

-- quotes around a text
abbrev pub quoted : List ℕ → List ℕ
quoted octets = (34 ∷ []) ++ map printable octets ++ (34 ∷ [])

-- A flag is the bits of a mask, any of which is set; low bits are those of a mask; high bits are those above the lowest
-- four.
abbrev pub value_text : Form → List ℕ → List ℕ
value_text Decimal octets = decimal (octets_number octets)
value_text Hex octets = prefixed_hex octets
value_text (Flag mask) octets =
    if bit_and (octets_number octets) mask == 0 then codes "0" else codes "1"
value_text (Low mask) octets = decimal (bit_and (octets_number octets) mask)
value_text High octets = decimal (octets_number octets / 16)
value_text Text octets = quoted octets

abbrev pub field_line : List ℕ → List ℕ → List ℕ
field_line name value = name ++ codes " " ++ value ++ (10 ∷ [])

abbrev pub row_line : FieldRow → List ℕ → List ℕ
row_line row bytes = field_line row.name (value_text row.form (octets_at row.places bytes))

abbrev pub row_lines : List FieldRow → List ℕ → List ℕ
row_lines [] bytes = []
row_lines (row ∷ rows) bytes = row_line row bytes ++ row_lines rows bytes

-- one of the places lies behind so many bytes
abbrev pub reaches : List ℕ → ℕ → Bool
reaches [] size = false
reaches (place ∷ places) size = nat_le size place || reaches places size

-- the first field that so many bytes cut off
abbrev pub cut_field : List FieldRow → ℕ → Option (List ℕ)
cut_field [] size = None
cut_field (row ∷ rows) size = if reaches row.places size then Some row.name else cut_field rows size
