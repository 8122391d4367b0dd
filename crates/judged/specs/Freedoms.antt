-- What the standards leave to a drive.
use Rattle.std.specs.Prelude.{ℕ, suc, ◌+◌, ◌*◌, ◌%◌, ◌==◌, nat_le, nat_lt, Bool, true, false, not, ◌&&◌, ◌||◌, List, [], ◌∷◌, ◌++◌, take, drop, slice_index, codes, bit_and, Option, None, Some, Result, Ok, Err, if◌then◌else◌}
use Rattle.std.specs.List.{find, fold, list_any}
use Rattle.std.specs.Str.{bytes_eq}
use Rattle.basics.specs.Sums.{byte_sum}
use Rattle.hex.specs.Hex.{decode_sized}
use Rattle.hex.specs.declared.error.FromHexError.{FromHexError}
use Rattle.script_lines.specs.Words.{nth_word}
use Rattle.judged.specs.Blanks.{is_digit, differs_by_blanks, differs_by_random}
use Rattle.judged.specs.Properties.{differs_by_properties}
use Rattle.judged.specs.SessionNumbers.{data_place, differs_by_number}
use Rattle.judged.specs.declared.freedom.Freedom.{Freedom}
use Rattle.judged.specs.declared.freedom.Span.{Span}
use Rattle.judged.specs.declared.freedom.Freedom.TheVariants.{ErrorBits, BlankSectors, VendorBytes, Identity, SessionNumbers, ComIds, RandomBytes, Properties}

-- The bits of the Error field to which ACS-3 (section 6.3) gives a meaning for a drive: the CRC of the
-- interface (7), an uncorrectable error (6), ID not found (4) and abort (2). The others are obsolete, or
-- not of the commands of a drive, and no host looks at them.
abbrev pub told_error_bits : ℕ
told_error_bits = 0xd4

abbrev pub abort_bit : ℕ
abort_bit = 4

-- how many bytes stand in front of the error in `fail 51 04`
abbrev pub error_place : ℕ
error_place = 8

-- the byte of two hex digits
abbrev pub byte_said : Result (List ℕ) FromHexError → Option ℕ
byte_said (Ok bytes) = Some (slice_index bytes 0)
byte_said (Err e) = None

abbrev pub error_in : List ℕ → Option ℕ
error_in line = byte_said (decode_sized (drop error_place line) 1)

-- of an aborted command: two errors that differ in bits alone that have no meaning
abbrev pub are_open_bits : ℕ → ℕ → Bool
are_open_bits heard wanted = not (bit_and wanted abort_bit == 0)
    && bit_and heard told_error_bits == bit_and wanted told_error_bits

abbrev pub are_open_errors : Option ℕ → Option ℕ → Bool
are_open_errors (Some heard) (Some wanted) = are_open_bits heard wanted
are_open_errors (Some heard) None = false
are_open_errors None wanted = false

abbrev pub differs_by_error_bits : List ℕ → List ℕ → Bool
differs_by_error_bits heard wanted = bytes_eq (take 5 wanted) (codes "fail ")
    && bytes_eq (take error_place heard) (take error_place wanted)
    && are_open_errors (error_in heard) (error_in wanted)

-- a place of a line `data HEX` has a digit of these bytes
abbrev pub has_digit : ℕ → Span → Bool
has_digit place span =
    nat_le (data_place + 2 * span.first) place && nat_lt place (data_place + 2 * span.limit)

abbrev pub has_some_digit : List Span → ℕ → Bool
has_some_digit spans place = list_any (has_digit place) spans

abbrev pub may_stand : List Span → ℕ → ℕ → ℕ → Bool
may_stand spans place heard wanted =
    heard == wanted || (is_digit heard && has_some_digit spans place)

-- two lines `data HEX`, from this place on, differ in digits of these bytes alone
abbrev pub differs_within : List Span → ℕ → List ℕ → List ℕ → Bool
differs_within spans place [] [] = true
differs_within spans place (x ∷ xs) (y ∷ ys) =
    may_stand spans place x y && differs_within spans (suc place) xs ys
differs_within spans place [] (y ∷ ys) = false
differs_within spans place (x ∷ xs) [] = false

-- Level 0 discovery (Core 2.01, section 3.3.6): bytes 16 to 47 of its header are the vendor's
abbrev pub vendor_spans : List Span
vendor_spans = record { first = 16; limit = 48 } ∷ []

-- a receive of Level 0 discovery
abbrev pub asks_level0 : List ℕ → Bool
asks_level0 line =
    bytes_eq (nth_word 0 line) (codes "recv") && bytes_eq (nth_word 2 line) (codes "1")

-- The descriptor of the Opal SSC V2 feature (Opal SSC 2.01, section 3.1.1.5), where it stands at byte 112 of Level 0: behind its
-- code 0203h stand, from byte 116 on, the first of the drive's ComIDs, and how many there are. ComIDs that are given out begin
-- at 1000h (Core 2.01, section 3.3.2.1), and a drive has one at least.
abbrev pub com_id_spans : List Span
com_id_spans = record { first = 116; limit = 120 } ∷ []

-- so many hex digits of a line `data HEX`, from those of a byte on
abbrev pub digits_at : ℕ → ℕ → List ℕ → List ℕ
digits_at first count line = take count (drop (data_place + 2 * first) line)

abbrev pub has_opal_feature : List ℕ → Bool
has_opal_feature line = bytes_eq (digits_at 112 4 line) (codes "0203")

abbrev pub has_com_ids : List ℕ → Bool
has_com_ids line = not (bytes_eq (digits_at 116 1 line) (codes "0"))
    && not (bytes_eq (digits_at 118 4 line) (codes "0000"))

abbrev pub differs_by_com_ids : List ℕ → List ℕ → List ℕ → Bool
differs_by_com_ids asked heard wanted = asks_level0 asked && has_opal_feature wanted
    && differs_within com_id_spans 0 heard wanted && has_com_ids heard

-- IDENTIFY DEVICE data (ACS-3): words 10 to 19 are the serial number, 23 to 26 the firmware's version, 27
-- to 46 the model number, 108 to 111 the World Wide Name, and 255, which a drive need not have, a checksum
abbrev pub identity_spans : List Span
identity_spans = record { first = 20; limit = 40 } ∷ record { first = 46; limit = 94 }
    ∷ record { first = 216; limit = 224 } ∷ record { first = 510; limit = 512 } ∷ []

-- The checksum adds up, where byte 510 says that there is one: the sum of all bytes is a multiple of 256
-- (ACS-3, IDENTIFY DEVICE data, word 255).
abbrev pub identity_size : ℕ
identity_size = 512

abbrev pub checksum_sign_place : ℕ
checksum_sign_place = 510

abbrev pub checksum_sign : ℕ
checksum_sign = 0xa5

abbrev pub adds_up : Result (List ℕ) FromHexError → Bool
adds_up (Ok bytes) = not (slice_index bytes checksum_sign_place == checksum_sign)
    || byte_sum bytes % 256 == 0
adds_up (Err e) = false

abbrev pub line_adds_up : List ℕ → Bool
line_adds_up line = adds_up (decode_sized (drop data_place line) identity_size)

abbrev pub asks_identity : List ℕ → Bool
asks_identity line = bytes_eq (nth_word 0 line) (codes "identify")

-- The answer of a drive to a line differs from the model's by this freedom alone. `other` is what the
-- model answers where every write before wrote another byte, and random bytes are others. What a sector holds that nothing has
-- written, or that an erasure wiped, no command of ACS-3 says, nor does Opal SSC 2.01 (section 5.1.2).
abbrev pub is_by : List ℕ → List ℕ → List ℕ → List ℕ → Freedom → Bool
is_by asked heard wanted other ErrorBits = differs_by_error_bits heard wanted
is_by asked heard wanted other BlankSectors = differs_by_blanks heard wanted other
is_by asked heard wanted other VendorBytes =
    asks_level0 asked && differs_within vendor_spans 0 heard wanted
is_by asked heard wanted other Identity =
    asks_identity asked && differs_within identity_spans 0 heard wanted && line_adds_up heard
is_by asked heard wanted other SessionNumbers = differs_by_number heard wanted
is_by asked heard wanted other ComIds = differs_by_com_ids asked heard wanted
is_by asked heard wanted other RandomBytes = differs_by_random heard wanted other
is_by asked heard wanted other Properties = differs_by_properties heard wanted

-- the first of the freedoms that are given by which it does
unfoldable pub freedom_between : List Freedom → List ℕ → List ℕ → List ℕ → List ℕ → Option Freedom
freedom_between freedoms asked heard wanted other = find (is_by asked heard wanted other) freedoms

-- the names of freedoms
abbrev pub freedom_name : Freedom → List ℕ
freedom_name ErrorBits = codes "error-bits"
freedom_name BlankSectors = codes "blank-sectors"
freedom_name VendorBytes = codes "vendor-bytes"
freedom_name Identity = codes "identity"
freedom_name SessionNumbers = codes "session-numbers"
freedom_name ComIds = codes "com-ids"
freedom_name RandomBytes = codes "random-bytes"
freedom_name Properties = codes "properties"

abbrev pub all_freedoms : List Freedom
all_freedoms = ErrorBits ∷ BlankSectors ∷ VendorBytes ∷ Identity ∷ SessionNumbers ∷ ComIds
    ∷ RandomBytes ∷ Properties ∷ []

abbrev pub freedom_named : List ℕ → Option Freedom
freedom_named name =
    if bytes_eq name (codes "error-bits") then Some ErrorBits
    else if bytes_eq name (codes "blank-sectors") then Some BlankSectors
    else if bytes_eq name (codes "vendor-bytes") then Some VendorBytes
    else if bytes_eq name (codes "identity") then Some Identity
    else if bytes_eq name (codes "session-numbers") then Some SessionNumbers
    else if bytes_eq name (codes "com-ids") then Some ComIds
    else if bytes_eq name (codes "random-bytes") then Some RandomBytes
    else if bytes_eq name (codes "properties") then Some Properties
    else None

-- the freedoms of these names, where each is one
abbrev pub with_freedom : List Freedom → Option Freedom → Option (List Freedom)
with_freedom freedoms (Some freedom) = Some (freedoms ++ freedom ∷ [])
with_freedom freedoms None = None

abbrev pub with_named : Option (List Freedom) → List ℕ → Option (List Freedom)
with_named (Some freedoms) name = with_freedom freedoms (freedom_named name)
with_named None name = None

abbrev pub freedoms_named : List (List ℕ) → Option (List Freedom)
freedoms_named names = fold with_named (Some []) names

-- where none is named, all are given
abbrev pub freedoms_of : List (List ℕ) → Option (List Freedom)
freedoms_of [] = Some all_freedoms
freedoms_of (name ∷ names) = freedoms_named (name ∷ names)

-- what is given by the words of a command line
abbrev pub freedoms_asked : Bool → List (List ℕ) → Option (List Freedom)
freedoms_asked true names = Some []
freedoms_asked false names = freedoms_of names
