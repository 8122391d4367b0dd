-- The sectors that a DATA SET MANAGEMENT command with TRIM names (ACS-3, DATA SET MANAGEMENT, LBA Range Entry).
use Rattle.std.specs.Prelude.{ℕ, zero, suc, ◌+◌, ◌*◌, ◌/◌, ◌%◌, ◌^◌, ◌==◌, ◌&&◌, nat_le, nat_lt, Bool, List, [], ◌∷◌, ◌++◌, length, drop, if◌then◌else◌}
use Rattle.byteorder.specs.Endian.{little_number}
use Rattle.trusted_cmds.specs.declared.trim.Extent.{Extent}

-- How many blocks of entries a command brings at most (this drive: IDENTIFY DEVICE word 105).
abbrev pub most_trim_blocks : ℕ
most_trim_blocks = 8

abbrev pub are_trim_blocks : ℕ → Bool
are_trim_blocks blocks = nat_lt 0 blocks && nat_le blocks most_trim_blocks

-- An entry has eight bytes, the low one first: bits 47:0 are the first sector, 63:48 how many there are.
abbrev pub entry_size : ℕ
entry_size = 8

abbrev pub count_unit : ℕ
count_unit = 2 ^ 48

abbrev pub extent_of : ℕ → Extent
extent_of entry = record { lba = entry % count_unit; count = entry / count_unit }

-- An entry of no sectors is left out.
abbrev pub some_sectors : Extent → List Extent
some_sectors extent = if extent.count == 0 then [] else extent ∷ []

-- Those of the first so many entries, in their order.
unfoldable pub extents_of : List ℕ → ℕ → List Extent
extents_of payload zero = []
extents_of payload (suc n) =
    extents_of payload n
    ++ some_sectors (extent_of (little_number entry_size (drop (entry_size * n) payload)))

-- Those of all that a payload has.
abbrev pub extents_in : List ℕ → List Extent
extents_in payload = extents_of payload (length payload / entry_size)

abbrev pub has_sector : ℕ → Extent → Bool
has_sector sector extent = nat_le extent.lba sector && nat_lt sector (extent.lba + extent.count)
