-- Bytes in logical sectors of 256 words (ACS-3, IDENTIFY DEVICE word 106), by what is kept of them.
use Rattle.std.specs.Prelude.{◌≡◌, ℕ, zero, suc, [], ◌++◌, ◌+◌, ◌-◌, ◌*◌, ◌/◌, ◌%◌, ◌^◌, ◌<◌, ◌≤◌, ◌&&◌, nat_le, nat_lt, nat_eq, not, is_some, Bool, true, List, length, take, drop, replicate, Option, unwrap_or, slice_index, if◌then◌else◌}
use Rattle.std.specs.List.{list_any}
use Rattle.std.specs.List.Sorted.{IsStrictlySortedBy}
use Rattle.std.specs.BTreeMap.{is_at}
use Rattle.std.specs.Map.{lookup, keys_of}
use Rattle.std.specs.Ordering.{nat_cmp}

-- How many sectors there are, and the sectors that are kept, by their numbers.
pub record StoredSectors : Type 0 where
  pub sectors : ℕ
  pub kept : List (ℕ × List ℕ)

-- how many bytes a sector has
abbrev pub sector_size : ℕ
sector_size = 512

-- how many bytes of a sector are its head
abbrev pub head_size : ℕ
head_size = 4

-- a sector of zeros
unfoldable pub zeros : List ℕ
zeros = replicate sector_size 0

-- the bytes of a sector among those of all sectors that are kept
abbrev pub block_in : List (ℕ × List ℕ) → ℕ → Option (List ℕ)
block_in kept sector = lookup (is_at (nat_cmp sector)) kept

-- What a sector holds where these sectors are kept.
abbrev pub kept_sector : List (ℕ × List ℕ) → ℕ → List ℕ
kept_sector kept sector = unwrap_or (block_in kept sector) zeros

-- what is kept of a sector
abbrev pub kept_at : StoredSectors → ℕ → Option (List ℕ)
kept_at stored sector = block_in stored.kept sector

-- What a sector holds: the bytes that are kept, else zeros.
abbrev pub sector_at : StoredSectors → ℕ → List ℕ
sector_at stored sector = unwrap_or (kept_at stored sector) zeros

-- What a place holds: a byte of its sector.
abbrev pub byte_at : StoredSectors → ℕ → ℕ
byte_at stored place = slice_index (sector_at stored (place / sector_size)) (place % sector_size)

-- What a place holds where these sectors are kept.
abbrev pub kept_byte : List (ℕ × List ℕ) → ℕ → ℕ
kept_byte kept place =
    slice_index (unwrap_or (block_in kept (place / sector_size)) zeros) (place % sector_size)

-- The byte at a place after bytes were written from `at` on, where it was `before`.
abbrev pub byte_after : ℕ → List ℕ → ℕ → ℕ → ℕ
byte_after at bytes before place =
    if nat_le at place && nat_lt place (at + length bytes) then slice_index bytes (place - at)
    else before

-- What a sector holds after whole sectors were written from `lba` on, where it held `before`.
abbrev pub sector_after : ℕ → List ℕ → List ℕ → ℕ → List ℕ
sector_after lba bytes before sector =
    if nat_le lba sector
    && nat_lt sector (lba + length bytes / sector_size) then take sector_size
    (drop (sector_size * (sector - lba)) bytes)
    else before

-- The bytes of so many sectors from `lba` on.
unfoldable pub sectors_from : (ℕ → List ℕ) → ℕ → ℕ → List ℕ
sectors_from holds lba zero = []
sectors_from holds lba (suc n) = holds lba ++ sectors_from holds (lba + 1) n

-- The first four bytes of each of so many sectors.
unfoldable pub heads_of : ℕ → List ℕ → List ℕ
heads_of zero bytes = []
heads_of (suc n) bytes = take head_size bytes ++ heads_of n (drop sector_size bytes)

-- The first four bytes of each whole sector of some bytes.
abbrev pub heads : List ℕ → List ℕ
heads bytes = heads_of (length bytes / sector_size) bytes

-- Whether a sector is one of those from the first to before the end.
abbrev pub is_among : ℕ → ℕ → ℕ → Bool
is_among first end sector = nat_le first sector && nat_lt sector end

-- What a sector holds after those from the first to before the end were filled with a byte, where it held `before`.
abbrev pub sector_filled : ℕ → ℕ → ℕ → List ℕ → ℕ → List ℕ
sector_filled first end byte before sector =
    if is_among first end sector then replicate sector_size byte else before

-- The sector of each of so many bytes from `at` on is kept.
abbrev pub AreKept : StoredSectors → ℕ → ℕ → Type 0
AreKept stored at len =
    (place : ℕ) → at ≤ place → place < at + len
    → is_some (kept_at stored (place / sector_size)) ≡ true

-- The sector of each of so many bytes from `at` on is among these.
abbrev pub HaveBlocks : List (ℕ × List ℕ) → ℕ → ℕ → Type 0
HaveBlocks kept at len =
    (place : ℕ) → at ≤ place → place < at + len
    → is_some (block_in kept (place / sector_size)) ≡ true

-- Whether a sector has one of so many bytes from `at` on.
abbrev pub has_byte : ℕ → ℕ → ℕ → Bool
has_byte at len sector =
    nat_lt 0 len && nat_lt (sector_size * sector) (at + len)
    && nat_lt at (sector_size * sector + sector_size)

-- The sectors from the first to before the end that are not kept are listed.
abbrev pub ListsMissing : StoredSectors → ℕ → ℕ → List ℕ → Type 0
ListsMissing stored first end sectors =
    (sector : ℕ) → list_any (nat_eq sector) sectors
    ≡ (nat_le first sector && nat_lt sector end && not (is_some (kept_at stored sector)))

-- How many sectors a drive can have: as many as a 48-bit address can name (ACS-3).
abbrev pub sector_limit : ℕ
sector_limit = 2 ^ 48

-- There are no more sectors than a drive can have, the sectors that are kept ascend, and each
-- sector is whole.
pub record IsSound (stored : StoredSectors) : Type 0 where
  pub few : stored.sectors ≤ sector_limit
  pub sorted : IsStrictlySortedBy nat_cmp (keys_of stored.kept)
  pub whole : (sector : ℕ) → length (sector_at stored sector) ≡ sector_size
