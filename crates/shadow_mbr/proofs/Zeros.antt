-- A sector of zeros, and sectors of which none is kept.
use Rattle.std.proofs.Common.{◌≡◌, ℕ, ◌^◌, ◌<◌, ◌≤◌, List, [], length, refl, get_or, ◌%◌, ⊎_elim, replicate}
use Rattle.std.proofs.lemmas.Bool.{cases_lt}
use Rattle.std.proofs.lemmas.List.{get_or-replicate, get_or_past}
use Rattle.std.specs.List.Sorted.{IsStrictlySortedBy}
use Rattle.shadow_mbr.specs.Stored.{StoredSectors, zeros, byte_at, IsSound}

pub length_zeros : length zeros ≡ 512
unfolding zeros
length_zeros = refl

pub sound_when_empty : (sectors : ℕ) (kept : List (ℕ × List ℕ)) → kept ≡ [] → sectors ≤ 2 ^ 48 → IsSound (record { sectors = sectors; kept = kept })
unfolding IsStrictlySortedBy
sound_when_empty sectors kept none few = rw none (record { few = few; sorted = tt; whole = λ sector. length_zeros })

-- A byte of a sector of zeros.
zero_byte : (i : ℕ) → get_or zeros i 0 ≡ 0
unfolding zeros
zero_byte i =
    ⊎_elim
    (λ (below : i < 512). get_or-replicate 512 i 0 0 below)
    (λ (past : 512 ≤ i). get_or_past (replicate 512 0) i 0 past)
    (cases_lt i 512)

-- Where none is kept, each byte is zero.
pub blank_byte : (stored : StoredSectors) → stored.kept ≡ [] → (place : ℕ) → byte_at stored place ≡ 0
blank_byte stored none place = rw none (zero_byte (place % 512))
