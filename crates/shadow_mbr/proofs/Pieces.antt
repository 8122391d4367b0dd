-- One piece of a transfer: a part of a buffer that lies within one sector.
use Rattle.std.proofs.Common.{◌≡◌, ℕ, ◌+◌, ◌-◌, ◌/◌, ◌%◌, ◌<◌, ◌≤◌, List, length, take, drop, get_or, refl, sym, ◌∙◌, arith, rules}
use Rattle.std.proofs.lemmas.List.{places, get_or-take, get_or-drop}
use Rattle.std.proofs.lemmas.Bool.{cases_lt}
use Rattle.std.proofs.Common.{⊎_elim}
use borrow.Rule.Slice.PartMut.{put_mid}
use Rattle.shadow_mbr.specs.Stored.{StoredSectors, sector_at, byte_at}

-- an element before the part that was written, and one inside it
at_before : (a k : ℕ) (xs ys : List ℕ) (i : ℕ) → i < a → a ≤ length xs → get_or (put_mid a k xs ys) i 0 ≡ get_or xs i 0
at_before a k xs ys i before within = search (rules, places)

at_inside : (a k : ℕ) (xs ys : List ℕ) (i : ℕ) → i < length ys → a ≤ length xs → get_or (put_mid a k xs ys) (a + i) 0 ≡ get_or ys i 0
at_inside a k xs ys i inside within = search (rules, places)

pub length_written : (a k : ℕ) (xs ys : List ℕ) → length ys ≡ k → a + k ≤ length xs → length (put_mid a (a + k - a) xs ys) ≡ length xs
length_written a k xs ys size within = search (rules, places)

-- The byte at a place within the sector of another place.
same_sector : (p from i : ℕ) → p % 512 ≡ from → from + i < 512 → (p + i) / 512 ≡ p / 512
same_sector p from i is fits = omega arith

same_place : (p from i : ℕ) → p % 512 ≡ from → from + i < 512 → (p + i) % 512 ≡ from + i
same_place p from i is fits = omega arith

pub byte_beside : (stored : StoredSectors) (p from i : ℕ) → p % 512 ≡ from → from + i < 512 → byte_at stored (p + i) ≡ get_or (sector_at stored (p / 512)) (from + i) 0
byte_beside stored p from i is fits = rw (same_sector p from i is fits, same_place p from i is fits) refl

-- The bytes of a part of a sector.
pub part_of_sector : (stored : StoredSectors) (p len : ℕ) (block : List ℕ) → block ≡ sector_at stored (p / 512) → p % 512 + len ≤ 512 → (i : ℕ) → i < len → get_or (take (p % 512 + len - p % 512) (drop (p % 512) block)) i 0 ≡ byte_at stored (p + i)
part_of_sector stored p len block is fits i below =
    let size : p % 512 + len - p % 512 ≡ len = omega arith in
    let beside : byte_at stored (p + i) ≡ get_or (sector_at stored (p / 512)) (p % 512 + i) 0 =
    byte_beside stored p (p % 512) i refl (omega arith) in
    rw (size, is) (get_or-take len (drop (p % 512) (sector_at stored (p / 512))) i 0 below ∙ get_or-drop (p % 512) (sector_at stored (p / 512)) i 0 ∙ sym beside)

-- A read of one more piece.
pub read_more : (stored : StoredSectors) (at done len : ℕ) (buffer piece : List ℕ) → done ≤ length buffer → length piece ≡ len → ((i : ℕ) → i < len → get_or piece i 0 ≡ byte_at stored (at + done + i)) → ((k : ℕ) → k < done → get_or buffer k 0 ≡ byte_at stored (at + k)) → (k : ℕ) → k < done + len → get_or (put_mid done (done + len - done) buffer piece) k 0 ≡ byte_at stored (at + k)
read_more stored at done len buffer piece within size same before k below =
    ⊎_elim
    (λ (here : k < done). at_before done (done + len - done) buffer piece k here within ∙ before k here)
    (λ (there : done ≤ k).
    let i : ℕ = k - done in
    let at_i : k ≡ done + i = omega arith in
    let inside : i < len = omega arith in
    let place : at + (done + i) ≡ at + done + i = omega arith in
    let read : get_or (put_mid done (done + len - done) buffer piece) (done + i) 0 ≡ get_or piece i 0 =
    at_inside done (done + len - done) buffer piece i (omega arith) within in
    rw (at_i, place) (read ∙ same i inside))
    (cases_lt k done)
