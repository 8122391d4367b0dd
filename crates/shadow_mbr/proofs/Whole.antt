-- Whole sectors, by their bytes.
use Rattle.std.proofs.Common.{◌≡◌, ℕ, zero, suc, ◌+◌, ◌-◌, ◌*◌, ◌/◌, ◌%◌, ◌<◌, ◌≤◌, List, [], ◌∷◌, ◌++◌, length, take, drop, get_or, refl, ap, sym, ◌∙◌, arith, ⊎_elim, ◌⊎◌, inl, inr}
use Rattle.std.specs.Prelude.{slice_range}
use Rattle.std.proofs.lemmas.Bool.{cases_lt}
use Rattle.std.proofs.lemmas.Bool.Decides.{nat_tests}
use Rattle.std.proofs.lemmas.List.{get_or-take, get_or-drop, length-take-le, length-drop, ext_get_or, take-append-drop, drop-drop}
use Rattle.shadow_mbr.specs.Stored.{StoredSectors, sector_at, byte_at, byte_after, sector_after, sectors_from}
use Rattle.shadow_mbr.proofs.Writes.{byte_inside, byte_outside}

-- The byte at a place of a sector.
sector_place : (s i : ℕ) → i < 512 → (512 * s + i) / 512 ≡ s
sector_place s i below = omega arith

byte_place : (s i : ℕ) → i < 512 → (512 * s + i) % 512 ≡ i
byte_place s i below = omega arith

byte_of_sector : (stored : StoredSectors) (s i : ℕ) → i < 512 → byte_at stored (512 * s + i) ≡ get_or (sector_at stored s) i 0
byte_of_sector stored s i below = rw (sector_place s i below, byte_place s i below) refl

-- So many bytes that are those of a sector are the sector.
sector_by_bytes : (stored : StoredSectors) (s : ℕ) (xs : List ℕ) → length xs ≡ 512 → length (sector_at stored s) ≡ 512 → ((i : ℕ) → i < 512 → get_or xs i 0 ≡ byte_at stored (512 * s + i)) → xs ≡ sector_at stored s
sector_by_bytes stored s xs size whole same =
    ext_get_or 0 xs (sector_at stored s) (size ∙ sym whole)
    (λ i below. let inside : i < 512 = omega arith in same i inside ∙ byte_of_sector stored s i inside)

-- A part of 512 bytes.
part_size : (at : ℕ) (xs : List ℕ) → at + 512 ≤ length xs → length (take 512 (drop at xs)) ≡ 512
part_size at xs within = length-take-le 512 (drop at xs) (omega (arith, length-drop at xs))

part_byte : (at i : ℕ) (xs : List ℕ) → i < 512 → get_or (take 512 (drop at xs)) i 0 ≡ get_or xs (at + i) 0
part_byte at i xs below = get_or-take 512 (drop at xs) i 0 below ∙ get_or-drop at xs i 0

-- The sectors that were read, by the bytes.
read_chunk : (stored : StoredSectors) (lba k : ℕ) (buffer : List ℕ) → length buffer % 512 ≡ 0 → ((s : ℕ) → length (sector_at stored s) ≡ 512) → ((j : ℕ) → j < length buffer → get_or buffer j 0 ≡ byte_at stored (512 * lba + j)) → 512 * k < length buffer → take 512 (drop (512 * k) buffer) ≡ sector_at stored (lba + k)
read_chunk stored lba k buffer is whole same below =
    let within : 512 * k + 512 ≤ length buffer = omega arith in
    sector_by_bytes stored (lba + k) (take 512 (drop (512 * k) buffer)) (part_size (512 * k) buffer within) (whole (lba + k))
    (λ i inside.
    let place : 512 * lba + (512 * k + i) ≡ 512 * (lba + k) + i = omega arith in
    part_byte (512 * k) i buffer inside ∙ same (512 * k + i) (omega arith) ∙ ap (byte_at stored) place)

pub read_chunks : (stored : StoredSectors) (lba : ℕ) (buffer : List ℕ) → length buffer % 512 ≡ 0 → ((s : ℕ) → length (sector_at stored s) ≡ 512) → ((j : ℕ) → j < length buffer → get_or buffer j 0 ≡ byte_at stored (512 * lba + j)) → (k : ℕ) → 512 * k < length buffer → slice_range buffer (512 * k) (512 * k + 512) ≡ sector_at stored (lba + k)
read_chunks stored lba buffer is whole same k below =
    let size : 512 * k + 512 - 512 * k ≡ 512 = omega arith in
    rw size (read_chunk stored lba k buffer is whole same below)

none_left : (xs : List ℕ) → length xs ≡ 0 → xs ≡ []
none_left [] size = refl
none_left (x ∷ xs) size = absurd (omega arith)

-- Bytes are their chunks, one after the other.
chunks_are : (holds : ℕ → List ℕ) (lba n : ℕ) (xs : List ℕ) → length xs ≡ 512 * n → ((k : ℕ) → k < n → take 512 (drop (512 * k) xs) ≡ holds (lba + k)) → xs ≡ sectors_from holds lba n
unfolding sectors_from
chunks_are holds lba zero xs size each = none_left xs size
chunks_are holds lba (suc n) xs size each =
    let first : take 512 xs ≡ holds lba =
    each 0 (omega arith) ∙ ap holds (let e : lba + 0 ≡ lba = omega arith in e) in
    let left : length (drop 512 xs) ≡ 512 * n = omega (arith, length-drop 512 xs) in
    let later : (k : ℕ) → k < n → take 512 (drop (512 * k) (drop 512 xs)) ≡ holds (lba + 1 + k) =
    λ k below.
    let place : 512 + 512 * k ≡ 512 * suc k = omega arith in
    let next : lba + suc k ≡ lba + 1 + k = omega arith in
    ap (take 512) (drop-drop (512 * k) 512 xs ∙ ap (λ m. drop m xs) place) ∙ each (suc k) (omega arith) ∙ ap holds next in
    sym (take-append-drop 512 xs)
    ∙ ap (λ ys. ys ++ drop 512 xs) first
    ∙ ap (λ ys. holds lba ++ ys) (chunks_are holds (lba + 1) n (drop 512 xs) left later)

pub read_exact : (stored : StoredSectors) (lba : ℕ) (buffer : List ℕ) (n : ℕ) → length buffer % 512 ≡ 0 → n ≡ length buffer → ((s : ℕ) → length (sector_at stored s) ≡ 512) → ((j : ℕ) → j < length buffer → get_or buffer j 0 ≡ byte_at stored (512 * lba + j)) → buffer ≡ sectors_from (sector_at stored) lba (n / 512)
read_exact stored lba buffer n is same_size whole same =
    chunks_are (sector_at stored) lba (n / 512) buffer (omega arith)
    (λ k below. read_chunk stored lba k buffer is whole same (omega arith))

-- A sector inside what was written, and one outside it.
pub after_inside : (lba s : ℕ) (bytes before : List ℕ) → lba ≤ s → s < lba + length bytes / 512 → sector_after lba bytes before s ≡ take 512 (drop (512 * (s - lba)) bytes)
after_inside lba s bytes before from below = grind (arith, nat_tests)

pub after_outside : (lba s : ℕ) (bytes before : List ℕ) → (s < lba) ⊎ (lba + length bytes / 512 ≤ s) → sector_after lba bytes before s ≡ before
after_outside lba s bytes before out = grind (arith, nat_tests)

-- The sectors after a write, by the bytes.
pub write_sectors : (old new : StoredSectors) (lba : ℕ) (bytes : List ℕ) → length bytes % 512 ≡ 0 → ((s : ℕ) → length (sector_at old s) ≡ 512) → ((s : ℕ) → length (sector_at new s) ≡ 512) → ((p : ℕ) → byte_at new p ≡ byte_after (512 * lba) bytes (byte_at old p) p) → (s : ℕ) → sector_at new s ≡ sector_after lba bytes (sector_at old s) s
write_sectors old new lba bytes is whole_old whole_new same s =
    let n : ℕ = length bytes / 512 in
    let outside : (s < lba) ⊎ (lba + n ≤ s) → sector_at new s ≡ sector_after lba bytes (sector_at old s) s =
    λ out.
    let stays : sector_at old s ≡ sector_at new s =
    sector_by_bytes new s (sector_at old s) (whole_old s) (whole_new s)
    (λ i below.
    let apart : (512 * s + i < 512 * lba) ⊎ (512 * lba + length bytes ≤ 512 * s + i) =
    ⊎_elim (λ (under : s < lba). inl (omega arith)) (λ (behind : lba + n ≤ s). inr (omega arith)) out in
    sym (byte_of_sector old s i below)
    ∙ sym (byte_outside (512 * lba) bytes (byte_at old (512 * s + i)) (512 * s + i) apart)
    ∙ sym (same (512 * s + i))) in
    sym stays ∙ sym (after_outside lba s bytes (sector_at old s) out) in
    ⊎_elim
    (λ (under : s < lba). outside (inl under))
    (λ (from : lba ≤ s).
    ⊎_elim
    (λ (below : s < lba + n).
    let at : ℕ = 512 * (s - lba) in
    let written : take 512 (drop at bytes) ≡ sector_at new s =
    sector_by_bytes new s (take 512 (drop at bytes)) (part_size at bytes (omega arith)) (whole_new s)
    (λ i inside.
    let place : 512 * s + i - 512 * lba ≡ at + i = omega arith in
    part_byte at i bytes inside
    ∙ sym (ap (λ k. get_or bytes k 0) place)
    ∙ sym (byte_inside (512 * lba) bytes (byte_at old (512 * s + i)) (512 * s + i) (omega arith) (omega arith))
    ∙ sym (same (512 * s + i))) in
    sym written ∙ sym (after_inside lba s bytes (sector_at old s) from below))
    (λ (behind : lba + n ≤ s). outside (inr behind))
    (cases_lt s (lba + n)))
    (cases_lt s lba)
