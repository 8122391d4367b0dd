-- Sectors that are filled with one byte.
use Rattle.std.proofs.Common.{◌≡◌, ℕ, ◌+◌, ◌-◌, ◌*◌, ◌/◌, ◌%◌, ◌<◌, ◌≤◌, ◌≢◌, List, length, take, drop, replicate, set, get_or, true, false, Bool, ◌||◌, refl, ap, sym, ◌∙◌, arith, inl, inr, ◌⊎◌, Option, Some, None}
use Rattle.std.specs.Prelude.{is_some, IfSome, unwrap_or}
use Rattle.std.proofs.lemmas.Bool.{cases_lt, cases_eq, cases_Bool}
use Rattle.std.proofs.lemmas.Bool.Decides.{nat_tests}
use Rattle.std.proofs.lemmas.List.{length-replicate, take-replicate, drop-replicate, get_or-replicate}
use Rattle.shadow_mbr.specs.Stored.{StoredSectors, zeros, sector_at, kept_sector, sector_filled, sector_after, is_among, has_byte, byte_at, byte_after}
use Rattle.shadow_mbr.specs.Places.{place_at, blocks_of, AreOwn}
use Rattle.shadow_mbr.proofs.Blocks.{one_block, chosen, other}
use Rattle.shadow_mbr.proofs.Runs.{own_put}
use Rattle.shadow_mbr.proofs.Whole.{after_inside, after_outside}
use Rattle.shadow_mbr.proofs.Writes.{byte_inside, byte_outside}
use Rattle.shadow_mbr.proofs.Touched.{is_between, between}

-- A sector that was filled, and one that was not.
filled_inside : (first end byte s : ℕ) (before : List ℕ) → first ≤ s → s < end → sector_filled first end byte before s ≡ replicate 512 byte
filled_inside first end byte s before from below = grind (arith, nat_tests)

filled_outside : (first end byte s : ℕ) (before : List ℕ) → (s < first) ⊎ (end ≤ s) → sector_filled first end byte before s ≡ before
filled_outside first end byte s before out = grind (arith, nat_tests)

pub none_filled : (first byte s : ℕ) (before : List ℕ) → sector_filled first first byte before s ≡ before
none_filled first byte s before = elim (cases_lt s first) [
  | inl under ↦ filled_outside first first byte s before (inl under)
  | inr from ↦ filled_outside first first byte s before (inr from)
]

-- One more sector is no other sector.
filled_else : (first n byte s : ℕ) (before : List ℕ) → s ≢ n → sector_filled first n byte before s ≡ sector_filled first (n + 1) byte before s
filled_else first n byte s before apart = elim (cases_lt s first) [
  | inl under ↦ filled_outside first n byte s before (inl under) ∙ sym (filled_outside first (n + 1) byte s before (inl under))
  | inr from ↦ elim (cases_lt s n) [
    | inl below ↦ filled_inside first n byte s before from below ∙ sym (filled_inside first (n + 1) byte s before from (omega arith))
    | inr behind ↦ filled_outside first n byte s before (inr behind) ∙ sym (filled_outside first (n + 1) byte s before (inr (omega arith)))
  ]
]

-- The block of one more sector is filled.
pub fill_more : (ps : List (ℕ × ℕ)) (was blocks new : List (List ℕ)) (o : Option ℕ) (first n byte : ℕ) → AreOwn ps blocks → o ≡ place_at ps n → is_some (place_at ps n) ≡ true → first ≤ n → IfSome o (λ p. new ≡ set blocks p (replicate 512 byte)) → ((s : ℕ) → kept_sector (blocks_of ps blocks) s ≡ sector_filled first n byte (kept_sector (blocks_of ps was) s) s) → AreOwn ps new × ((s : ℕ) → kept_sector (blocks_of ps new) s ≡ sector_filled first (n + 1) byte (kept_sector (blocks_of ps was) s) s)
fill_more ps was blocks new None first n byte own at there from is so_far = absurd (let no = ap (λ (o : Option ℕ). is_some o) at ∙ there in cc)
fill_more ps was blocks new (Some p) first n byte own at there from is so_far =
    let v : List ℕ = replicate 512 byte in
    rw is (
      own_put ps blocks p v own (own.below n p (sym at)) (length-replicate 512 byte),
      λ s.
          ap (λ (o : Option (List ℕ)). unwrap_or o zeros) (one_block ps blocks n p v own (sym at) s)
          ∙ elim (cases_eq s n) [
            | inl same ↦
                ap (λ (o : Option (List ℕ)). unwrap_or o zeros) (chosen s n (Some v) _ same)
                ∙ sym (filled_inside first (n + 1) byte s (kept_sector (blocks_of ps was) s) (omega arith) (omega arith))
            | inr apart ↦
                ap (λ (o : Option (List ℕ)). unwrap_or o zeros) (other s n (Some v) _ apart)
                ∙ so_far s ∙ filled_else first n byte s (kept_sector (blocks_of ps was) s) apart
          ],
    )

-- So each sector is as after a write of so many bytes that are all the same.
pub filled_sector : (lba count byte s : ℕ) (before : List ℕ) → sector_filled lba (lba + count) byte before s ≡ sector_after lba (replicate (512 * count) byte) before s
filled_sector lba count byte s before =
    let bytes : List ℕ = replicate (512 * count) byte in
    let size : length bytes ≡ 512 * count = length-replicate (512 * count) byte in
    elim (cases_lt s lba) [
      | inl under ↦ filled_outside lba (lba + count) byte s before (inl under) ∙ sym (after_outside lba s bytes before (inl under))
      | inr from ↦ elim (cases_lt s (lba + count)) [
        | inl below ↦
            let part : take 512 (drop (512 * (s - lba)) bytes) ≡ replicate 512 byte =
            ap (take 512) (drop-replicate (512 * (s - lba)) (512 * count) byte)
            ∙ take-replicate 512 (512 * count - 512 * (s - lba)) byte (omega arith) in
            filled_inside lba (lba + count) byte s before from below
            ∙ sym part ∙ sym (after_inside lba s bytes before from (omega (arith, size)))
        | inr behind ↦ filled_outside lba (lba + count) byte s before (inr behind) ∙ sym (after_outside lba s bytes before (inr (omega (arith, size))))
      ]
    ]

pub filled_byte : (old new : StoredSectors) (lba count byte place : ℕ) → sector_at new (place / 512) ≡ sector_filled lba (lba + count) byte (sector_at old (place / 512)) (place / 512) → byte_at new place ≡ byte_after (512 * lba) (replicate (512 * count) byte) (byte_at old place) place
filled_byte old new lba count byte place is =
    let s : ℕ = place / 512 in
    let bytes : List ℕ = replicate (512 * count) byte in
    let size : length bytes ≡ 512 * count = length-replicate (512 * count) byte in
    let byte_is : (xs : List ℕ) → sector_filled lba (lba + count) byte (sector_at old s) s ≡ xs → byte_at new place ≡ get_or xs (place % 512) 0 =
    λ xs e. ap (λ (xs : List ℕ). get_or xs (place % 512) 0) (is ∙ e) in
    elim (cases_lt s lba) [
      | inl under ↦
          byte_is (sector_at old s) (filled_outside lba (lba + count) byte s (sector_at old s) (inl under))
          ∙ sym (byte_outside (512 * lba) bytes (byte_at old place) place (inl (omega arith)))
      | inr from ↦ elim (cases_lt s (lba + count)) [
        | inl below ↦
            byte_is (replicate 512 byte) (filled_inside lba (lba + count) byte s (sector_at old s) from below)
            ∙ get_or-replicate 512 (place % 512) byte 0 (omega arith)
            ∙ sym (byte_inside (512 * lba) bytes (byte_at old place) place (omega arith) (omega (arith, size))
            ∙ get_or-replicate (512 * count) (place - 512 * lba) byte 0 (omega arith))
        | inr behind ↦
            byte_is (sector_at old s) (filled_outside lba (lba + count) byte s (sector_at old s) (inr behind))
            ∙ sym (byte_outside (512 * lba) bytes (byte_at old place) place (inr (omega (arith, size))))
      ]
    ]

pub filled_among : (lba count s : ℕ) → is_among lba (lba + count) s ≡ has_byte (512 * lba) (512 * count) s
filled_among lba count s = grind (arith, nat_tests)

-- What was kept and each sector of a run: each sector of the run.
pub among_kept : (first end s : ℕ) (had : Bool) → first ≤ s → s < end → (had || is_among first end s) ≡ true
among_kept first end s true from below = refl
among_kept first end s false from below = is_between first end s from below

or_nothing : (had : Bool) → had ≡ (had || false)
or_nothing true = refl
or_nothing false = refl

-- A run of sectors that are all kept brings none.
pub none_kept : (has : ℕ → Bool) (first end : ℕ) → ((s : ℕ) → first ≤ s → s < end → has s ≡ true) → (s : ℕ) → has s ≡ (has s || is_among first end s)
none_kept has first end all s =
    elim (cases_Bool (is_among first end s)) [
      | inl is ↦ let it = between first end s is in rw (all s it.0 it.1) refl
      | inr not ↦ rw not (or_nothing (has s))
    ]
