-- The sectors that some bytes stand in.
use Rattle.std.proofs.Common.{◌≡◌, ℕ, ◌+◌, ◌/◌, ◌%◌, ◌<◌, ◌≤◌, ◌-◌, ◌*◌, ◌||◌, ◌&&◌, Bool, true, false, refl, ap, sym, ◌∙◌, nat_eq, nat_le, nat_lt, arith, inl, inr}
use Rattle.std.proofs.lemmas.Bool.{cases_lt, cases_Bool}
use Rattle.std.proofs.lemmas.Bool.Decides.{nat_tests}
use Rattle.shadow_mbr.specs.Stored.{has_byte}

-- The sector of each of the bytes has one of them.
pub touched : (at len place : ℕ) → at ≤ place → place < at + len → has_byte at len (place / 512) ≡ true
touched at len place from below = grind (arith, nat_tests)

-- One more piece, which is within a sector, has one more sector.
pub one_piece : (at done n s : ℕ) → 0 < n → (at + done) % 512 + n ≤ 512 → has_byte at (done + n) s ≡ (has_byte at done s || nat_eq s ((at + done) / 512))
one_piece at done n s some fits = grind (arith, nat_tests)

-- The sectors that have one of some bytes are those between the first and the last.
pub has_byte_between : (at len s : ℕ) → 0 < len → has_byte at len s ≡ (nat_le (at / 512) s && nat_lt s ((at + len - 1) / 512 + 1))
has_byte_between at len s some = grind (arith, nat_tests)

-- A sector that has one of the bytes is the sector of one of them.
first_touched : (at len s : ℕ) → has_byte at len s ≡ true → (place : ℕ) × (at ≤ place) × (place < at + len) × (place / 512 ≡ s)
first_touched at len s has =
    let some : 0 < len = grind (arith, nat_tests) in
    let before : 512 * s < at + len = grind (arith, nat_tests) in
    let behind : at < 512 * s + 512 = grind (arith, nat_tests) in
    elim (cases_lt at (512 * s)) [
      | inl under ↦ (512 * s, omega arith, before, omega arith)
      | inr from ↦ (at, omega arith, omega arith, omega arith)
    ]

-- A sector between the first and the last.
pub is_between : (first end s : ℕ) → first ≤ s → s < end → (nat_le first s && nat_lt s end) ≡ true
is_between first end s from below = grind (arith, nat_tests)

pub between : (first end s : ℕ) → (nat_le first s && nat_lt s end) ≡ true → (first ≤ s) × (s < end)
between first end s is = (grind (arith, nat_tests), grind (arith, nat_tests))

-- Where each of the bytes is in a sector of some, so is each sector that has one.
pub all_touched : (p : ℕ → Bool) (at len : ℕ) → ((place : ℕ) → at ≤ place → place < at + len → p (place / 512) ≡ true) → (s : ℕ) → has_byte at len s ≡ true → p s ≡ true
all_touched p at len each s has = let it = first_touched at len s has in sym (ap p it.3) ∙ each it.0 it.1 it.2

-- What some sectors have, all that have one of the bytes among them, stays so with those.
pub none_new : (p : ℕ → Bool) (at len : ℕ) → ((place : ℕ) → at ≤ place → place < at + len → p (place / 512) ≡ true) → (s : ℕ) → p s ≡ (p s || has_byte at len s)
none_new p at len each s =
    elim (cases_Bool (has_byte at len s)) [
      | inl is ↦ rw (all_touched p at len each s is) refl
      | inr not ↦ rw not (or_none (p s))
    ]
  where
    or_none : (b : Bool) → b ≡ (b || false)
    or_none true = refl
    or_none false = refl
