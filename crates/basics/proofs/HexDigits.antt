-- Hex digits by arithmetic.
use Rattle.std.proofs.Common.{◌≡◌, ℕ, zero, suc, ◌+◌, ◌<◌, ◌≤◌, ◌==◌, ◌&&◌, nat_lt, Bool, true, slice_index, refl, sym, ◌∙◌, arith, inl, inr}
use Rattle.std.specs.Prelude.{if◌then◌else◌}
use Rattle.std.proofs.lemmas.Bool.{and_parts, eqb-true, cases_eq}
use Rattle.std.proofs.lemmas.Bool.Decides.{nat_tests}
use Rattle.hex.specs.Hex.{lower_digits}

-- a digit of a number below 16
abbrev digit_of : ℕ → ℕ
digit_of n = if nat_lt 9 n then n + 87 else n + 48

abbrev all_spelt : ℕ → Bool
all_spelt zero = true
all_spelt (suc n) = (slice_index lower_digits n == digit_of n) && all_spelt n

spelt_at : (n k : ℕ) → all_spelt n ≡ true → k < n → slice_index lower_digits k ≡ digit_of k
spelt_at zero k all below = absurd (omega arith)
spelt_at (suc n) k all below =
    let parts = and_parts (slice_index lower_digits n == digit_of n) (all_spelt n) all in
    elim (cases_eq k n) [
      | inl same ↦ rw same (eqb-true (slice_index lower_digits n) (digit_of n) parts.0)
      | inr apart ↦ spelt_at n k parts.1 (omega arith)
    ]

pub letter : (n : ℕ) → n < 16 → 9 < n → n + 87 ≡ slice_index lower_digits n
letter n small more = let is = spelt_at 16 n refl small in sym (is ∙ grind (arith, nat_tests))

pub numeral : (n : ℕ) → n < 16 → n ≤ 9 → n + 48 ≡ slice_index lower_digits n
numeral n small few = let is = spelt_at 16 n refl small in sym (is ∙ grind (arith, nat_tests))
