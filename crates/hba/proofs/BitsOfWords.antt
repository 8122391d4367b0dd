-- Bits of words.
use Rattle.std.proofs.Common.{◌≡◌, ℕ, ◌-◌, ◌^◌, ◌<◌, min, zero, suc, Bool, true, false, not, refl, ap, arith, ◌∙◌}
use Rattle.std.specs.Prelude.{◌==◌, ◌&&◌, ◌||◌, bit_or, max}
use Rattle.std.specs.Int.{bit_at, bit_not, w32}
use Rattle.std.proofs.lemmas.Nat.{pow_below}
use Rattle.std.proofs.lemmas.Nat.Bits.{bit_at-zero, bit_at-lt, bit_at_or, bit_at_and, bit_at_not, bit_at-pow_same, bit_at-pow_other}
use Rattle.hba_regs.specs.Registers.{without}
use Rattle.hba.specs.BitLaws.{word_has}

pub equal : (n m : ℕ) → n ≡ m → (n == m) ≡ true
equal n m h = grind arith

not_equal : (n m : ℕ) → (n ≡ m → ⊥) → (n == m) ≡ false
not_equal n m h = grind arith

pub has_zero : (bit : ℕ) → word_has 0 bit ≡ false
has_zero bit = ap (λ (n : ℕ). n == 1) (bit_at-zero bit)

either : (a b : ℕ) → a < 2 → b < 2 → (max a b == 1) ≡ (a == 1 || b == 1)
either zero zero p q = refl
either zero (suc zero) p q = refl
either (suc zero) zero p q = refl
either (suc zero) (suc zero) p q = refl
either (suc (suc n)) b p q = absurd (omega arith)
either zero (suc (suc n)) p q = absurd (omega arith)
either (suc zero) (suc (suc n)) p q = absurd (omega arith)

pub has_or : (word other bit : ℕ) → word_has (bit_or word other) bit ≡ (word_has word bit || word_has other bit)
has_or word other bit =
    ap (λ (n : ℕ). n == 1) (bit_at_or word other bit)
    ∙ either (bit_at word bit) (bit_at other bit) (bit_at-lt word bit) (bit_at-lt other bit)

one_not : (a b : ℕ) → a < 2 → b < 2 → (min a (1 - b) == 1) ≡ (not (b == 1) && a == 1)
one_not zero zero p q = refl
one_not zero (suc zero) p q = refl
one_not (suc zero) zero p q = refl
one_not (suc zero) (suc zero) p q = refl
one_not (suc (suc n)) b p q = absurd (omega arith)
one_not zero (suc (suc n)) p q = absurd (omega arith)
one_not (suc zero) (suc (suc n)) p q = absurd (omega arith)

pub has_without : (word mask bit : ℕ) → mask < 2 ^ 32 → bit < 32
    → word_has (without word mask) bit ≡ (not (word_has mask bit) && word_has word bit)
has_without word mask bit fits below =
    ap (λ (n : ℕ). n == 1) (bit_at_and word (bit_not w32 mask) bit)
    ∙ ap (λ (n : ℕ). min (bit_at word bit) n == 1) (bit_at_not w32 mask bit fits below)
    ∙ one_not (bit_at word bit) (bit_at mask bit) (bit_at-lt word bit) (bit_at-lt mask bit)

by_same : (k bit : ℕ) (same : Bool) → (k == bit) ≡ same → word_has (2 ^ k) bit ≡ same
by_same k bit true e =
    let is : k ≡ bit = grind arith in
    rw (← is) (ap (λ (n : ℕ). n == 1) (bit_at-pow_same k))
by_same k bit false e = ap (λ (n : ℕ). n == 1) (bit_at-pow_other k bit (λ is. absurd (grind arith)))

pub has_pow : (k bit : ℕ) → word_has (2 ^ k) bit ≡ (k == bit)
has_pow k bit = by_same k bit (k == bit) refl

pow_fits : (k : ℕ) → k < 32 → 2 ^ k < 2 ^ 32
pow_fits k h = pow_below k 32 h

pub has_without_one : (word k bit : ℕ) → k < 32 → bit < 32
    → word_has (without word (2 ^ k)) bit ≡ (not (k == bit) && word_has word bit)
has_without_one word k bit fits below =
    has_without word (2 ^ k) bit (pow_fits k fits) below
    ∙ ap (λ (b : Bool). not b && word_has word bit) (has_pow k bit)
