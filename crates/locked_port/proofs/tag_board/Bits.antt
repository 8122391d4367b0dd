-- Single bits of a word.
use Rattle.std.proofs.Common.{◌≡◌, ◌≢◌, ◌⊎◌, ◌↔◌, ℕ, zero, suc, ◌+◌, ◌-◌, ◌*◌, ◌^◌, ◌<◌, ◌≤◌, ◌==◌, Bool, true, false, not, nat_eq, IsTrue, bit_and, bit_or, if◌then◌else◌, refl, sym, ap, ◌∙◌, inl, inr, subst, arith, ⊎_elim, true≢false, lt_of_not-le, zero-mul, one-mul}
use Rattle.std.specs.Int.{bit_at, bit_not, w64}
use Rattle.std.proofs.lemmas.Nat.{pow_pos, pow_below}
use Rattle.std.proofs.lemmas.Nat.Bits.{bit_at_or, bit_at_and, bit_at-pow_same, bit_at-pow_other, bit_at-lt, and_pow, bit_at_not}
use Rattle.std.proofs.lemmas.Bool.Decides.{nat_tests}
use mathlib.Core.Logic.{dite}
use native.Mathlib.Decide.{dec_le, ℕ_discrete}

pub zero_or_one : (b : ℕ) → b < 2 → (b ≡ 0) ⊎ (b ≡ 1)
zero_or_one zero h = inl refl
zero_or_one (suc zero) h = inr refl
zero_or_one (suc (suc b)) h = absurd (omega arith)

pub bit_cases : (n k : ℕ) → (bit_at n k ≡ 0) ⊎ (bit_at n k ≡ 1)
bit_cases n k = zero_or_one (bit_at n k) (bit_at-lt n k)

pub pow_same : (j k : ℕ) → 2 ^ j ≡ 2 ^ k → j ≡ k
pow_same j k e =
    dite (ℕ_discrete j k) (λ p. p) (λ ne. let a = bit_at-pow_same j in let b = bit_at-pow_other k j ne in let c : 1 ≡ 0 = sym a ∙ ap (λ n. bit_at n j) e ∙ b in absurd (omega arith))

pub or_same : (a k : ℕ) → bit_at (bit_or a (2 ^ k)) k ≡ 1
or_same a k = let l = bit_at-lt a k in bit_at_or a (2 ^ k) k ∙ most (bit_at a k) (bit_at (2 ^ k) k) l (bit_at-pow_same k)
  where
    most : (x y : ℕ) → x < 2 → y ≡ 1 → Rattle.std.proofs.Common.max x y ≡ 1
    most x y l e = omega arith

pub or_other : (a k j : ℕ) → j ≢ k → bit_at (bit_or a (2 ^ k)) j ≡ bit_at a j
or_other a k j ne = bit_at_or a (2 ^ k) j ∙ most (bit_at a j) (bit_at (2 ^ k) j) (bit_at-pow_other k j ne)
  where
    most : (x y : ℕ) → y ≡ 0 → Rattle.std.proofs.Common.max x y ≡ x
    most x y e = omega arith

-- the test `n & (1 << k) != 0`
pub tested : (n k : ℕ) → IsTrue (not (nat_eq (bit_and n (2 ^ k)) 0)) ↔ (bit_at n k ≡ 1)
tested n k = at (bit_at n k) (bit_cases n k) (and_pow n k)
  where
    at : (b : ℕ) → (b ≡ 0) ⊎ (b ≡ 1) → bit_and n (2 ^ k) ≡ b * 2 ^ k → IsTrue (not (nat_eq (bit_and n (2 ^ k)) 0)) ↔ (b ≡ 1)
    at b (inl z) e = let zero_is : bit_and n (2 ^ k) ≡ 0 = e ∙ ap (λ x. x * 2 ^ k) z ∙ zero-mul (2 ^ k) in rw zero_is ((λ h. absurd (true≢false (sym h))), (λ h. absurd (omega arith)))
    at b (inr z) e = let p = pow_pos k in let is : bit_and n (2 ^ k) ≡ 2 ^ k = e ∙ ap (λ x. x * 2 ^ k) z ∙ one-mul (2 ^ k) in ((λ _. z), (λ _. rw is (grind (arith, nat_tests))))

-- `!(1 << k)`
abbrev pub keep : ℕ → ℕ
keep k = bit_not w64 (2 ^ k)

pub keep_same : (x k : ℕ) → k < 64 → bit_at (bit_and x (keep k)) k ≡ 0
keep_same x k lt =
    bit_at_and x (keep k) k ∙ least (bit_at x k) (bit_at (keep k) k) (bit_at_not w64 (2 ^ k) k (pow_below k 64 lt) lt ∙ ap (λ b. 1 - b) (bit_at-pow_same k))
  where
    least : (x y : ℕ) → y ≡ 0 → Rattle.std.proofs.Common.min x y ≡ 0
    least x y e = omega arith

pub keep_none : (x m j : ℕ) → bit_at x j ≡ 0 → bit_at (bit_and x m) j ≡ 0
keep_none x m j e = bit_at_and x m j ∙ least (bit_at x j) (bit_at m j) e
  where
    least : (x y : ℕ) → x ≡ 0 → Rattle.std.proofs.Common.min x y ≡ 0
    least x y e = omega arith

pub keep_low : (x k j : ℕ) → k < 64 → j < 64 → j ≢ k → bit_at (bit_and x (keep k)) j ≡ bit_at x j
keep_low x k j lt low ne =
    bit_at_and x (keep k) j ∙ least (bit_at x j) (bit_at (keep k) j) (bit_at-lt x j) (bit_at_not w64 (2 ^ k) j (pow_below k 64 lt) low ∙ ap (λ b. 1 - b) (bit_at-pow_other k j ne))
  where
    least : (x y : ℕ) → x < 2 → y ≡ 1 → Rattle.std.proofs.Common.min x y ≡ x
    least x y l e = omega arith

-- of a number whose bits from 64 on are clear
pub keep_other : (x k j : ℕ) → k < 64 → (64 ≤ j → bit_at x j ≡ 0) → j ≢ k → bit_at (bit_and x (keep k)) j ≡ bit_at x j
keep_other x k j lt high ne = dite (dec_le 64 j) (λ le. keep_none x (keep k) j (high le) ∙ sym (high le)) (λ n. keep_low x k j lt (lt_of_not-le n) ne)

-- where one of two words at most has a bit
pub no_meeting : (v w j : ℕ) → bit_at v j + bit_at w j < 2 → bit_at v j * bit_at w j ≡ 0
no_meeting v w j lt = at (bit_at v j) (bit_at w j) (bit_cases v j) lt
  where
    at : (x y : ℕ) → (x ≡ 0) ⊎ (x ≡ 1) → x + y < 2 → x * y ≡ 0
    at x y (inl z) lt = rw z (zero-mul y)
    at x y (inr z) lt = rw z (let e : y ≡ 0 = omega arith in one-mul y ∙ e)

-- where both have it not, and one has it
pub other_lacks : (v w j : ℕ) → bit_at v j * bit_at w j ≡ 0 → bit_at v j ≡ 1 → bit_at w j ≡ 0
other_lacks v w j e h = sym (one-mul (bit_at w j)) ∙ ap (λ x. x * bit_at w j) (sym h) ∙ e
