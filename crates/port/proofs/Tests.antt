-- Tests of the numbers below a bound.
use Rattle.std.proofs.Common.{◌≡◌, ℕ, zero, suc, ◌<◌, Bool, true, false, refl, arith, inl, inr}
use Rattle.std.proofs.lemmas.Bool.{or_left, or_right, cases_lt}
use Rattle.history.specs.Decisions.{any_below}

-- one that passes is enough
pub any_below_at : (p : ℕ → Bool) (n k : ℕ) → p k ≡ true → k < n → any_below p n ≡ true
unfolding any_below
any_below_at p zero k h lt = absurd (omega arith)
any_below_at p (suc n) k h lt =
    elim (cases_lt k n) [
      | inl below ↦ or_right (p n) (any_below p n) (any_below_at p n k h below)
      | inr le ↦ let e : k ≡ n = omega arith in or_left (p n) (any_below p n) (rw e at h)
    ]

-- none passes
pub none_below : (p : ℕ → Bool) (n : ℕ) → ((k : ℕ) → k < n → p k ≡ false) → any_below p n ≡ false
unfolding any_below
none_below p zero h = refl
none_below p (suc n) h = rw (h n (omega arith), none_below p n (λ k lt. h k (omega arith))) refl

-- tests that agree at each number
pub any_below-agree : (p q : ℕ → Bool) (n : ℕ) → ((k : ℕ) → k < n → p k ≡ q k) → any_below p n ≡ any_below q n
unfolding any_below
any_below-agree p q zero h = refl
any_below-agree p q (suc n) h = rw (h n (omega arith), any_below-agree p q n (λ k lt. h k (omega arith))) refl
