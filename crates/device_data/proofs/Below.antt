-- Tests of the numbers below a bound, one more at a time.
use Rattle.std.proofs.Common.{◌≡◌, ◌∙◌, ℕ, ◌+◌, Bool, ◌||◌, refl, ap, add-one}
use Rattle.device_data.specs.Discovery.{any_range_below}

pub any_range_below-next : (p : ℕ → Bool) (n : ℕ) → any_range_below p (n + 1) ≡ (any_range_below p n || p n)
unfolding any_range_below
any_range_below-next p n = ap (any_range_below p) (add-one n) ∙ refl
