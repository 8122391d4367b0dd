-- Lines of the numbers below a bound, one more at a time.
use Rattle.std.proofs.Common.{◌≡◌, ◌∙◌, ℕ, ◌+◌, List, [], ◌++◌, refl, ap, add-one}
use Rattle.decoded.specs.Listings.{lines_below}

pub no_lines : (line : ℕ → List ℕ) → lines_below line 0 ≡ []
unfolding lines_below
no_lines line = refl

pub lines_below_next : (line : ℕ → List ℕ) (n : ℕ) → lines_below line (n + 1) ≡ lines_below line n ++ line n
unfolding lines_below
lines_below_next line n = ap (lines_below line) (add-one n) ∙ refl
