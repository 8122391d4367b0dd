-- The list of a function's values.
use Rattle.std.specs.Prelude.{ℕ, zero, suc, List, [], ◌∷◌, ◌++◌}

-- its values at the numbers below a bound, from 0 on
unfoldable pub values_below : {A : Type 0} → (ℕ → A) → ℕ → List A
values_below f zero = []
values_below f (suc n) = values_below f n ++ f n ∷ []
