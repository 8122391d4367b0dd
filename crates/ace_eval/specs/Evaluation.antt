-- The same as a function that can be computed: by the truths of the trees that are written so far, the latest first.
use Rattle.std.specs.Prelude.{Bool, false, ◌&&◌, ◌||◌, List, [], ◌∷◌, Option, None, Some, option_and_then}
use Rattle.sp_cells.specs.declared.names.Uid.{Uid}
use Rattle.sp_cells.specs.declared.cells.Element.{Element}
use Rattle.sp_cells.specs.declared.cells.Element.TheVariants.{Authority, And, Or}
use Rattle.ace_eval.specs.Truth.{has}

-- one element more; None where an operator lacks an operand
abbrev pub step : List Uid → Element → List Bool → Option (List Bool)
step held (Authority a) s = Some (has held a ∷ s)
step held And [] = None
step held And (r ∷ []) = None
step held And (r ∷ l ∷ s) = Some ((l && r) ∷ s)
step held Or [] = None
step held Or (r ∷ []) = None
step held Or (r ∷ l ∷ s) = Some ((l || r) ∷ s)

abbrev pub run : List Uid → List Element → List Bool → Option (List Bool)
run held [] s = Some s
run held (e ∷ es) s = option_and_then (run held es) (step held e s)

-- there is one tree, and it is true
abbrev pub is_true : Option (List Bool) → Bool
is_true None = false
is_true (Some []) = false
is_true (Some (b ∷ [])) = b
is_true (Some (b ∷ c ∷ s)) = false

-- the elements write a tree that is true
abbrev pub is_satisfied : List Uid → List Element → Bool
is_satisfied held elements = is_true (run held elements [])
