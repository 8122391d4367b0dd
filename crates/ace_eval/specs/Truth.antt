-- When an expression holds (Core 2.01, section 5.1.3, the type ACE_expression; section 5.3, on access control).
use Rattle.std.specs.Prelude.{◌≡◌, ◌==◌, Bool, true, ◌&&◌, ◌||◌, List}
use Rattle.std.specs.List.{list_any}
use Rattle.sp_cells.specs.declared.names.Uid.{Uid}
use Rattle.sp_cells.specs.declared.cells.Element.{Element}
use Rattle.sp_cells.specs.Expressions.{ExpressionTree, leaf, both, either, postorder}

-- the authority is among those held
abbrev pub has : List Uid → Uid → Bool
has held a = list_any (λ u. u.0 == a.0) held

-- a leaf is true where its authority is held
abbrev pub truth : List Uid → ExpressionTree → Bool
truth held (leaf a) = has held a
truth held (both l r) = truth held l && truth held r
truth held (either l r) = truth held l || truth held r

-- the elements are the postorder writing of a tree that is true for those held
abbrev pub Holds : List Uid → List Element → Type 0
Holds held elements = (t : ExpressionTree) × (elements ≡ postorder t) × (truth held t ≡ true)
