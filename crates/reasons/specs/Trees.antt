-- The tree of which the elements of an expression are the postorder (Core 2.01, section 5.1.3, the type
-- ACE_expression), as a function that can be computed.
use Rattle.std.specs.Prelude.{◌≡◌, List, [], ◌∷◌, Option, None, Some, option_and_then}
use Rattle.sp_cells.specs.declared.cells.Element.{Element}
use Rattle.sp_cells.specs.declared.cells.Element.TheVariants.{Authority, And, Or}
use Rattle.sp_cells.specs.Expressions.{ExpressionTree, leaf, both, either, postorder}

-- one element more, behind the trees that wait, the latest first; None where an operator lacks an operand
abbrev pub grown : Element → List ExpressionTree → Option (List ExpressionTree)
grown (Authority a) ts = Some (leaf a ∷ ts)
grown And [] = None
grown And (r ∷ []) = None
grown And (r ∷ l ∷ ts) = Some (both l r ∷ ts)
grown Or [] = None
grown Or (r ∷ []) = None
grown Or (r ∷ l ∷ ts) = Some (either l r ∷ ts)

abbrev pub trees_behind : List Element → List ExpressionTree → Option (List ExpressionTree)
trees_behind [] ts = Some ts
trees_behind (e ∷ es) ts = option_and_then (trees_behind es) (grown e ts)

-- what there is one of
abbrev pub lone : {A : Type 0} → Option (List A) → Option A
lone None = None
lone (Some []) = None
lone (Some (x ∷ [])) = Some x
lone (Some (x ∷ y ∷ zs)) = None

abbrev pub tree_written : List Element → Option ExpressionTree
tree_written elements = lone (trees_behind elements [])

-- It is that tree, and there is none where the elements are the postorder of none.
abbrev pub WrittenTreeLaw : Type 0
WrittenTreeLaw =
    (elements : List Element) (t : ExpressionTree)
    → (tree_written elements ≡ Some t → elements ≡ postorder t)
    × (elements ≡ postorder t → tree_written elements ≡ Some t)
