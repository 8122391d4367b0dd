-- Expressions over authorities (Core 2.01, section 5.1.3, the type ACE_expression).
use Rattle.std.specs.Prelude.{◌≡◌, ◌==◌, ◌-◌, ℕ, suc, Bool, true, ◌&&◌, nat_lt, List, [], ◌∷◌, ◌++◌}
use Rattle.std.specs.List.{list_any, list_all}
use Rattle.sp_cells.specs.declared.names.Uid.{Uid}
use Rattle.sp_cells.specs.declared.cells.Element.{Element}
use Rattle.sp_cells.specs.declared.cells.Element.TheVariants.{Authority, And, Or}
use Rattle.sp_cells.specs.Authorities.{authorities_of_locking}

-- a boolean expression
pub data ExpressionTree : Type 0 where
  leaf : Uid → ExpressionTree
  both : ExpressionTree → ExpressionTree → ExpressionTree
  either : ExpressionTree → ExpressionTree → ExpressionTree

-- the tree, written in postorder
abbrev pub postorder : ExpressionTree → List Element
postorder (leaf a) = Authority a ∷ []
postorder (both l r) = postorder l ++ postorder r ++ And ∷ []
postorder (either l r) = postorder l ++ postorder r ++ Or ∷ []

-- the elements write one tree
abbrev pub WritesTree : List Element → Type 0
WritesTree elements = (t : ExpressionTree) × (elements ≡ postorder t)

-- behind n trees these elements make one of them all
abbrev pub completes : ℕ → List Element → Bool
completes n [] = n == 1
completes n (Authority a ∷ es) = completes (suc n) es
completes n (And ∷ es) = nat_lt 1 n && completes (n - 1) es
completes n (Or ∷ es) = nat_lt 1 n && completes (n - 1) es

-- the authority is one of the Locking SP
abbrev pub is_locking_authority : Uid → Bool
is_locking_authority authority = list_any (λ a. a.0 == authority.0) authorities_of_locking

-- an authority among the elements is one of the Locking SP
abbrev pub is_known_element : Element → Bool
is_known_element (Authority a) = is_locking_authority a
is_known_element And = true
is_known_element Or = true

-- each authority is
abbrev pub are_known : List Element → Bool
are_known elements = list_all is_known_element elements
