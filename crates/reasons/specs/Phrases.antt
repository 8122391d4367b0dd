-- Expressions as text (this project): the names of authorities with `and` and `or` between them, as
-- `Admins or User1`. An `or` under an `and` stands in parentheses, and nothing else does:
-- `(Admins or User1) and User2`, `Admins or User1 and User2`.
use Rattle.std.specs.Prelude.{ℕ, Bool, true, false, List, [], ◌∷◌, ◌++◌, Option, None, Some, option_map, option_and_then, unwrap_or, codes, if◌then◌else◌}
use Rattle.sp_cells.specs.declared.names.Uid.{Uid}
use Rattle.sp_cells.specs.declared.cells.Element.{Element}
use Rattle.sp_cells.specs.declared.cells.Element.TheVariants.{Authority, And, Or}
use Rattle.sp_cells.specs.Expressions.{ExpressionTree, leaf, both, either}
use Rattle.reasons.specs.Called.{called_object}
use Rattle.reasons.specs.Trees.{tree_written}

abbrev pub is_either : ExpressionTree → Bool
is_either (leaf a) = false
is_either (both l r) = false
is_either (either l r) = true

abbrev pub in_parentheses : Bool → List ℕ → List ℕ
in_parentheses is text = if is then codes "(" ++ text ++ codes ")" else text

abbrev pub tree_text : ExpressionTree → List ℕ
tree_text (leaf a) = called_object a
tree_text (both l r) = in_parentheses (is_either l) (tree_text l) ++ codes " and "
    ++ in_parentheses (is_either r) (tree_text r)
tree_text (either l r) = tree_text l ++ codes " or " ++ tree_text r

-- nobody fulfils an expression that writes no tree
abbrev pub expression_text : List Element → List ℕ
expression_text elements =
    unwrap_or (option_map tree_text (tree_written elements)) (codes "nobody")

-- The same over texts in place of trees: a text, and whether it is that of an `or`.
abbrev pub Wording : Type 0
Wording = List ℕ × Bool

abbrev pub wording : ExpressionTree → Wording
wording t = (tree_text t, is_either t)

-- the text alone
abbrev pub wording_text : Wording → List ℕ
wording_text w = w.0

abbrev pub authority_worded : Uid → Wording
authority_worded authority = (called_object authority, false)

-- two operands under `and`, and under `or`
abbrev pub both_worded : Wording → Wording → Wording
both_worded l r =
    (in_parentheses l.1 l.0 ++ codes " and " ++ in_parentheses r.1 r.0, false)

abbrev pub either_worded : Wording → Wording → Wording
either_worded l r = (l.0 ++ codes " or " ++ r.0, true)

-- one element more, behind the texts that wait, the latest first; None where an operator lacks an operand
abbrev pub worded : Element → List Wording → Option (List Wording)
worded (Authority a) ws = Some (authority_worded a ∷ ws)
worded And [] = None
worded And (r ∷ []) = None
worded And (r ∷ l ∷ ws) = Some (both_worded l r ∷ ws)
worded Or [] = None
worded Or (r ∷ []) = None
worded Or (r ∷ l ∷ ws) = Some (either_worded l r ∷ ws)

abbrev pub wordings_behind : List Element → List Wording → Option (List Wording)
wordings_behind [] ws = Some ws
wordings_behind (e ∷ es) ws = option_and_then (wordings_behind es) (worded e ws)
