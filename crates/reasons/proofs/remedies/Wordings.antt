-- Texts that wait are those of the trees that wait.
use Rattle.std.proofs.Common.{suc, ◌≡◌, ℕ, ◌<◌, ◌≤◌, List, [], ◌∷◌, Option, None, Some, option_and_then, refl, sym, ◌∙◌, ap, map, length, drop, get_or, drop-cons}
use Rattle.std.specs.Prelude.{option_map}
use Rattle.std.proofs.lemmas.List.{drop_all}
use Rattle.sp_cells.specs.declared.cells.Element.{Element}
use Rattle.sp_cells.specs.declared.cells.Element.TheVariants.{Authority, And, Or}
use Rattle.sp_cells.specs.Expressions.{ExpressionTree, leaf, both, either}
use Rattle.reasons.specs.Trees.{trees_behind, lone, tree_written}
use Rattle.reasons.specs.Phrases.{Wording, wording, wording_text, tree_text, worded, wordings_behind}

of_trees : (es : List Element) (ts : List ExpressionTree) → wordings_behind es (map wording ts) ≡ option_map (map wording) (trees_behind es ts)
of_trees [] ts = refl
of_trees (Authority a ∷ es) ts = of_trees es (leaf a ∷ ts)
of_trees (And ∷ es) [] = refl
of_trees (And ∷ es) (r ∷ []) = refl
of_trees (And ∷ es) (r ∷ l ∷ ts) = of_trees es (both l r ∷ ts)
of_trees (Or ∷ es) [] = refl
of_trees (Or ∷ es) (r ∷ []) = refl
of_trees (Or ∷ es) (r ∷ l ∷ ts) = of_trees es (either l r ∷ ts)

lone_text : (o : Option (List ExpressionTree)) → option_map wording_text (lone (option_map (map wording) o)) ≡ option_map tree_text (lone o)
lone_text None = refl
lone_text (Some []) = refl
lone_text (Some (t ∷ [])) = refl
lone_text (Some (t ∷ u ∷ ts)) = refl

-- the text that waits alone is that of the tree that the elements write
pub text_written : (es : List Element) → option_map wording_text (lone (wordings_behind es [])) ≡ option_map tree_text (tree_written es)
text_written es = ap (λ o. option_map wording_text (lone o)) (of_trees es []) ∙ lone_text (trees_behind es [])

-- the run stops at an element
pub stops : (es : List Element) (i : ℕ) (ws : List Wording) (e : Element) → i < length es → wordings_behind (drop i es) ws ≡ wordings_behind es [] → worded (get_or es i e) ws ≡ None → wordings_behind es [] ≡ None
stops es i ws e lt inv h = sym inv ∙ ap (λ x. wordings_behind x ws) (drop-cons es i e lt) ∙ ap (λ x. option_and_then (wordings_behind (drop (suc i) es)) x) h

-- the run comes to the end
pub ends : (es : List Element) (i : ℕ) (ws : List Wording) → length es ≤ i → wordings_behind (drop i es) ws ≡ wordings_behind es [] → wordings_behind es [] ≡ Some ws
ends es i ws le inv = sym inv ∙ ap (λ x. wordings_behind x ws) (drop_all i es le)
