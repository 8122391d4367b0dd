-- What is computed is the truth of the tree.
use Rattle.std.proofs.Common.{suc, ◌≡◌, Bool, true, List, [], ◌∷◌, ◌++◌, Option, None, Some, option_and_then, append_assoc, append-nil, refl, sym, ◌∙◌, ap, map, ◌↔◌, IsTrue, ℕ, ◌<◌, ◌≤◌, length, drop, get_or, drop-cons}
use Rattle.std.proofs.lemmas.List.{drop_all}
use Rattle.sp_cells.specs.declared.names.Uid.{Uid}
use Rattle.sp_cells.specs.declared.cells.Element.{Element}
use Rattle.sp_cells.specs.declared.cells.Element.TheVariants.{Authority, And, Or}
use Rattle.sp_cells.specs.Expressions.{ExpressionTree, leaf, both, either, postorder}
use Rattle.ace_eval.specs.Truth.{truth, Holds}
use Rattle.ace_eval.specs.Evaluation.{step, run, is_true, is_satisfied}

-- a tree that is written out leaves its truth
pub run-postorder : (held : List Uid) (t : ExpressionTree) (rest : List Element) (s : List Bool) → run held (postorder t ++ rest) s ≡ run held rest (truth held t ∷ s)
run-postorder held (leaf a) rest s = refl
run-postorder held (both l r) rest s =
    rw (append_assoc, append_assoc) (run-postorder held l (postorder r ++ And ∷ rest) s ∙ run-postorder held r (And ∷ rest) (truth held l ∷ s))
run-postorder held (either l r) rest s =
    rw (append_assoc, append_assoc) (run-postorder held l (postorder r ++ Or ∷ rest) s ∙ run-postorder held r (Or ∷ rest) (truth held l ∷ s))

-- the elements that made the waiting trees, the latest first
pub written : List ExpressionTree → List Element
written [] = []
written (t ∷ ts) = written ts ++ postorder t

-- what is accepted is a tree
pub run-sound : (held : List Uid) (es : List Element) (ts : List ExpressionTree) (b : Bool) → run held es (map (truth held) ts) ≡ Some (b ∷ []) → (t : ExpressionTree) × (written ts ++ es ≡ postorder t) × (truth held t ≡ b)
unfolding written
run-sound held [] [] b h = cc
run-sound held [] (t ∷ []) b h = (t, append-nil ([] ++ postorder t), (cc))
run-sound held [] (t ∷ u ∷ ts) b h = cc
run-sound held (Authority a ∷ es) ts b h = let r = run-sound held es (leaf a ∷ ts) b h in (r.0, (rw append_assoc at r.1), r.2)
run-sound held (And ∷ es) [] b h = cc
run-sound held (And ∷ es) (r ∷ []) b h = cc
run-sound held (And ∷ es) (r ∷ l ∷ ts) b h = let q = run-sound held es (both l r ∷ ts) b h in (q.0, simp append_assoc (simp append_assoc at q.1), q.2)
run-sound held (Or ∷ es) [] b h = cc
run-sound held (Or ∷ es) (r ∷ []) b h = cc
run-sound held (Or ∷ es) (r ∷ l ∷ ts) b h = let q = run-sound held es (either l r ∷ ts) b h in (q.0, simp append_assoc (simp append_assoc at q.1), q.2)

run-tree : (held : List Uid) (t : ExpressionTree) → run held (postorder t) [] ≡ Some (truth held t ∷ [])
run-tree held t = rw (← append-nil (postorder t)) (run-postorder held t [] [])

only_true : (held : List Uid) (es : List Element) (o : Option (List Bool)) → run held es [] ≡ o → is_true o ≡ true → Holds held es
unfolding written
only_true held es None is h = cc
only_true held es (Some []) is h = cc
only_true held es (Some (b ∷ [])) is h = let q = run-sound held es [] b is in (q.0, q.1, q.2 ∙ h)
only_true held es (Some (b ∷ c ∷ s)) is h = cc

pub satisfied-holds : (held : List Uid) (es : List Element) → is_satisfied held es ≡ true → Holds held es
satisfied-holds held es h = only_true held es (run held es []) refl h

pub holds-satisfied : (held : List Uid) (es : List Element) → Holds held es → is_satisfied held es ≡ true
holds-satisfied held es (t, w, e) = ap (λ x. is_true (run held x [])) w ∙ ap is_true (run-tree held t) ∙ e

pub holds_both : (held : List Uid) (es : List Element) (b : Bool) → b ≡ is_satisfied held es → IsTrue b ↔ Holds held es
holds_both held es b is = ((λ e. satisfied-holds held es (sym is ∙ e)), (λ h. is ∙ holds-satisfied held es h))

pub ruleset evaluated = (holds_both)

-- the evaluation stops at an element
pub stops : (held : List Uid) (es : List Element) (i : ℕ) (s : List Bool) (e : Element) → i < length es → run held (drop i es) s ≡ run held es [] → step held (get_or es i e) s ≡ None → run held es [] ≡ None
stops held es i s e lt inv h = sym inv ∙ ap (λ x. run held x s) (drop-cons es i e lt) ∙ ap (λ x. option_and_then (run held (drop (suc i) es)) x) h

-- the evaluation comes to the end
pub ends : (held : List Uid) (es : List Element) (i : ℕ) (s : List Bool) → length es ≤ i → run held (drop i es) s ≡ run held es [] → run held es [] ≡ Some s
ends held es i s le inv = sym inv ∙ ap (λ x. run held x s) (drop_all i es le)
