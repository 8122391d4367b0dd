-- Counting the trees that wait tells whether elements write one.
use Rattle.std.proofs.Common.{suc, ◌≡◌, Bool, true, false, ◌&&◌, List, [], ◌∷◌, ◌++◌, append_assoc, append-nil, refl, sym, ◌∙◌, ap, ◌↔◌, IsTrue, ℕ, length, arith}
use Rattle.std.proofs.lemmas.Bool.Decides.{nat_tests}
use Rattle.sp_cells.specs.declared.cells.Element.{Element}
use Rattle.sp_cells.specs.declared.cells.Element.TheVariants.{Authority, And, Or}
use Rattle.sp_cells.specs.Expressions.{ExpressionTree, leaf, both, either, postorder, WritesTree, completes}

-- a tree that is written out waits as one
pub completes-postorder : (t : ExpressionTree) (rest : List Element) (n : ℕ) → completes n (postorder t ++ rest) ≡ completes (suc n) rest
completes-postorder (leaf a) rest n = refl
completes-postorder (both l r) rest n =
    let step : completes (suc (suc n)) (And ∷ rest) ≡ completes (suc n) rest = grind (arith, nat_tests) in
    rw (append_assoc, append_assoc) (completes-postorder l (postorder r ++ And ∷ rest) n ∙ completes-postorder r (And ∷ rest) (suc n) ∙ step)
completes-postorder (either l r) rest n =
    let step : completes (suc (suc n)) (Or ∷ rest) ≡ completes (suc n) rest = grind (arith, nat_tests) in
    rw (append_assoc, append_assoc) (completes-postorder l (postorder r ++ Or ∷ rest) n ∙ completes-postorder r (Or ∷ rest) (suc n) ∙ step)

-- the elements that made the waiting trees, the latest first
pub written : List ExpressionTree → List Element
written [] = []
written (t ∷ ts) = written ts ++ postorder t

both_true : (a b : Bool) → (a && b) ≡ true → b ≡ true
both_true true b h = h
both_true false b h = cc

pub completes-sound : (es : List Element) (ts : List ExpressionTree) → completes (length ts) es ≡ true → (t : ExpressionTree) × (written ts ++ es ≡ postorder t)
unfolding written
completes-sound [] [] h = cc
completes-sound [] (t ∷ []) h = (t, append-nil ([] ++ postorder t))
completes-sound [] (t ∷ u ∷ ts) h = absurd (grind (arith, nat_tests))
completes-sound (Authority a ∷ es) ts h = let r = completes-sound es (leaf a ∷ ts) h in (r.0, (rw append_assoc at r.1))
completes-sound (And ∷ es) [] h = cc
completes-sound (And ∷ es) (r ∷ []) h = cc
completes-sound (And ∷ es) (r ∷ l ∷ ts) h =
    let rest : completes (suc (length ts)) es ≡ true = grind (arith, nat_tests) in
    let q = completes-sound es (both l r ∷ ts) rest in (q.0, simp append_assoc (simp append_assoc at q.1))
completes-sound (Or ∷ es) [] h = cc
completes-sound (Or ∷ es) (r ∷ []) h = cc
completes-sound (Or ∷ es) (r ∷ l ∷ ts) h =
    let rest : completes (suc (length ts)) es ≡ true = grind (arith, nat_tests) in
    let q = completes-sound es (either l r ∷ ts) rest in (q.0, simp append_assoc (simp append_assoc at q.1))

pub is_tree : (es : List Element) (b : Bool) → b ≡ completes 0 es → IsTrue b ↔ WritesTree es
unfolding written
is_tree es b is = ((λ e. completes-sound es [] (sym is ∙ e)), λ (t, w). is ∙ ap (completes 0) (w ∙ sym (append-nil (postorder t))) ∙ completes-postorder t [] 0)

pub ruleset writes_tree = (is_tree)
