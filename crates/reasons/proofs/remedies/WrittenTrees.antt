-- A tree is written where the elements are its postorder.
use Rattle.std.proofs.Common.{◌≡◌, List, [], ◌∷◌, ◌++◌, Option, None, Some, append_assoc, append-nil, refl, sym, ◌∙◌, ap}
use Rattle.sp_cells.specs.declared.cells.Element.{Element}
use Rattle.sp_cells.specs.declared.cells.Element.TheVariants.{Authority, And, Or}
use Rattle.sp_cells.specs.Expressions.{ExpressionTree, leaf, both, either, postorder}
use Rattle.reasons.specs.Trees.{trees_behind, lone, tree_written, WrittenTreeLaw}

-- a tree that is written out waits
written_out : (t : ExpressionTree) (rest : List Element) (ts : List ExpressionTree) → trees_behind (postorder t ++ rest) ts ≡ trees_behind rest (t ∷ ts)
written_out (leaf a) rest ts = refl
written_out (both l r) rest ts =
    rw (append_assoc, append_assoc) (written_out l (postorder r ++ And ∷ rest) ts ∙ written_out r (And ∷ rest) (l ∷ ts))
written_out (either l r) rest ts =
    rw (append_assoc, append_assoc) (written_out l (postorder r ++ Or ∷ rest) ts ∙ written_out r (Or ∷ rest) (l ∷ ts))

-- the elements that made the waiting trees, the latest first
made_of : List ExpressionTree → List Element
made_of [] = []
made_of (t ∷ ts) = made_of ts ++ postorder t

-- what waits alone in the end is what was written
sound : (es : List Element) (ts : List ExpressionTree) (t : ExpressionTree) → trees_behind es ts ≡ Some (t ∷ []) → made_of ts ++ es ≡ postorder t
unfolding made_of
sound [] [] t h = cc
sound [] (u ∷ []) t h = append-nil ([] ++ postorder u) ∙ ap postorder (same h) where
  same : {a b : ExpressionTree} → Some (a ∷ []) ≡ Some (b ∷ []) → a ≡ b
  same h = cc
sound [] (u ∷ v ∷ ts) t h = cc
sound (Authority a ∷ es) ts t h = let r = sound es (leaf a ∷ ts) t h in (rw append_assoc at r)
sound (And ∷ es) [] t h = cc
sound (And ∷ es) (r ∷ []) t h = cc
sound (And ∷ es) (r ∷ l ∷ ts) t h = let q = sound es (both l r ∷ ts) t h in simp append_assoc (simp append_assoc at q)
sound (Or ∷ es) [] t h = cc
sound (Or ∷ es) (r ∷ []) t h = cc
sound (Or ∷ es) (r ∷ l ∷ ts) t h = let q = sound es (either l r ∷ ts) t h in simp append_assoc (simp append_assoc at q)

alone : (o : Option (List ExpressionTree)) (t : ExpressionTree) → lone o ≡ Some t → o ≡ Some (t ∷ [])
alone None t h = cc
alone (Some []) t h = cc
alone (Some (u ∷ [])) t h = cc
alone (Some (u ∷ v ∷ ts)) t h = cc

pub both_ways : WrittenTreeLaw
unfolding made_of
both_ways es t = (
  (λ h. sound es [] t (alone (trees_behind es []) t h)),
  (λ w. ap tree_written w ∙ ap (λ x. lone (trees_behind x [])) (sym (append-nil (postorder t))) ∙ ap lone (written_out t [] [])),
)
