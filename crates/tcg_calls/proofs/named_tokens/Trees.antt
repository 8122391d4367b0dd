-- The values of a list from one on.
use Rattle.std.proofs.Common.{◌≡◌, ℕ, zero, suc, ◌+◌, ◌<◌, List as Seq, [], ◌∷◌, length, drop, get_or, add-one, arith, ◌∙◌, refl}
use Rattle.tcg_tokens.specs.declared.value.Value.{Value}
use Rattle.tcg_tokens.specs.Tree.{more, tree, trees}

pub trees_drop : (vs : Seq Value) (i : ℕ) (v : Value) → i < length vs → v ≡ get_or vs i v → trees (drop i vs) ≡ more (tree v) (trees (drop (i + 1) vs))
trees_drop [] i v lt e = absurd (omega arith)
trees_drop (w ∷ vs) zero v lt e = rw e refl
trees_drop (w ∷ vs) (suc i) v lt e = rw add-one (trees_drop vs i v (omega arith) e ∙ rw add-one refl)
