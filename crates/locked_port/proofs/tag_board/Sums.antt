-- A sum over views, of which one changes.
use Rattle.std.proofs.Common.{◌≡◌, ℕ, zero, suc, ◌+◌, ◌≤◌, List, [], ◌∷◌, ◌++◌, set, sym, ap, arith}
use mathlib.Core.Option.{some, some-injective, some-ne-none}
use lib.ListN.{get_elem?}
use Rattle.locked_port.specs.declared.tag_board.plays.View.{View}
use Rattle.locked_port.specs.Rule.{sum_over}

pub sum_set : (f : View → ℕ) (l : List View) (i : ℕ) (v w : View) → get_elem? l i ≡ some v → sum_over f (set l i w) + f v ≡ sum_over f l + f w
sum_set f [] i v w e = absurd (some-ne-none v (sym e))
sum_set f (x ∷ xs) zero v w e = let s : f x ≡ f v = ap f (some-injective x v e) in omega arith
sum_set f (x ∷ xs) (suc i) v w e = let s = sum_set f xs i v w e in omega arith

pub sum_at : (f : View → ℕ) (l : List View) (i : ℕ) (v : View) → get_elem? l i ≡ some v → f v ≤ sum_over f l
sum_at f [] i v e = absurd (some-ne-none v (sym e))
sum_at f (x ∷ xs) zero v e = let s : f x ≡ f v = ap f (some-injective x v e) in omega arith
sum_at f (x ∷ xs) (suc i) v e = let s = sum_at f xs i v e in omega arith

pub sum_snoc : (f : View → ℕ) (l : List View) (w : View) → sum_over f (l ++ w ∷ []) ≡ sum_over f l + f w
sum_snoc f [] w = omega arith
sum_snoc f (x ∷ xs) w = let s = sum_snoc f xs w in omega arith
