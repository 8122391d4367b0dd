-- A loop that writes what stands for each item of a list over the front of another list.
use Rattle.std.proofs.Common.{◌≡◌, ◌<◌, ◌≤◌, ℕ, zero, suc, List, [], ◌∷◌, ◌++◌, length, map, take, drop, get_or, slice_set, ap, arith}

pub laid_on : {A B : Type 0} (f : A → B) (xs : List A) (old : List B) (i : ℕ) (x : A) → i < length xs → length xs ≤ length old
    → x ≡ get_or xs i x → slice_set (map f (take i xs) ++ drop i old) i (f x) ≡ map f (take (suc i) xs) ++ drop (suc i) old
laid_on f [] old i x below fits is = absurd (omega (arith, below))
laid_on f (y ∷ ys) [] i x below fits is = absurd (omega (arith, fits))
laid_on f (y ∷ ys) (o ∷ os) zero x below fits is = ap (λ z. f z ∷ os) is
laid_on f (y ∷ ys) (o ∷ os) (suc j) x below fits is =
    ap (λ t. f y ∷ t) (laid_on f ys os j x (omega (arith, below)) (omega (arith, fits)) is)
