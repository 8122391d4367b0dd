-- A ring of lines that is filled from another one.
use Rattle.std.proofs.Common.{◌≡◌, ◌≤◌, ◌-◌, ℕ, List, [], ◌∷◌, ◌++◌, take, length, zero, suc, Some, slice_get, refl, ap, ◌∙◌, subst, arith}
use Rattle.std.proofs.lemmas.List.{length-take}
use Rattle.std.specs.Prelude.{IfSome}
use Rattle.circular_buffer.specs.Buffer.{keep_last}

next : {X : Type 0} (xs : List X) (i : ℕ) (x : X) → slice_get xs i ≡ Some x → take i xs ++ x ∷ [] ≡ take (suc i) xs
next [] i x at = cc
next (y ∷ ys) zero x at = subst (λ o. IfSome o (λ z. z ∷ [] ≡ y ∷ [])) at refl
next (y ∷ ys) (suc i) x at = ap (λ q. y ∷ q) (next ys i x at)

-- as many as there is room for are all kept
all_kept : {X : Type 0} (n : ℕ) (xs : List X) → length xs ≤ n → keep_last n xs ≡ xs
all_kept n xs few =
    let none : length xs - n ≡ 0 = omega arith in
    rw none refl

-- the next one comes behind those that were put in
pub next_kept : {X : Type 0} (n : ℕ) (xs : List X) (i : ℕ) (x : X) → slice_get xs i ≡ Some x → length xs ≤ n → keep_last n (take i xs ++ x ∷ []) ≡ take (suc i) xs
next_kept n xs i x at few =
    ap (keep_last n) (next xs i x at) ∙ all_kept n (take (suc i) xs) (omega (arith, length-take (suc i) xs))
