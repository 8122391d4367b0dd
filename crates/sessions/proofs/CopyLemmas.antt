-- A map that is filled from another one.
use Rattle.std.proofs.Common.{◌≡◌, ℕ, false, List, [], ◌∷◌, take, zero, suc, Some, slice_get, refl, ap, subst, arith}
use Rattle.std.proofs.lemmas.Bool.Decides.{nat_tests}
use Rattle.std.specs.Prelude.{nat_eq, IfSome}
use Rattle.std.specs.List.{IsDistinct, AllByRecursion}
use Rattle.std.specs.Map.{keys_of}
use Rattle.indexmap.specs.IndexMap.{insert_entry}

-- what holds of each key holds of the key of an entry
of_key : {X : Type 0} (P : ℕ → Type 0) (es : List (ℕ × X)) (i : ℕ) (e : ℕ × X) → AllByRecursion P (keys_of es) → slice_get es i ≡ Some e → P e.0
of_key P [] i e all at = cc
of_key P (x ∷ xs) zero e all at = subst (λ o. IfSome o (λ y. P y.0)) at all.0
of_key P (x ∷ xs) (suc i) e all at = of_key P xs i e all.1 at

-- the entries in front of a place, and the one that stands there put into them
pub next_entry : {X : Type 0} (es : List (ℕ × X)) (i : ℕ) (e : ℕ × X) → IsDistinct nat_eq (keys_of es) → slice_get es i ≡ Some e → insert_entry nat_eq (take i es) e.0 e.1 ≡ take (suc i) es
unfolding IsDistinct
next_entry [] i e distinct at = cc
next_entry (x ∷ xs) zero e distinct at = subst (λ o. IfSome o (λ y. (y.0, y.1) ∷ [] ≡ x ∷ [])) at refl
next_entry (x ∷ xs) (suc i) e distinct at =
    let before : nat_eq x.0 e.0 ≡ false = of_key (λ y. nat_eq x.0 y ≡ false) xs i e distinct.0 at in
    let other : nat_eq e.0 x.0 ≡ false = grind (arith, nat_tests, before) in
    rw other (ap (λ q. x ∷ q) (next_entry xs i e distinct.1 at))
