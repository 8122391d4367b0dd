-- Answers that have the same lines.
use Rattle.std.proofs.Common.{◌≡◌, ◌≢◌, ℕ, suc, Bool, true, false, ◌&&◌, List, [], ◌∷◌, length, drop, get_or, refl, ap, ◌∙◌, arith, bytes_eq, Decides}
use Rattle.std.proofs.lemmas.Bool.{false≢true}
use Rattle.std.proofs.lemmas.Slice.Eq.{bytes_eq-Decides}
use Rattle.judged.specs.Judgements.{are_same}
use Rattle.judged.specs.Blanks.{differs_in_blanks, may_be, differs_in_random, may_be_random}
use Rattle.judged.specs.Freedoms.{differs_within, may_stand}
use Rattle.judged.specs.declared.freedom.Span.{Span}

pub and-false : (t r : Bool) → r ≡ false → (t && r) ≡ false
and-false true r e = e
and-false false r e = refl

pub both : (t r : Bool) → (t && r) ≡ true → (t ≡ true) × (r ≡ true)
both true r e = (refl, e)
both false r e = absurd (false≢true e)

pub and-true : (t r : Bool) → t ≡ true → r ≡ true → (t && r) ≡ true
and-true true r e f = f
and-true false r e f = absurd (false≢true e)

-- not as many lines
pub fewer : (xs ys : List (List ℕ)) → length xs ≢ length ys → are_same xs ys ≡ false
fewer [] [] differs = absurd (differs refl)
fewer [] (y ∷ ys) differs = refl
fewer (x ∷ xs) [] differs = refl
fewer (x ∷ xs) (y ∷ ys) differs =
    and-false (bytes_eq x y) (are_same xs ys) (fewer xs ys (λ e. differs (ap suc e)))

pub are_same-Decides : (xs ys : List (List ℕ)) → Decides (are_same xs ys) (xs ≡ ys)
are_same-Decides [] [] = (λ _. refl, λ _. refl)
are_same-Decides [] (y ∷ ys) = (λ e. absurd (false≢true e), λ e. absurd (omega (arith, ap length e)))
are_same-Decides (x ∷ xs) [] = (λ e. absurd (false≢true e), λ e. absurd (omega (arith, ap length e)))
are_same-Decides (x ∷ xs) (y ∷ ys) =
    let first = bytes_eq-Decides x y in
    let rest = are_same-Decides xs ys in (
      λ e. let p = both (bytes_eq x y) (are_same xs ys) e in
          ap (λ z. z ∷ xs) (first.0 p.0) ∙ ap (λ zs. y ∷ zs) (rest.0 p.1),
      λ e. and-true (bytes_eq x y) (are_same xs ys) (first.1 (ap (λ zs. get_or zs 0 []) e)) (rest.1 (ap (λ zs. drop 1 zs) e)),
    )

-- not as many bytes
pub shorter : (spans : List Span) (place : ℕ) (xs ys : List ℕ) → length xs ≢ length ys
    → differs_within spans place xs ys ≡ false
shorter spans place [] [] differs = absurd (differs refl)
shorter spans place [] (y ∷ ys) differs = refl
shorter spans place (x ∷ xs) [] differs = refl
shorter spans place (x ∷ xs) (y ∷ ys) differs =
    and-false (may_stand spans place x y) (differs_within spans (suc place) xs ys)
    (shorter spans (suc place) xs ys (λ e. differs (ap suc e)))

-- not as many as are wanted
pub wanted_shorter : (xs ys zs : List ℕ) → length ys ≢ length xs → differs_in_blanks xs ys zs ≡ false
wanted_shorter [] [] zs differs = absurd (differs refl)
wanted_shorter [] (y ∷ ys) zs differs = refl
wanted_shorter (x ∷ xs) [] zs differs = refl
wanted_shorter (x ∷ xs) (y ∷ ys) [] differs = refl
wanted_shorter (x ∷ xs) (y ∷ ys) (z ∷ zs) differs =
    and-false (may_be x y z) (differs_in_blanks xs ys zs) (wanted_shorter xs ys zs (λ e. differs (ap suc e)))

-- nor as many as in the other run
pub other_shorter : (xs ys zs : List ℕ) → length zs ≢ length xs → differs_in_blanks xs ys zs ≡ false
other_shorter [] [] [] differs = absurd (differs refl)
other_shorter [] [] (z ∷ zs) differs = refl
other_shorter [] (y ∷ ys) zs differs = refl
other_shorter (x ∷ xs) [] zs differs = refl
other_shorter (x ∷ xs) (y ∷ ys) [] differs = refl
other_shorter (x ∷ xs) (y ∷ ys) (z ∷ zs) differs =
    and-false (may_be x y z) (differs_in_blanks xs ys zs) (other_shorter xs ys zs (λ e. differs (ap suc e)))

-- the same of random bytes
pub wanted_too_short : (place : ℕ) (xs ys zs : List ℕ) → length ys ≢ length xs → differs_in_random place xs ys zs ≡ false
wanted_too_short place [] [] zs differs = absurd (differs refl)
wanted_too_short place [] (y ∷ ys) zs differs = refl
wanted_too_short place (x ∷ xs) [] zs differs = refl
wanted_too_short place (x ∷ xs) (y ∷ ys) [] differs = refl
wanted_too_short place (x ∷ xs) (y ∷ ys) (z ∷ zs) differs =
    and-false (may_be_random place x y z) (differs_in_random (suc place) xs ys zs)
    (wanted_too_short (suc place) xs ys zs (λ e. differs (ap suc e)))

pub other_too_short : (place : ℕ) (xs ys zs : List ℕ) → length zs ≢ length xs → differs_in_random place xs ys zs ≡ false
other_too_short place [] [] [] differs = absurd (differs refl)
other_too_short place [] [] (z ∷ zs) differs = refl
other_too_short place [] (y ∷ ys) zs differs = refl
other_too_short place (x ∷ xs) [] zs differs = refl
other_too_short place (x ∷ xs) (y ∷ ys) [] differs = refl
other_too_short place (x ∷ xs) (y ∷ ys) (z ∷ zs) differs =
    and-false (may_be_random place x y z) (differs_in_random (suc place) xs ys zs)
    (other_too_short (suc place) xs ys zs (λ e. differs (ap suc e)))
