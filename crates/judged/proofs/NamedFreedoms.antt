-- Names of freedoms, one of which is none.
use Rattle.std.proofs.Common.{◌≡◌, ℕ, zero, suc, ◌<◌, List, [], ◌∷◌, length, map, drop, get_or, fold, Option, None, Some, refl, sym, ap, ◌∙◌, arith, Bor}
use Rattle.judged.specs.Freedoms.{freedom_named, with_freedom, with_named}
use Rattle.judged.specs.declared.freedom.Freedom.{Freedom}

abbrev texts : List (Bor (List ℕ)) → List (List ℕ)
texts names = map (λ s. s.now) names

stays : (names : List (List ℕ)) → fold with_named None names ≡ None
stays [] = refl
stays (name ∷ names) = stays names

from : (names : List (Bor (List ℕ))) (i : ℕ) (d : Bor (List ℕ)) → i < length names
    → texts (drop i names) ≡ (get_or names i d).now ∷ texts (drop (suc i) names)
from [] i d within = absurd (omega (arith, within))
from (name ∷ names) zero d within = refl
from (name ∷ names) (suc i) d within = from names i d (omega (arith, within))

-- behind a name that is none nothing is read
pub unknown : (names : List (Bor (List ℕ))) (i : ℕ) (d : Bor (List ℕ)) (text : List ℕ) (items : List Freedom) (whole : Option (List Freedom))
    → i < length names → text ≡ (get_or names i d).now → freedom_named text ≡ None
    → fold with_named (Some items) (texts (drop i names)) ≡ whole → whole ≡ None
unknown names i d text items whole within is none kept =
    sym kept
    ∙ ap (fold with_named (Some items)) (from names i d within)
    ∙ ap (λ (n : List ℕ). fold with_named (with_freedom items (freedom_named n)) (texts (drop (suc i) names))) (sym is)
    ∙ ap (λ f. fold with_named (with_freedom items f) (texts (drop (suc i) names))) none
    ∙ stays (texts (drop (suc i) names))
