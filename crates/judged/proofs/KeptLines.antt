-- Answers beside the lines of a text: where no line is left, no answer may be.
use Rattle.std.proofs.Common.{◌≡◌, suc, ◌==◌, Bool, false, rules, List, ℕ, [], ◌∷◌, length, refl, sym, ap, ◌∙◌}
use Rattle.judged.specs.Answers.{lines_kept}
use Rattle.judged.specs.Judgements.{are_same}

none-left : (left : List (List ℕ)) (all : Bool) → are_same left [] ≡ all → (length left == 0) ≡ all
none-left [] all is = is
none-left (answer ∷ left) all is =
    let no : (suc (length left) == 0) ≡ false = search rules in
    no ∙ is

pub no_more : (whole : Bool) (left lines : List (List ℕ)) (all : Bool) → lines ≡ [] → are_same left (lines_kept whole lines) ≡ all
    → (length left == 0) ≡ all
no_more whole left lines all none kept =
    none-left left all (sym (ap (λ ls. are_same left (lines_kept whole ls)) none) ∙ kept)
