-- Texts of whole lines.
use Rattle.std.proofs.Common.{◌≡◌, ◌∙◌, ◌<◌, ℕ, arith, length, Bool, true, false, ◌==◌, List, [], ◌∷◌, ◌++◌, map, refl, sym, ap, append_assoc, eqb-true}
use Rattle.std.proofs.lemmas.List.{map-append}
use Rattle.std.specs.Prelude.{if◌then◌else◌}
use Rattle.std.specs.Io.BufRead.{strip_last}
use Rattle.tool.specs.Scripts.{in_front, lines_of_text, script_lines}
use Rattle.runs.specs.Stepped.{WholeLines}

-- an empty text has no lines
pub no_lines : (text : List ℕ) → (length text == 0) ≡ true → script_lines text ≡ []
unfolding lines_of_text
no_lines [] none = refl
no_lines (byte ∷ text) none = let no = eqb-true (length (byte ∷ text)) 0 none in absurd (omega (arith, no))

-- whole lines
pub none-whole : WholeLines []
unfolding lines_of_text
none-whole behind = refl

pub both-whole : (before text : List ℕ) → WholeLines before → WholeLines text → WholeLines (before ++ text)
both-whole before text first second = λ behind.
    ap script_lines (append_assoc before text behind) ∙ first (text ++ behind)
    ∙ ap (λ ls. script_lines before ++ ls) (second behind)
    ∙ sym (append_assoc (script_lines before) (script_lines text) (script_lines behind))
    ∙ ap (λ ls. ls ++ script_lines behind) (sym (first text))

-- a line with its end is whole
in-front-append : (byte : ℕ) (lines more : List (List ℕ)) → 0 < length lines → in_front byte (lines ++ more) ≡ in_front byte lines ++ more
in-front-append byte [] more some = absurd (omega (arith, some))
in-front-append byte (line ∷ lines) more some = refl

some-lines : (byte : ℕ) (text : List ℕ) → 0 < length (lines_of_text (byte ∷ text))
unfolding lines_of_text
some-lines byte text = at (byte == 10) (lines_of_text text)
  where
    at : (t : Bool) (lines : List (List ℕ)) → 0 < length (if t then [] ∷ lines else in_front byte lines)
    at true lines = omega arith
    at false [] = omega arith
    at false (line ∷ lines) = omega arith

lines-append : (text behind : List ℕ)
    → lines_of_text ((text ++ 10 ∷ []) ++ behind) ≡ lines_of_text (text ++ 10 ∷ []) ++ lines_of_text behind
unfolding lines_of_text
lines-append [] behind = refl
lines-append (byte ∷ text) behind = at (byte == 10) (lines-append text behind) (some-behind text)
  where
    some-behind : (text : List ℕ) → 0 < length (lines_of_text (text ++ 10 ∷ []))
    some-behind [] = omega arith
    some-behind (byte ∷ text) = some-lines byte (text ++ 10 ∷ [])

    at : (t : Bool) → lines_of_text ((text ++ 10 ∷ []) ++ behind) ≡ lines_of_text (text ++ 10 ∷ []) ++ lines_of_text behind
        → 0 < length (lines_of_text (text ++ 10 ∷ []))
        → (if t then [] ∷ lines_of_text ((text ++ 10 ∷ []) ++ behind) else in_front byte (lines_of_text ((text ++ 10 ∷ []) ++ behind)))
        ≡ (if t then [] ∷ lines_of_text (text ++ 10 ∷ []) else in_front byte (lines_of_text (text ++ 10 ∷ []))) ++ lines_of_text behind
    at true is some = ap (λ ls. [] ∷ ls) is
    at false is some = ap (in_front byte) is ∙ in-front-append byte (lines_of_text (text ++ 10 ∷ [])) (lines_of_text behind) some

pub ended-whole : (text : List ℕ) → WholeLines (text ++ 10 ∷ [])
ended-whole text = λ behind.
    ap (map (strip_last 13)) (lines-append text behind)
    ∙ map-append (strip_last 13) (lines_of_text (text ++ 10 ∷ [])) (lines_of_text behind)
