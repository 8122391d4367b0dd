use Rattle.std.proofs.Common.{◌≡◌, ◌++◌, ◌∷◌, [], drop}
use Rattle.std.specs.List.{fold}
use Rattle.runs.proofs.explored.alphabet.text_of_lines.Given as goal

abbrev pub invariant-loop-line : goal.invariant-loop-line
invariant-loop-line l =
    fold (λ text line. text ++ line ++ 10 ∷ []) l.text.items (drop l.line-index l.lines) ≡ fold (λ text line. text ++ line ++ 10 ∷ []) [] l.lines
