use Rattle.std.proofs.Common.{◌≡◌, [], drop}
use Rattle.std.specs.List.{fold}
use Rattle.runs.specs.Alphabets.{with_letter}
use Rattle.runs.proofs.explored.alphabet.letters_in.Given as goal

abbrev pub invariant-loop-line : goal.invariant-loop-line
invariant-loop-line l =
    fold with_letter l.letters (drop l.line-index l.lines) ≡ fold with_letter [] l.lines
