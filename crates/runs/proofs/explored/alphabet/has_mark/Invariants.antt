use Rattle.std.proofs.Common.{◌≡◌, drop}
use Rattle.std.specs.List.{list_any}
use Rattle.runs.specs.Alphabets.{is_letters_mark}
use Rattle.runs.proofs.explored.alphabet.has_mark.Given as goal

abbrev pub invariant-loop-line : goal.invariant-loop-line
invariant-loop-line l = list_any is_letters_mark (drop l.line-index l.lines) ≡ list_any is_letters_mark l.lines
