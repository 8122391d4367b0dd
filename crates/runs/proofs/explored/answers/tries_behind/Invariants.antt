use Rattle.std.proofs.Common.{◌≡◌, ◌++◌, map, drop}
use Rattle.runs.specs.Answers.{try_behind, tries_behind}
use Rattle.runs.proofs.explored.answers.tries_behind.Given as goal

abbrev pub invariant-loop-letter : goal.invariant-loop-letter
invariant-loop-letter l =
    l.tries ++ map (try_behind l.options l.opening l.list) (drop l.letter-index l.letter-items) ≡ tries_behind l.options l.opening l.letters l.list
