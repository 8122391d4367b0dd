use Rattle.std.proofs.Common.{◌≡◌, ◌++◌, drop}
use Rattle.judged.specs.SessionPairs.{drives_lines}
use Rattle.judged.proofs.pairs.SessionPairs.drives_lines.Given as goal

abbrev pub invariant-loop-line : goal.invariant-loop-line
invariant-loop-line l = l.made ++ drop l.line-index l.rest ≡ drives_lines l.self l.lines
