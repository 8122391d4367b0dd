use Rattle.std.proofs.Common.{◌≡◌, drop}
use Rattle.std.specs.List.{fold}
use Rattle.runs.specs.Rows.{summed_line, sum_of_lines}
use Rattle.runs.proofs.explored.rows.sum_of_lines.Given as goal

abbrev pub invariant-loop-line : goal.invariant-loop-line
invariant-loop-line l = fold summed_line l.sum (drop l.line-index l.lines) ≡ sum_of_lines l.lines
