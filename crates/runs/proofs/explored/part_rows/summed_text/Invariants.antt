use Rattle.std.proofs.Common.{◌≡◌, ◌++◌, ◌∷◌, drop}
use Rattle.runs.specs.Merges.{check_row}
use Rattle.runs.specs.Rows.{line_of_row, sum_of_lines}
use Rattle.runs.proofs.explored.part_rows.summed_text.Given as goal

abbrev pub invariant-loop-line : goal.invariant-loop-line
invariant-loop-line l = l.whole ++ drop l.line-index l.lines ≡ line_of_row (check_row (sum_of_lines l.lines)) ∷ l.lines
