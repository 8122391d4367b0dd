use Rattle.std.proofs.Common.{◌≡◌, ◌++◌, map, drop}
use Rattle.runs.specs.Rows.{line_of_row}
use Rattle.runs.proofs.explored.part_rows.append_row_lines.Given as goal

abbrev pub invariant-loop-row : goal.invariant-loop-row
invariant-loop-row l = l.lines ++ map line_of_row (drop l.row-index l.rows) ≡ l.fn.lines ++ map line_of_row l.rows
