use Rattle.std.proofs.Common.{◌≡◌, Some, drop}
use Rattle.std.specs.List.{fold}
use Rattle.runs.specs.Merges.{with_row_written, rows_written}
use Rattle.runs.proofs.explored.part.rows_written.Given as goal

abbrev pub invariant-loop-line : goal.invariant-loop-line
invariant-loop-line l = fold with_row_written (Some l.rows) (drop l.line-index l.lines) ≡ rows_written l.lines
