use Rattle.std.proofs.Common.{◌≡◌, drop}
use Rattle.std.specs.List.{fold}
use Rattle.runs.specs.Merges.{with_row_at}
use Rattle.runs.proofs.explored.findings.Findings.add_rows_at.Given as goal

abbrev pub invariant-loop-row : goal.invariant-loop-row
invariant-loop-row l = fold (with_row_at l.size) l.self (drop l.row-index l.rows) ≡ fold (with_row_at l.size) l.fn.self l.rows
