use Rattle.std.proofs.Common.{◌≡◌, map, take}
use Rattle.sp_tables.proofs.sp_rows.copies.copy_rows.Given as goal

abbrev pub invariant-loop-row : goal.invariant-loop-row
invariant-loop-row g l = map g.R.Row.held l.copies.items ≡ map g.R.Row.held (take l.row-index l.rows)
