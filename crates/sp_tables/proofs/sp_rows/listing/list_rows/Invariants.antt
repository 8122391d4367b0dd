use Rattle.std.proofs.Common.{take}
use Rattle.sp_tables.specs.Items.{AddsItems, rows_from}
use Rattle.sp_tables.proofs.sp_rows.listing.list_rows.Given as goal

abbrev pub invariant-loop-i : goal.invariant-loop-i
invariant-loop-i g l = AddsItems l.fn.items.items l.items.items (rows_from g.R.Row.held l.first.0 (take l.i l.rows))
