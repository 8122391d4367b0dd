use Rattle.std.proofs.Common.{take}
use Rattle.sp_tables.specs.Items.{AddsItems, row_items}
use Rattle.sp_tables.proofs.sp_rows.listing.list_cells.Given as goal

abbrev pub invariant-loop-column : goal.invariant-loop-column
invariant-loop-column l = AddsItems l.fn.items.items l.items.items (row_items l.object (take l.column-index l.cells))
