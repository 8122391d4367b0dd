use Rattle.std.proofs.Common.{map, take}
use Rattle.sp_tables.specs.Items.{AddsItems, row_items}
use Rattle.sp_tables.proofs.sp_rows.listing.list_fields.Given as goal

abbrev pub invariant-loop-column : goal.invariant-loop-column
invariant-loop-column l = AddsItems l.fn.items.items l.items.items (row_items l.object (map (λ p. (p.0, p.1.now)) (take l.column-index l.fields)))
