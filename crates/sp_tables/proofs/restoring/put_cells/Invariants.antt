use Rattle.std.proofs.Common.{◌≡◌, map, take}
use Rattle.sp_tables.specs.Items.{item_of}
use Rattle.sp_tables.specs.Halves.{half_items}
use Rattle.sp_tables.specs.Given.{with_placed}
use Rattle.sp_tables.proofs.restoring.put_cells.Given as goal

abbrev pub invariant-loop-item : goal.invariant-loop-item
invariant-loop-item l = half_items l.half ≡ with_placed (half_items l.fn.half) (map item_of (take l.item-index l.items))
