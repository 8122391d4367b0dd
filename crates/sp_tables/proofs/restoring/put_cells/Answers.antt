use Rattle.std.proofs.Common.{◌<◌, length, arith}
use Rattle.sp_tables.specs.Halves.{half_items}
use Rattle.sp_tables.proofs.GivenLemmas.{placed_more}
use Rattle.sp_tables.proofs.restoring.put_cells.Goals as goal

pub loop-item-preserved : goal.loop-item-preserved
loop-item-preserved c =
    let lt : c.loop-item.item-index < length c.args.items.now = omega arith in
    placed_more (half_items c.args.half.now) c.args.items.now c.loop-item.item-index _ (half_items c.loop-item.half) (half_items c.put_cell.new.half) lt c.item-item.is c.loop-item.invariant c.in_ok-put_cell.ensures
