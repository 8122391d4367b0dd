use Rattle.std.proofs.Common.{◌<◌, length, arith}
use Rattle.sp_tables.proofs.sp_rows.ListLemmas.{rows_more}
use Rattle.sp_tables.proofs.sp_rows.listing.list_rows.Goals as goal

pub loop-i-preserved : goal.loop-i-preserved
loop-i-preserved g c =
    let lt : c.loop-i.i < length c.args.rows.now = omega arith in
    rows_more g.R.Row.held c.args.rows.now c.args.first.0 c.loop-i.i _ _ c.args.items.now.items c.loop-i.items.items c.list.new.items.items lt c.index-rows-i.is c.in_ok-name_at.ensures c.loop-i.invariant c.in_ok-list.ensures
