use Rattle.std.proofs.Common.{◌<◌, length, arith, refl}
use Rattle.shadow_mbr.proofs.Listed.{none_listed, one_listed, all_listed}
use Rattle.shadow_mbr.proofs.listing.list_group.Goals as goal

pub loop-i-init : goal.loop-i-init
loop-i-init c = none_listed c.args.first c.args.group.now c.args.sectors.now.items

pub loop-i-preserved : goal.loop-i-preserved
loop-i-preserved c =
    let lt : c.loop-i.i < length c.args.group.now = omega arith in
    one_listed c.args.first c.loop-i.i c.args.group.now _ c.args.sectors.now.items c.loop-i.sectors.items c.list_sector.new.sectors.items lt refl c.loop-i.invariant c.in_ok-list_sector.ensures

pub returns-clause-listed : goal.returns-clause-listed
returns-clause-listed c = all_listed c.args.first c.loop-i.i c.args.group.now c.args.sectors.now.items c.loop-i.sectors.items (omega arith) c.loop-i.invariant
