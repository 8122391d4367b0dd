use Rattle.std.proofs.Common.{◌<◌, length, arith, refl, sym, ◌∙◌}
use Rattle.shadow_mbr.specs.Erasure.{is_erased}
use Rattle.shadow_mbr.proofs.Cleared.{group_begins, group_goes_on, group_ends}
use Rattle.shadow_mbr.proofs.erasing.erase_group.Goals as goal

pub loop-i-init : goal.loop-i-init
loop-i-init c = group_begins (is_erased c.args.erasure.now) c.args.first c.args.group.now c.args.blocks.now.items

pub loop-i-preserved : goal.loop-i-preserved
loop-i-preserved c =
    let lt : c.loop-i.i < length c.args.group.now = omega arith in
    group_goes_on (is_erased c.args.erasure.now) c.args.first c.loop-i.i c.args.group.now _ c.loop-i.blocks.items c.erase_block.new.blocks.items lt refl c.erase_block.ensures
    ∙ c.loop-i.invariant

pub returns-clause-erased : goal.returns-clause-erased
returns-clause-erased c =
    sym (group_ends (is_erased c.args.erasure.now) c.args.first c.loop-i.i c.args.group.now c.loop-i.blocks.items (omega arith))
    ∙ c.loop-i.invariant
