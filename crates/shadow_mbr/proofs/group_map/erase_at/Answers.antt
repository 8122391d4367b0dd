use Rattle.std.proofs.Common.{arith}
use Rattle.shadow_mbr.specs.Erasure.{is_erased}
use Rattle.shadow_mbr.proofs.Grouped.{past_all}
use Rattle.shadow_mbr.proofs.group_map.erase_at.Goals as goal

pub returns-else-at-groups-clause-erased : goal.returns-else-at-groups-clause-erased
returns-else-at-groups-clause-erased c = past_all (is_erased c.args.erasure.now) c.args.first c.args.at c.args.groups.now c.args.blocks.now.items (omega arith)
