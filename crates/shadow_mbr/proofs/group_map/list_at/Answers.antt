use Rattle.std.proofs.Common.{arith}
use Rattle.shadow_mbr.proofs.Listed.{past_listed}
use Rattle.shadow_mbr.proofs.group_map.list_at.Goals as goal

pub returns-else-at-groups-clause-listed : goal.returns-else-at-groups-clause-listed
returns-else-at-groups-clause-listed c = past_listed c.args.first c.args.at c.args.groups.now c.args.sectors.now.items (omega arith)
