use Rattle.std.proofs.Common.{◌≡◌, ◌++◌}
use Rattle.std.specs.Map.{keys_of}
use Rattle.shadow_mbr.specs.Places.{placed_in, groups_of}
use Rattle.shadow_mbr.proofs.group_map.list_groups.Given as goal

abbrev pub invariant-loop-number : goal.invariant-loop-number
invariant-loop-number l = l.sectors.items ++ keys_of (placed_in (groups_of l.number-iterator l.groups)) ≡ keys_of (placed_in (groups_of l.indexes.entries l.groups))
