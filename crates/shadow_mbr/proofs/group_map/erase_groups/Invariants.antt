use Rattle.std.proofs.Common.{◌≡◌}
use Rattle.shadow_mbr.specs.Places.{placed_in, groups_of}
use Rattle.shadow_mbr.specs.Erasure.{is_erased, blocks_erased}
use Rattle.shadow_mbr.proofs.group_map.erase_groups.Given as goal

abbrev pub invariant-loop-number : goal.invariant-loop-number
invariant-loop-number l = blocks_erased (is_erased l.erasure) (placed_in (groups_of l.number-iterator l.groups)) l.blocks.items ≡ blocks_erased (is_erased l.erasure) (placed_in (groups_of l.indexes.entries l.groups)) l.fn.blocks.items
