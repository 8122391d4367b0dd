use Rattle.std.proofs.Common.{◌≡◌, ◌+◌, drop}
use Rattle.shadow_mbr.specs.Places.{placed_from}
use Rattle.shadow_mbr.specs.Erasure.{is_erased, blocks_erased}
use Rattle.shadow_mbr.proofs.erasing.erase_group.Given as goal

abbrev pub invariant-loop-i : goal.invariant-loop-i
invariant-loop-i l = blocks_erased (is_erased l.erasure) (placed_from (l.first + l.i) (drop l.i l.group)) l.blocks.items ≡ blocks_erased (is_erased l.erasure) (placed_from l.first l.group) l.fn.blocks.items
