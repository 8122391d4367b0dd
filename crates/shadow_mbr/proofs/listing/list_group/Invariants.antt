use Rattle.std.proofs.Common.{◌≡◌, ◌++◌, take}
use Rattle.std.specs.Map.{keys_of}
use Rattle.shadow_mbr.specs.Places.{placed_from}
use Rattle.shadow_mbr.proofs.listing.list_group.Given as goal

abbrev pub invariant-loop-i : goal.invariant-loop-i
invariant-loop-i l = l.sectors.items ≡ l.fn.sectors.items ++ keys_of (placed_from l.first (take l.i l.group))
