use Rattle.std.proofs.Common.{◌-◌, ◌≤◌}
use Rattle.shadow_mbr.specs.Stored.{AreKept}
use Rattle.shadow_mbr.proofs.sectors.Sectors.covers.Given as goal

abbrev pub invariant-loop-done : goal.invariant-loop-done
invariant-loop-done l = record {
  within : l.done ≤ l.len;
  kept : AreKept l.self l.at l.done;
}

abbrev pub decreases-loop-done : goal.decreases-loop-done
decreases-loop-done l = l.len - l.done
