use Rattle.std.proofs.Common.{◌-◌, ◌≤◌}
use Rattle.locking.specs.Verdict.{ArePermitted}
use Rattle.locking.proofs.ranges.Ranges.judged_by_pieces.Given as goal

abbrev pub invariant-loop-sector : goal.invariant-loop-sector
invariant-loop-sector l = record { from : l.lba ≤ l.sector; served : ArePermitted l.self l.op l.lba l.sector }

abbrev pub decreases-loop-sector : goal.decreases-loop-sector
decreases-loop-sector l = l.end - l.sector
