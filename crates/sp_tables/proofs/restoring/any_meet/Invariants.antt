use Rattle.std.proofs.Common.{◌≡◌, false}
use Rattle.sp_tables.specs.Faults.{any_to}
use Rattle.sp_tables.specs.Halves.{half_items}
use Rattle.sp_tables.specs.Given.{look_of, meets_later}
use Rattle.sp_tables.proofs.restoring.any_meet.Given as goal

abbrev pub invariant-loop-i : goal.invariant-loop-i
invariant-loop-i l = any_to l.i (λ i. meets_later (look_of (half_items l.half)) i) ≡ false
