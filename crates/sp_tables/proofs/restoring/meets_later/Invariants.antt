use Rattle.std.proofs.Common.{◌≡◌, ◌&&◌, false}
use Rattle.std.specs.Prelude.{nat_lt}
use Rattle.sp_cells.specs.Ranges.{ranges_meet}
use Rattle.sp_tables.specs.Faults.{any_to}
use Rattle.sp_tables.specs.Halves.{half_items}
use Rattle.sp_tables.specs.Given.{look_of}
use Rattle.sp_tables.proofs.restoring.meets_later.Given as goal

abbrev pub invariant-loop-i : goal.invariant-loop-i
invariant-loop-i l = any_to l.i (λ j. nat_lt l.range j && ranges_meet (look_of (half_items l.half)) l.range j) ≡ false
