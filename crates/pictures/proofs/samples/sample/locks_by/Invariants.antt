use Rattle.std.proofs.Common.{◌≡◌}
use Rattle.pictures.specs.Samples.{locks_by}
use Rattle.pictures.specs.Lists.{values_below}
use Rattle.pictures.proofs.samples.sample.locks_by.Given as goal

abbrev pub invariant-loop-range : goal.invariant-loop-range
invariant-loop-range g l = l.locks.items ≡ values_below (locks_by (g.R.Rows.look_up l.rows)) l.range
