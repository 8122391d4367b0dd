use Rattle.std.proofs.Common.{◌≡◌}
use Rattle.device_data.specs.Discovery.{any_range_below, has_lock}
use Rattle.device_data.proofs.level0.is_locked.Given as goal

abbrev pub invariant-loop-range : goal.invariant-loop-range
invariant-loop-range g l = l.locked ≡ any_range_below (has_lock (g.R.Rows.look_up l.rows)) l.range
