use Rattle.std.proofs.Common.{◌≡◌, ◌-◌}
use Rattle.locking.specs.Ranges.{range_rows_from}
use Rattle.locking.proofs.ranges.fill.Given as goal

abbrev pub invariant-loop-range : goal.invariant-loop-range
invariant-loop-range g l = l.numbered ≡ range_rows_from (g.R.Rows.look_up l.rows) 1 (l.range - 1)
