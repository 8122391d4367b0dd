use Rattle.std.proofs.Common.{◌≡◌, ◌-◌}
use Rattle.methods.specs.Erasures.{runs_from}
use Rattle.methods.proofs.erasures.numbered_runs.Given as goal

abbrev pub invariant-loop-range : goal.invariant-loop-range
invariant-loop-range g l = l.runs.items ≡ runs_from (g.R.Rows.look_up l.rows) 1 (l.range - 1)
