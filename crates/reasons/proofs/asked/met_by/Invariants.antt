use Rattle.std.proofs.Common.{◌≡◌, ◌-◌}
use Rattle.reasons.specs.Asked.{met_from}
use Rattle.reasons.proofs.asked.met_by.Given as goal

abbrev pub invariant-loop-other : goal.invariant-loop-other
invariant-loop-other g l =
    met_from (g.R.Rows.look_up l.rows) l.range l.place 1 16 ≡ met_from (g.R.Rows.look_up l.rows) l.range l.place l.other (17 - l.other)
