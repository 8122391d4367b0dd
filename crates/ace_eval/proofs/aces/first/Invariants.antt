use Rattle.std.proofs.Common.{◌≡◌, drop}
use Rattle.std.specs.Prelude.{filter}
use Rattle.ace_eval.specs.Aces.{first_holding, names}
use Rattle.ace_eval.proofs.aces.first.Given as goal

abbrev pub invariant-loop-ace : goal.invariant-loop-ace
invariant-loop-ace g l =
    first_holding (g.R.Rows.look_up l.rows) l.sp l.held (filter (names (g.R.Rows.look_up l.rows) l.sp l.column) (drop l.ace-index l.aces))
    ≡ first_holding (g.R.Rows.look_up l.rows) l.sp l.held (filter (names (g.R.Rows.look_up l.rows) l.sp l.column) l.aces)
