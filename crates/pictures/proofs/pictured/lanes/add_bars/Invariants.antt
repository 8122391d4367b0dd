use Rattle.std.proofs.Common.{◌≡◌, None, drop}
use Rattle.pictures.specs.Bars.{bars_from, with_bars}
use Rattle.pictures.proofs.pictured.lanes.add_bars.Given as goal

abbrev pub invariant-loop-place : goal.invariant-loop-place
invariant-loop-place l =
    with_bars (bars_from l.lane l.row None 0 l.frames) l.fn.picture
    ≡ with_bars (bars_from l.lane l.row l.shown l.place (drop l.place l.frames)) l.picture
