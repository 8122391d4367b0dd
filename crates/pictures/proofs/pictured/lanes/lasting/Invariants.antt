use Rattle.std.proofs.Common.{◌≡◌, ◌+◌, drop}
use Rattle.pictures.specs.Bars.{lasting}
use Rattle.pictures.proofs.pictured.lanes.lasting.Given as goal

abbrev pub invariant-loop-place : goal.invariant-loop-place
invariant-loop-place l =
    lasting l.lane l.look l.at l.frames
    ≡ l.place + lasting l.lane l.look (l.at + l.place) (drop l.place l.frames)
