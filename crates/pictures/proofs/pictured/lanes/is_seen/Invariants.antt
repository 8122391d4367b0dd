use Rattle.std.proofs.Common.{◌≡◌, drop}
use Rattle.pictures.specs.Bars.{is_seen}
use Rattle.pictures.proofs.pictured.lanes.is_seen.Given as goal

abbrev pub invariant-loop-place : goal.invariant-loop-place
invariant-loop-place l = is_seen l.lane 0 l.frames ≡ is_seen l.lane l.place (drop l.place l.frames)
