use Rattle.std.proofs.Common.{◌≡◌}
use Rattle.pictures.specs.Bars.{with_lanes}
use Rattle.pictures.proofs.pictured.picture.add_lanes.Given as goal

abbrev pub invariant-loop-place : goal.invariant-loop-place
invariant-loop-place l = l.picture ≡ with_lanes l.frames l.place l.fn.picture
