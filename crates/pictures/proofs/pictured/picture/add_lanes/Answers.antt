use Rattle.std.proofs.Common.{sym}
use Rattle.pictures.proofs.pictured.Walks.{no_lanes, lanes_on}
use Rattle.pictures.proofs.pictured.picture.add_lanes.Goals as goal

pub loop-place-init : goal.loop-place-init
loop-place-init c = sym (no_lanes c.args.frames.now c.args.picture.now)

pub loop-place-preserved : goal.loop-place-preserved
loop-place-preserved c =
    lanes_on c.args.frames.now c.loop-place.place c.args.picture.now c.loop-place.picture c.add_lane.new.picture
    c.lane_at.result c.lane_at.ensures c.loop-place.invariant c.in_ok-add_lane.ensures
