use Rattle.std.proofs.Common.{◌+◌}
use Rattle.pictures.proofs.pictured.Walks.{bars_on, bars_all, all_behind}
use Rattle.pictures.proofs.pictured.lanes.add_bars.Goals as goal

pub loop-place-preserved : goal.loop-place-preserved
loop-place-preserved c =
    bars_on c.args.lane c.args.row c.loop-place.place c.loop-place.shown c.look_at-look.result c.args.frames.now _
    c.index-frames-place.result _ c.loop-place.picture c.add_begun.new.picture
    c.loop-place-test.true c.index-frames-place.is
    (all_behind c.args.frames.now (c.loop-place.place + 1)) c.look_at-look.ensures c.loop-place.invariant
    c.in_ok-add_begun.ensures

pub returns : goal.returns
returns c =
    bars_all c.args.lane c.args.row c.loop-place.place c.loop-place.shown c.args.frames.now _ c.loop-place.picture
    c.loop-place-test.false c.loop-place.invariant
