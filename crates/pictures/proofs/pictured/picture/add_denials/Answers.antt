use Rattle.pictures.proofs.pictured.Walks.{denials_on, denials_all}
use Rattle.pictures.proofs.pictured.picture.add_denials.Goals as goal

pub loop-place-preserved : goal.loop-place-preserved
loop-place-preserved c =
    denials_on c.loop-place.place c.args.frames.now c.index-frames-place.result _ c.loop-place.picture
    c.add_denial.new.picture c.loop-place-test.true c.index-frames-place.is c.loop-place.invariant
    c.in_ok-add_denial.ensures

pub returns : goal.returns
returns c =
    denials_all c.loop-place.place c.args.frames.now _ c.loop-place.picture c.loop-place-test.false c.loop-place.invariant
