use Rattle.std.proofs.Common.{◌∙◌, ap, sym}
use Rattle.std.specs.Prelude.{is_some}
use Rattle.pictures.proofs.pictured.Walks.{seen_on, seen_here, seen_nowhere}
use Rattle.pictures.proofs.pictured.lanes.is_seen.Goals as goal

pub returns-then-is_some : goal.returns-then-is_some
returns-then-is_some c =
    seen_here c.args.lane c.loop-place.place c.args.frames.now c.index-frames-place.result _
    c.loop-place-test.true c.index-frames-place.is
    (ap is_some (sym c.look_at.ensures) ∙ sym c.is_some.ensures ∙ c.if-is_some.true) c.loop-place.invariant

pub loop-place-preserved : goal.loop-place-preserved
loop-place-preserved c =
    seen_on c.args.lane c.loop-place.place c.args.frames.now c.index-frames-place.result _
    c.loop-place-test.true c.index-frames-place.is
    (ap is_some (sym c.look_at.ensures) ∙ sym c.is_some.ensures ∙ c.if-is_some.false) c.loop-place.invariant

pub returns : goal.returns
returns c =
    seen_nowhere c.args.lane c.loop-place.place c.args.frames.now _ c.loop-place-test.false c.loop-place.invariant
