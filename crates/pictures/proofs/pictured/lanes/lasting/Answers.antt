use Rattle.std.proofs.Common.{◌≡◌, ◌∙◌, ap, sym, arith, length}
use Rattle.pictures.specs.Looks.{is_shown}
use Rattle.pictures.proofs.pictured.Walks.{lasts_first, lasts_on, lasts_no_more, lasts_to_the_end}
use Rattle.pictures.proofs.pictured.lanes.lasting.Goals as goal

pub loop-place-init : goal.loop-place-init
loop-place-init c = lasts_first c.args.lane c.args.look c.args.at c.args.frames.now

pub returns-then-not-is_shown-clause-value : goal.returns-then-not-is_shown-clause-value
returns-then-not-is_shown-clause-value c =
    sym (lasts_no_more c.args.lane c.args.look c.args.at _ c.loop-place.place c.args.frames.now c.index-frames-place.result
    c.loop-place-test.true c.index-frames-place.is
    (ap (is_shown c.args.look) (sym c.look_at.ensures) ∙ sym c.is_shown.ensures ∙ c.if-not-is_shown.true)
    c.loop-place.invariant)

pub loop-place-preserved : goal.loop-place-preserved
loop-place-preserved c =
    lasts_on c.args.lane c.args.look c.args.at _ c.loop-place.place c.args.frames.now c.index-frames-place.result
    c.loop-place-test.true c.index-frames-place.is
    (ap (is_shown c.args.look) (sym c.look_at.ensures) ∙ sym c.is_shown.ensures ∙ c.if-not-is_shown.false)
    c.loop-place.invariant

pub returns-clause-value : goal.returns-clause-value
returns-clause-value c =
    let there : c.loop-place.place ≡ length c.args.frames.now = omega (arith, c.loop-place-test.false, c.loop-place.auto.place-end) in
    sym there
    ∙ sym (lasts_to_the_end c.args.lane c.args.look c.args.at _ c.loop-place.place c.args.frames.now
    c.loop-place-test.false c.loop-place.invariant)
