use Rattle.std.proofs.Common.{◌∙◌, ap, sym, refl}
use Rattle.port.specs.Answers.{stage_at}
use Rattle.pictures.proofs.samples.Listings.{none_listed, listed_on, low}
use Rattle.pictures.proofs.samples.sample.stages_of.Goals as goal

pub loop-tag-init : goal.loop-tag-init
loop-tag-init c = c.new-stages.ensures.items ∙ sym (none_listed _)

pub loop-tag-preserved : goal.loop-tag-preserved
loop-tag-preserved c =
    listed_on (stage_at c.args.port.now.bare.slots) c.loop-tag.tag c.loop-tag.stages.items c.push.new.self.items _ c.loop-tag.invariant
    (c.stage.ensures ∙ ap (stage_at c.args.port.now.bare.slots) (c.low_bits.ensures ∙ low c.loop-tag.tag c.loop-tag-test.true))
    c.in_ok-push.ensures.items
