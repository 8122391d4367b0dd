use Rattle.std.proofs.Common.{◌∙◌, ap, sym, refl}
use Rattle.port_history.specs.declared.stages.Stage.TheVariants.{Free}
use Rattle.pictures.proofs.samples.Listings.{none_listed, listed_on, low}
use Rattle.pictures.proofs.samples.sample.no_stages.Goals as goal

pub loop-tag-init : goal.loop-tag-init
loop-tag-init c = c.new-stages.ensures.items ∙ sym (none_listed _)

pub loop-tag-preserved : goal.loop-tag-preserved
loop-tag-preserved c =
    listed_on (λ _. Free) c.loop-tag.tag c.loop-tag.stages.items c.push.new.self.items _ c.loop-tag.invariant
    (refl)
    c.in_ok-push.ensures.items
