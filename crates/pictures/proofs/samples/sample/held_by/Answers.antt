use Rattle.std.proofs.Common.{◌∙◌, ap, sym, refl}
use Rattle.std.specs.Prelude.{is_some}
use Rattle.drive.specs.Queue.{held_at}
use Rattle.pictures.proofs.samples.Listings.{none_listed, listed_on, low}
use Rattle.pictures.proofs.samples.sample.held_by.Goals as goal

pub loop-tag-init : goal.loop-tag-init
loop-tag-init c = c.new-held.ensures.items ∙ sym (none_listed _)

pub loop-tag-preserved : goal.loop-tag-preserved
loop-tag-preserved c =
    listed_on (λ tag. is_some (held_at c.args.drive.now.queue tag)) c.loop-tag.tag c.loop-tag.held.items c.push.new.self.items _ c.loop-tag.invariant
    (c.holds.ensures.stands ∙ ap (λ t. is_some (held_at c.args.drive.now.queue t)) (c.low_bits.ensures ∙ low c.loop-tag.tag c.loop-tag-test.true))
    c.in_ok-push.ensures.items
