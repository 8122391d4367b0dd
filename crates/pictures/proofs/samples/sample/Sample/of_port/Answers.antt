use Rattle.std.proofs.Common.{◌∙◌, ap, subst, sym, Some}
use Rattle.drive.specs.State.{Agrees}
use Rattle.fis.specs.Tags.{slot_count}
use Rattle.history.specs.Facts.{facts}
use Rattle.history.specs.History.{log}
use Rattle.port_history.specs.Steps.{acts}
use Rattle.pictures.specs.Samples.{registers_of}
use Rattle.pictures.proofs.samples.Listings.{listed_alike}
use Rattle.pictures.proofs.samples.Looks.{shows_slots}
use Rattle.pictures.proofs.samples.sample.Sample.of_port.Goals as goal

pub returns : goal.returns
returns c = λ o list k.
    shows_slots (facts o (log o (acts o list))) c.in_ok-slots.slots.items _ _ _ _
    (c.in_ok-sample.ensures o (acts o list)
    (subst (λ d. Agrees d o (acts o list)) (sym c.drive.ensures) k.stands.drive))
    (c.in_ok-slots.ensures ∙ listed_alike _ _ slot_count (λ tag below. (k.stands.tags tag below).stands))
    (ap Some (c.of-registers.ensures ∙ ap registers_of (c.regs.ensures.value ∙ k.stands.regs)))
