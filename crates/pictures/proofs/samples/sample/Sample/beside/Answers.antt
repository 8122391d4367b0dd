use Rattle.std.proofs.Common.{◌∙◌, ap}
use Rattle.std.specs.Prelude.{is_some}
use Rattle.drive.specs.Queue.{held_at}
use Rattle.history.specs.Facts.{facts}
use Rattle.history.specs.History.{log}
use Rattle.fis.specs.Tags.{slot_count}
use Rattle.pictures.proofs.samples.Listings.{listed_alike}
use Rattle.pictures.proofs.samples.Looks.{shows}
use Rattle.pictures.proofs.samples.sample.Sample.beside.Goals as goal

pub returns : goal.returns
returns c = λ o acts k.
    shows (facts o (log o acts)) c.args.slots.items c.args.registers c.in_ok-held.held.items
    c.is_some.result c.on.result c.on-2.result c.in_ok-locks.locks.items c.is_shadow_up.result _
    (c.in_ok-held.ensures
    ∙ listed_alike _ _ slot_count (λ tag below. ap is_some (k.held tag)))
    (c.is_some.ensures ∙ ap is_some (c.failure.ensures.told o acts k))
    (c.on.ensures o acts k) (c.on-2.ensures o acts k)
    c.in_ok-locks.ensures c.is_shadow_up.ensures (c.in_force-rows.ensures.told o acts k)
