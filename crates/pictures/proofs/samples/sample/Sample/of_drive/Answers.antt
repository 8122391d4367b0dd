use Rattle.std.proofs.Common.{refl}
use Rattle.history.specs.Facts.{facts}
use Rattle.history.specs.History.{log}
use Rattle.pictures.proofs.samples.Looks.{shows_slots}
use Rattle.pictures.proofs.samples.sample.Sample.of_drive.Goals as goal

pub returns : goal.returns
returns c = λ o acts k.
    shows_slots (facts o (log o acts)) c.in_ok-slots.slots.items _ _ _ _
    (c.in_ok-sample.ensures o acts k) c.in_ok-slots.ensures refl
