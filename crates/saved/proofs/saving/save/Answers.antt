use Rattle.std.proofs.Common.{subst, sym}
use Rattle.history.specs.History.{log}
use Rattle.drive.specs.State.{DriveState, Agrees}
use Rattle.drive.proofs.Rests.{power_off_law}
use Rattle.saved.proofs.saving.save.Goals as goal

pub returns : goal.returns
returns c = λ o acts k.
    let kept = c.reset.ensures.agrees o acts (subst (λ (d : DriveState). Agrees d o acts) (sym c.in_ok-off.ensures) k) in
    (_, c.in_ok-text.ensures (power_off_law _ o (log o acts) kept), kept)
