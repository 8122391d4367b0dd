use Rattle.std.proofs.Common.{subst, sym}
use Rattle.drive.specs.State.{DriveState, Agrees}
use Rattle.opalport_c.proofs.saves.desk_of_text.Goals as goal

pub returns-clause-loaded : goal.returns-clause-loaded
returns-clause-loaded c = (
  c.new-desk.result,
  c.in_ok-object.ensures.value,
  c.new-desk.ensures.new,
  λ o acts k. subst (λ (d : DriveState). Agrees d o acts) (sym c.new-desk.ensures.drive) (c.in_ok-drive.ensures.loaded o acts k),
)
