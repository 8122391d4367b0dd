use Rattle.std.proofs.Common.{ℕ, ◌+◌, ◌%◌, ◌^◌, refl, ap}
use Rattle.opalport_c.proofs.Handed.{completed}
use Rattle.opalport_c.proofs.drive_desk.DriveDesk.complete.Goals as goal

pub returns-in-Ok-clause-done : goal.returns-in-Ok-clause-done
returns-in-Ok-clause-done c = completed _ _ _ _ _ _ _ c.in-Some.ensures.value c.forget.ensures.drive c.in-Ok.ensures.agrees
    c.in-Ok.ensures.answer refl (ap (λ (n : ℕ). (n + 1) % 2 ^ 64) c.forget.ensures.acts)
