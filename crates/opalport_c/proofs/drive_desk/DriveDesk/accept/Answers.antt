use Rattle.std.proofs.Common.{ℕ, ◌+◌, ◌%◌, ◌^◌, ap}
use Rattle.opalport_c.proofs.Handed.{took}
use Rattle.opalport_c.proofs.drive_desk.DriveDesk.accept.Goals as goal

pub returns-clause-done : goal.returns-clause-done
returns-clause-done c = took _ _ _ _ _ _ c.in-Some.ensures.cases.same c.forget.ensures.drive c.in_ok-accept_into.ensures.agrees
    c.in_ok-accept_into.ensures.answer c.forget.ensures.done (ap (λ (n : ℕ). (n + 1) % 2 ^ 64) c.forget.ensures.acts)
    (ap (λ (n : ℕ). (n + 1) % 2 ^ 64) c.forget.ensures.acts)
