use Rattle.std.proofs.Common.{rules, refl, arith}
use Rattle.library_calls.proofs.port_calls.Steps.{taken}
use Rattle.library_calls.proofs.port_calls.desk.PortDesk.take.Goals as goal

pub returns-in-Ok : goal.returns-in-Ok
returns-in-Ok c = taken _ _ _ _ _ _ _ _ (search (arith, rules)) c.in-Some.ensures.value c.of-taken.ensures
    c.in-Ok.ensures.agrees c.in-Ok.ensures.answer c.in-Ok.ensures.served c.in-Ok.ensures.refused refl
