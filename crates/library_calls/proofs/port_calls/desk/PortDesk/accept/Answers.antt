use Rattle.std.proofs.Common.{rules, refl, arith}
use Rattle.port_history.specs.declared.step.Step.TheVariants as steps
use Rattle.library_calls.proofs.port_calls.Steps.{stepped}
use Rattle.library_calls.proofs.port_calls.desk.PortDesk.accept.Goals as goal

pub returns-in-Some : goal.returns-in-Some
returns-in-Some c = stepped _ _ (λ x. steps.Accept x) _ _ _ _ (search (arith, rules)) c.in-Some.ensures.value c.told.ensures
    c.accept.ensures.agrees c.accept.ensures.number c.accept.ensures.refused c.accept.ensures.err refl
