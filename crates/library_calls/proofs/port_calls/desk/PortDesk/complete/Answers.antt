use Rattle.std.proofs.Common.{rules, refl, arith}
use Rattle.port_history.specs.declared.step.Step.TheVariants as steps
use Rattle.library_calls.proofs.port_calls.Steps.{stepped}
use Rattle.library_calls.proofs.port_calls.desk.PortDesk.complete.Goals as goal

pub returns-in-Some : goal.returns-in-Some
returns-in-Some c = stepped _ _ (λ x. steps.Complete x) _ _ _ _ (search (arith, rules)) c.in-Some.ensures.value c.told.ensures
    c.complete.ensures.agrees c.complete.ensures.number c.complete.ensures.refused c.complete.ensures.err refl
