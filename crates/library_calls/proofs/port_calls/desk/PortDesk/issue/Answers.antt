use Rattle.std.proofs.Common.{rules, refl, arith}
use Rattle.port_history.specs.declared.step.Step.TheVariants as steps
use Rattle.library_calls.proofs.port_calls.Steps.{stepped}
use Rattle.library_calls.proofs.port_calls.desk.PortDesk.issue.Goals as goal

pub returns-in-Some : goal.returns-in-Some
returns-in-Some c = stepped _ _ (λ x. steps.Issue x) _ _ _ _ (search (arith, rules)) c.in-Some.ensures.value c.told.ensures
    c.issue.ensures.agrees c.issue.ensures.number c.issue.ensures.refused c.issue.ensures.err refl
