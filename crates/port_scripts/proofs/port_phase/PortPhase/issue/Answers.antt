use Rattle.std.proofs.Common.{refl}
use Rattle.port_history.specs.declared.step.Step.TheVariants as steps
use Rattle.port_scripts.proofs.PortRuns.{told-so}
use Rattle.port_scripts.proofs.port_phase.PortPhase.issue.Goals as goal

pub returns : goal.returns
returns c =
    told-so c.told.result c.issue-done.result c.args.self.now _ _ (steps.Issue c.args.tag)
    c.args.report.now c.told.new.report (λ o list. refl)
    c.issue-done.ensures.refused c.issue-done.ensures.agrees c.issue-done.ensures.number c.issue-done.ensures.err
    c.told.ensures.prints c.told.ensures.gives c.told.ensures.port c.told.ensures.made
