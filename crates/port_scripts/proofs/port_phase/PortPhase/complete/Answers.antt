use Rattle.std.proofs.Common.{refl}
use Rattle.port_history.specs.declared.step.Step.TheVariants as steps
use Rattle.port_scripts.proofs.PortRuns.{told-so}
use Rattle.port_scripts.proofs.port_phase.PortPhase.complete.Goals as goal

pub returns : goal.returns
returns c =
    told-so c.told.result c.complete-done.result c.args.self.now _ _ (steps.Complete c.args.tag)
    c.args.report.now c.told.new.report (λ o list. refl)
    c.complete-done.ensures.refused c.complete-done.ensures.agrees c.complete-done.ensures.number c.complete-done.ensures.err
    c.told.ensures.prints c.told.ensures.gives c.told.ensures.port c.told.ensures.made
