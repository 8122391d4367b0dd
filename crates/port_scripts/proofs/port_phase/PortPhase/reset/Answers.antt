use Rattle.std.proofs.Common.{refl}
use Rattle.port_history.specs.declared.step.Step.TheVariants as steps
use Rattle.port_scripts.proofs.PortRuns.{told-so}
use Rattle.port_scripts.proofs.port_phase.PortPhase.reset.Goals as goal

pub returns : goal.returns
returns c =
    told-so c.told.result c.reset-done.result c.args.self.now _ _ (steps.Reset c.args.client c.args.kind)
    c.args.report.now c.told.new.report (λ o list. refl)
    c.reset-done.ensures.refused c.reset-done.ensures.agrees c.reset-done.ensures.number c.reset-done.ensures.err
    c.told.ensures.prints c.told.ensures.gives c.told.ensures.port c.told.ensures.made
