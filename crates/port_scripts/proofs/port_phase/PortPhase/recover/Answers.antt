use Rattle.std.proofs.Common.{refl}
use Rattle.port_history.specs.declared.step.Step.TheVariants as steps
use Rattle.port_scripts.proofs.PortRuns.{told-so}
use Rattle.port_scripts.proofs.port_phase.PortPhase.recover.Goals as goal

pub returns : goal.returns
returns c =
    told-so c.told.result c.recover-done.result c.args.self.now _ _ steps.Recover
    c.args.report.now c.told.new.report (λ o list. refl)
    c.recover-done.ensures.refused c.recover-done.ensures.agrees c.recover-done.ensures.number c.recover-done.ensures.err
    c.told.ensures.prints c.told.ensures.gives c.told.ensures.port c.told.ensures.made
