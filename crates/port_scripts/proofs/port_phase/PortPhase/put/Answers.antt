use Rattle.std.proofs.Common.{refl}
use Rattle.port_history.specs.declared.step.Step.TheVariants as steps
use Rattle.port_scripts.proofs.PortRuns.{told-so}
use Rattle.port_scripts.proofs.port_phase.PortPhase.put.Goals as goal

pub returns : goal.returns
returns c =
    told-so c.told.result c.put-done.result c.args.self.now _ _ (steps.Put c.args.client c.args.tag c.args.request.now)
    c.args.report.now c.told.new.report (λ o list. refl)
    c.put-done.ensures.refused c.put-done.ensures.agrees c.put-done.ensures.number c.put-done.ensures.err
    c.told.ensures.prints c.told.ensures.gives c.told.ensures.port c.told.ensures.made
