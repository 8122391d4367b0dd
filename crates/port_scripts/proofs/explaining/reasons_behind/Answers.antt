use Rattle.std.proofs.Common.{◌∷◌, ◌∙◌}
use Rattle.std.proofs.lemmas.Result.{IfOk-weaker}
use Rattle.port_history.specs.Steps.{acts}
use Rattle.port_scripts.specs.PortActs.{bare_steps, steps_done}
use Rattle.port_scripts.proofs.PortTold.{reasons-accepted}
use Rattle.port_scripts.proofs.explaining.reasons_behind.Goals as goal

pub returns-in-Accept : goal.returns-in-Accept
returns-in-Accept c =
    IfOk-weaker c.acceptance_of.result _ _
    (λ text told. λ o past agrees ahead kept.
    told o (steps_done o past) (acts o (c.args.step.now ∷ bare_steps past)) agrees.stands.drive kept
    ∙ reasons-accepted c.args.port.now c.args.ahead.now o past c.args.step.now c.in-Accept.tag c.in-Accept.is agrees ahead)
    c.acceptance_of.ensures
