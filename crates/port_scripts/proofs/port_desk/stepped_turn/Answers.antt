use Rattle.std.proofs.Common.{sym, subst, ◌∙◌}
use Rattle.port.specs.Live.{LiveAgrees}
use Rattle.port_scripts.specs.PortActs.{bare_steps}
use Rattle.port_scripts.specs.PortReasons.{steps_behind}
use Rattle.port_scripts.proofs.PortTurns.{step-told}
use Rattle.port_scripts.proofs.port_desk.stepped_turn.Goals as goal

pub returns : goal.returns
returns c = λ o past keeps.
    let list = bare_steps past in
    let step = c.args.step.now in
    let reason = c.in_ok-refused.refused in
    let took = c.in_ok-refused.ensures o list keeps.runs in
    step-told c.step.new.self c.explain_step.new.explainer o past c.args.number step reason c.args.report.now
    c.step.new.report c.explain_step.new.report took.0 took.1 c.explain_step.ensures.last
    (λ now. c.in_ok-explain_step.ensures.explains o past
    (λ lawful. c.in_ok-ahead.ensures o past
    (subst (λ port. LiveAgrees port o list) (sym c.port.ensures) keeps.runs.stands) (sym took.1 ∙ lawful))
    (subst (λ port. LiveAgrees port o (bare_steps (steps_behind past c.args.number step reason))) (sym c.port-port.ensures) now)
    keeps.recounts)
