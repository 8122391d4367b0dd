use Rattle.std.proofs.Common.{sym, ◌∙◌}
use Rattle.port_scripts.proofs.PortTurns.{asked-turn, no-step, port-steps}
use Rattle.port_scripts.proofs.port_desk.explained_turn.Goals as goal

pub returns-in-Some : goal.returns-in-Some
returns-in-Some c =
    asked-turn c.stepped_turn.result c.in-Some.step c.args.text.now c.args.phase.now c.stepped_turn.new.phase
    c.args.explainer.now c.stepped_turn.new.explainer c.args.number c.args.report.now c.stepped_turn.new.report
    (sym c.in_ok-step.ensures ∙ c.in-Some.is) c.stepped_turn.ensures

pub returns-in-None : goal.returns-in-None
returns-in-None c =
    no-step c.turn.result c.args.text.now c.args.phase.now c.turn.new.self c.args.explainer.now c.args.number
    c.args.report.now c.turn.new.report (sym c.in_ok-step.ensures ∙ c.in-None.is)
    (port-steps c.turn.result c.args.text.now c.args.phase.now c.turn.new.self c.args.report.now
    c.turn.new.report c.turn.ensures.does c.turn.ensures.bad_line c.turn.ensures.nothing_prints)
