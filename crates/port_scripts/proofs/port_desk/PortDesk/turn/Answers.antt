use Rattle.std.proofs.Common.{refl}
use Rattle.port_scripts.proofs.PortTurns.{kept-desk, plain-desk, port-steps}
use Rattle.port_scripts.proofs.port_desk.PortDesk.turn.Goals as goal

pub returns-in-Some : goal.returns-in-Some
returns-in-Some c =
    kept-desk c.explained_turn.result c.args.self.now _ c.in-Some.explainer c.explained_turn.new.explainer c.args.number
    c.args.text.now c.args.report.now c.explained_turn.new.report c.in-Some.is refl c.explained_turn.ensures

pub returns-in-None : goal.returns-in-None
returns-in-None c =
    plain-desk c.turn.result c.args.self.now _ c.args.number c.args.text.now c.args.report.now c.turn.new.report
    c.in-None.is c.in-None.is
    (port-steps c.turn.result c.args.text.now c.args.self.now.phase c.turn.new.self c.args.report.now
    c.turn.new.report c.turn.ensures.does c.turn.ensures.bad_line c.turn.ensures.nothing_prints)
