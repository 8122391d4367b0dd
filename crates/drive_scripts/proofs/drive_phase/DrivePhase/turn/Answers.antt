use Rattle.std.proofs.Common.{refl}
use Rattle.drive_scripts.proofs.Turns.{plain-turn, kept-turn, stands-reached}
use Rattle.drive_scripts.proofs.drive_phase.DrivePhase.turn.Goals as goal

pub explained_turn-requires : goal.explained_turn-requires
explained_turn-requires c = stands-reached c.args.self.now c.requires

pub turn-requires : goal.turn-requires
turn-requires c = stands-reached c.args.self.now c.requires

pub returns-in-Some : goal.returns-in-Some
returns-in-Some c =
    kept-turn c.explained_turn.result c.args.self.now _ c.in-Some.explainer c.explained_turn.new.explainer
    c.args.number c.args.text.now c.args.report.now c.explained_turn.new.report c.in-Some.is refl
    c.explained_turn.ensures

pub returns-in-None : goal.returns-in-None
returns-in-None c =
    plain-turn c.turn.result c.args.self.now _ c.args.number c.args.text.now c.args.report.now
    c.turn.new.report c.in-None.is c.in-None.is c.turn.ensures.steps
