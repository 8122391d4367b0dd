use Rattle.std.proofs.Common.{subst}
use Rattle.std.specs.Prelude.{IfSome}
use Rattle.runs.specs.Stepped.{TurnsInPlace}
use Rattle.runs.proofs.recorded.LineByLine.{placed-makes, placed-stands}
use Rattle.runs.proofs.recorded.stepped.stage_line.Goals as goal

pub returns-in-Some-clause-stands : goal.returns-in-Some-clause-stands
returns-in-Some-clause-stands c =
    placed-stands c.in-Some.turn c.args.stage.now c.turn_in_place.new.stage c.end_by.new.stage c.args.number c.args.text.now
    c.args.report.now c.turn_in_place.new.report c.requires
    (subst
    (λ turn. IfSome turn (λ made. TurnsInPlace c.args.stage.now c.args.number c.args.text.now c.args.report.now made c.turn_in_place.new.stage c.turn_in_place.new.report))
    c.in-Some.is c.in_ok-turn.ensures.turns)
    c.end_by.ensures

pub returns-in-Some-clause-makes : goal.returns-in-Some-clause-makes
returns-in-Some-clause-makes c =
    placed-makes c.args.explains c.args.options.now c.in-Some.turn c.args.stage.now c.turn_in_place.new.stage c.end_by.new.stage c.args.number c.args.text.now
    c.args.report.now c.turn_in_place.new.report
    (subst
    (λ turn. IfSome turn (λ made. TurnsInPlace c.args.stage.now c.args.number c.args.text.now c.args.report.now made c.turn_in_place.new.stage c.turn_in_place.new.report))
    c.in-Some.is c.in_ok-turn.ensures.turns)
    c.end_by.ensures
