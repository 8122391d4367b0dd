use Rattle.std.proofs.Common.{sym, subst}
use Rattle.runs.specs.Stepped.{RunMakes, StageStands}
use Rattle.runs.proofs.recorded.LineByLine.{run-makes, run-stands}
use Rattle.runs.proofs.recorded.stepped.run_line.Goals as goal

pub returns-in-Ok-clause-stands : goal.returns-in-Ok-clause-stands
returns-in-Ok-clause-stands c =
    subst StageStands (sym c.stage_behind.ensures)
    (run-stands c.in-Ok.turn c.args.remarks c.args.run c.turn_or_skip.new.self c.args.number c.args.text.now c.args.report.now c.turn_or_skip.new.report
    c.requires c.in-Ok.ensures.steps)

pub returns-in-Ok-clause-makes : goal.returns-in-Ok-clause-makes
returns-in-Ok-clause-makes c =
    subst (λ stage. RunMakes c.args.remarks c.args.run c.args.number c.args.text.now c.args.report.now stage c.turn_or_skip.new.report)
    (sym c.stage_behind.ensures)
    (run-makes c.in-Ok.turn c.args.remarks c.args.run c.turn_or_skip.new.self c.args.number c.args.text.now c.args.report.now c.turn_or_skip.new.report
    c.in-Ok.ensures.steps)
