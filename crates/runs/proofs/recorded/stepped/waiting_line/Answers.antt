use Rattle.std.proofs.Common.{sym, subst}
use Rattle.std.proofs.lemmas.Result.{IfOk-weaker}
use Rattle.runs.specs.Stepped.{LineMakes}
use Rattle.runs.proofs.recorded.LineByLine.{untold-makes, front-makes, kept-makes}
use Rattle.runs.proofs.recorded.stepped.waiting_line.Goals as goal

pub returns-in-Untold-clause-makes : goal.returns-in-Untold-clause-makes
returns-in-Untold-clause-makes c =
    IfOk-weaker c.front_line.result _ _
    (λ next makes.
    subst (λ stage. LineMakes c.args.explains c.args.options.now stage c.args.number c.args.text.now c.args.report.now next c.front_line.new.report)
    (sym c.in-Untold.is)
    (untold-makes c.args.explains c.args.options.now c.may_hold_remarks-remarks.result c.new-front.result c.args.number c.args.text.now c.args.report.now
    c.front_line.new.report next c.may_hold_remarks-remarks.ensures c.new-front.ensures (makes c.args.options.now)))
    c.front_line.ensures.makes

pub returns-in-InFront-clause-makes : goal.returns-in-InFront-clause-makes
returns-in-InFront-clause-makes c =
    IfOk-weaker c.front_line-in-InFront.result _ _
    (λ next makes.
    subst (λ stage. LineMakes c.args.explains c.args.options.now stage c.args.number c.args.text.now c.args.report.now next c.front_line-in-InFront.new.report)
    (sym c.in-InFront.is)
    (front-makes c.args.explains c.args.options.now c.in-InFront.remarks c.in-InFront.front c.args.number c.args.text.now c.args.report.now
    c.front_line-in-InFront.new.report next (makes c.args.options.now)))
    c.front_line-in-InFront.ensures.makes

pub returns-in_default-clause-makes : goal.returns-in_default-clause-makes
returns-in_default-clause-makes c =
    kept-makes c.args.explains c.args.options.now c.args.stage c.args.number c.args.text.now c.args.report.now c.requires
    c.in_default.not-Untold c.in_default.not-InFront
