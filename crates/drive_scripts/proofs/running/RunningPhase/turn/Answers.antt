use Rattle.std.proofs.Common.{sym, subst, refl, ◌∙◌}
use Rattle.drive_scripts.specs.DriveCourses.{line_course, DriveSteps}
use Rattle.drive_scripts.specs.declared.turn.Fault.TheVariants as faults
use Rattle.drive_scripts.specs.declared.turn.Turn.TheVariants.{Bad}
use Rattle.drive_scripts.proofs.Runs.{stands-after}
use Rattle.drive_scripts.proofs.Turns.{steps-after}
use Rattle.drive_scripts.proofs.running.RunningPhase.turn.Goals as goal

pub returns-in-Ok-clause-stands : goal.returns-in-Ok-clause-stands
returns-in-Ok-clause-stands c =
    stands-after c.act.result _ _ c.args.self.now c.act.new.self _ _ c.requires c.act.ensures

pub returns-in-Ok-clause-steps : goal.returns-in-Ok-clause-steps
returns-in-Ok-clause-steps c =
    steps-after c.act.result c.in-Ok.line c.args.text.now c.args.self.now c.act.new.self
    c.args.report.now c.act.new.report
    (sym c.parse.ensures.exact ∙ c.in-Ok.is) c.act.ensures

pub returns-in-Err-clause-steps : goal.returns-in-Err-clause-steps
returns-in-Err-clause-steps c = λ o acts runs.
    let report = c.args.report.now in
    subst
    (λ read. DriveSteps (Bad (faults.Line c.in-Err.fault))
    (line_course o acts report.last.items c.args.text.now read) c.args.self.now o report report)
    (sym (sym c.parse.ensures.exact ∙ c.in-Err.is)) (refl, refl)
