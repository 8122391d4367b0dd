use Rattle.std.proofs.Common.{Option, Some, option_copied, sym, ap, ◌∙◌}
use Rattle.std.proofs.lemmas.Result.{IfOk-weaker}
use Rattle.audit.specs.declared.reason.Why.{Why}
use Rattle.drive.specs.State.{DriveState}
use Rattle.opalport_c.specs.About.{drive_of}
use Rattle.opalport_c.specs.Remedies.{remedy_for, remedy_in}
use Rattle.opalport_c.proofs.object.Object.copy_remedy.Goals as goal

pub returns : goal.returns
returns c =
    c.copy_text.ensures (remedy_in c.args.self.now c.args.place)
    (IfOk-weaker c.remedy_by.result _ _
    (λ text is. is ∙ ap (λ (d : DriveState). remedy_for d (Some c.in-Some.why.now)) c.drive.ensures
    ∙ ap (λ (w : Option Why). remedy_for (drive_of c.args.self.now) w) (sym (ap option_copied c.in-Some.is) ∙ c.why.ensures))
    c.remedy_by.ensures)
