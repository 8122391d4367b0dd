use Rattle.std.proofs.Common.{◌∙◌, ap}
use Rattle.device_data.specs.declared.settings.Settings.{Settings}
use Rattle.history.specs.Facts.{facts}
use Rattle.history.specs.History.{log}
use Rattle.history.specs.Answers.{served_fises}
use Rattle.drive.proofs.Acting.{asks-done, read-as}
use Rattle.drive.proofs.drive.Drive.ask_stack.Goals as goal

pub returns-clause-done : goal.returns-clause-done
returns-clause-done c = λ o acts k.
    let e = c.set_served.ensures in
    let x = c.in_ok-bytes.ensures in
    let f = facts o (log o acts) in
    asks-done f c.args.h.now c.asked_of_stack.new.self o (log o acts) c.args.payload.now c.args.command c.set_served.new.self
    (read-as c.args.self.now o (log o acts) c.args.h.now _ k c.requires.0)
    (record { status_is = e.status; error_is = e.error; held_is = e.held; fises_are = e.fises ∙ c.served_form.ensures ∙ ap (λ (s : Settings). served_fises s c.args.command) (c.chosen-settings.ensures ∙ k.settings); bytes_are = e.bytes ∙ x.data o acts k; denied_is = e.denied ∙ x.denied f; rule_is = e.rule ∙ x.rule f }) (x.kept o acts k)
