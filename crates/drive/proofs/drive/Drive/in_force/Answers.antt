use Rattle.std.proofs.Common.{ap, ◌∙◌}
use Rattle.transactions.specs.Sights.{look_up, committed_sight}
use Rattle.history.specs.History.{log}
use Rattle.tper.specs.Tper.{Tper}
use Rattle.drive.specs.State.{DriveState}
use Rattle.drive.proofs.Keeping.{agreed_rows}
use Rattle.drive.proofs.drive.Drive.in_force.Goals as goal

pub returns-clause-told : goal.returns-clause-told
returns-clause-told c = λ o acts agrees.
    ap look_up (c.in_force.ensures ∙ ap (λ (t : Tper). committed_sight t.store) c.deref.ensures ∙ ap (λ (d : DriveState). committed_sight d.tper.store) c.self.view_is)
    ∙ agreed_rows c.args.self.now o (log o acts) agrees
