use Rattle.std.proofs.Common.{◌≡◌, Ok, sym, subst, IfSome}
use Rattle.transactions.specs.Sights.{look_up, committed_sight}
use Rattle.drive.specs.Decision.{policy_on, FitsPolicy}
use Rattle.drive.specs.State.{DriveState}
use Rattle.drive.proofs.Policies.{permitted-fits, permitted-so}
use Rattle.drive.proofs.drive.Drive.permission.Goals as goal

pub returns-clause-value : goal.returns-clause-value
returns-clause-value c =
    let inside = c.self.inside in
    subst (λ (d : DriveState). IfSome c.permission.result (λ s. policy_on d c.args.transfer.now ≡ Ok s)) c.self.view_is
    (permitted-so _ _ _ _ c.args.transfer.now c.permission.result (sym c.self.invariant.1) c.self.invariant.2 c.permission.ensures)

pub returns-clause-fits : goal.returns-clause-fits
returns-clause-fits c =
    let inside = c.self.inside in
    subst (λ (d : DriveState). IfSome c.permission.result (FitsPolicy d c.args.transfer.now)) c.self.view_is
    (permitted-fits inside.tper.value.store.config.sectors inside.tper.value.store.config.mbr_sectors (look_up (committed_sight inside.tper.value.store)) c.args.transfer.now c.permission.result
    (permitted-so _ _ _ _ c.args.transfer.now c.permission.result (sym c.self.invariant.1) c.self.invariant.2 c.permission.ensures))
