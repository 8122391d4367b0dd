use Rattle.std.proofs.Common.{◌≡◌, ℕ, ◌∙◌, ap, sym, subst, IfOk}
use Rattle.transactions.specs.Sights.{look_up, committed_sight}
use Rattle.locking.specs.Range.{RangeRows}
use Rattle.drive.specs.Decision.{told, policy, FitsPolicy}
use Rattle.drive.specs.State.{DriveState}
use Rattle.drive.proofs.Policies.{told-fits}
use Rattle.drive.proofs.drive.Drive.policy.Goals as goal

pub returns-clause-fits : goal.returns-clause-fits
returns-clause-fits c =
    let inside = c.self.inside in
    let made : told c.policy.result ≡ policy inside.tper.value.store.config.sectors _ c.args.transfer.now =
    c.policy.ensures ∙ ap (λ (n : ℕ). policy n inside.ranges c.args.transfer.now) (sym c.self.invariant.1)
    ∙ ap (λ (rows : RangeRows). policy inside.tper.value.store.config.sectors rows c.args.transfer.now) c.self.invariant.2 in
    subst (λ (d : DriveState). IfOk c.policy.result (FitsPolicy d c.args.transfer.now)) c.self.view_is
    (told-fits inside.tper.value.store.config.sectors inside.tper.value.store.config.mbr_sectors (look_up (committed_sight inside.tper.value.store)) c.args.transfer.now c.policy.result made)
