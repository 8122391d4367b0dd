use Rattle.std.proofs.Common.{◌∙◌, ap, sym, subst, refl, rules}
use Rattle.sp_cells.specs.Config.{Config}
use Rattle.tper.specs.Tper.{Tper, Keeps}
use Rattle.drive.specs.State.{DriveState, KeepsDrive}
use Rattle.drive.proofs.Restarts.{restart-keeps}
use Rattle.drive.proofs.drive.Drive.restart.Goals as goal

pub invariant_of-self : goal.invariant_of-self
invariant_of-self c =
    let i = c.self.invariant in
    let config = c.reset.ensures.config ∙ ap (λ (t : Tper). t.store.config) c.deref_mut.ensures.value in
    (i.0, ap (λ (d : Config). d.sectors) config ∙ i.1, search rules, i.3, c.new.ensures.fits c.self.inside.sectors c.reset.new.self.store.config.mbr_sectors, ap (λ (d : Config). d.profile) config ∙ i.5)

pub returns : goal.returns
returns c = λ o past k.
    let inside = c.self.inside in
    let old : DriveState = record { tper = inside.tper.value; queue = inside.queue.value; media = inside.media.value; settings = inside.settings } in
    let new : DriveState = record { tper = c.reset.new.self; queue = c.new.result; media = inside.media.value; settings = c.after_reset-self-inside.result } in
    let kept : KeepsDrive old o past = subst (λ (x : DriveState). KeepsDrive x o past) (sym c.self.view_is) k in
    let lent : Keeps c.deref_mut.result.now o past = subst (λ (t : Tper). Keeps t o past) (sym c.deref_mut.ensures.value) kept.tper in
    restart-keeps old new o past c.args.kind (c.reset.ensures.kept o past lent) c.new.ensures.empty refl c.after_reset-self-inside.ensures kept
