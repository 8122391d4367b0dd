use Rattle.std.proofs.Common.{sym, subst, refl}
use Rattle.tper.specs.Tper.{Tper, Keeps}
use Rattle.drive.specs.State.{DriveState, KeepsDrive}
use Rattle.drive.proofs.Acting.{stack-reset-keeps}
use Rattle.drive.proofs.drive.Drive.reset_stack.Goals as goal

pub returns : goal.returns
returns c = λ o past k.
    let inside = c.self.inside in
    let old : DriveState = record { tper = inside.tper.value; queue = inside.queue.value; media = inside.media.value; settings = inside.settings } in
    let new : DriveState = record { tper = c.reset_stack.new.self; queue = inside.queue.value; media = inside.media.value; settings = inside.settings } in
    let kept : KeepsDrive old o past = subst (λ (x : DriveState). KeepsDrive x o past) (sym c.self.view_is) k in
    let lent : Keeps c.deref_mut.result.now o past = subst (λ (t : Tper). Keeps t o past) (sym c.deref_mut.ensures.value) kept.tper in
    stack-reset-keeps old new o past c.args.com_id (c.reset_stack.ensures.kept o past lent) refl refl refl kept
