use Rattle.std.proofs.Common.{◌≡◌, ℕ, if◌then◌else◌, sym, subst, refl}
use Rattle.shadow_mbr.specs.Stored.{StoredSectors, sector_at, zeros}
use Rattle.shadow_mbr.specs.Erasure.{is_erased}
use Rattle.history.specs.History.{log}
use Rattle.tper.specs.Tper.{Tper, Keeps}
use Rattle.drive.specs.State.{DriveState, KeepsDrive}
use Rattle.drive.proofs.Acting.{send-keeps}
use Rattle.drive.proofs.drive.Drive.send.Goals as goal

pub returns-clause-kept : goal.returns-clause-kept
returns-clause-kept c = λ o acts k.
    let inside = c.self.inside in
    let old : DriveState = record { tper = inside.tper.value; queue = inside.queue.value; media = inside.media.value; settings = inside.settings } in
    let new : DriveState = record { tper = c.send.new.self; queue = inside.queue.value; media = c.erase.new.self; settings = inside.settings } in
    let kept : KeepsDrive old o (log o acts) = subst (λ (x : DriveState). KeepsDrive x o (log o acts)) (sym c.self.view_is) k in
    let lent : Keeps c.deref_mut.result.now o (log o acts) = subst (λ (t : Tper). Keeps t o (log o acts)) (sym c.deref_mut.ensures.value) kept.tper in
    let erased : (x : ℕ) → sector_at c.erase.new.self x ≡ if is_erased c.in_ok-sent.sent.erases x then zeros else sector_at c.self.inside.media.value x =
    subst (λ (m : StoredSectors). (x : ℕ) → sector_at c.erase.new.self x ≡ if is_erased c.in_ok-sent.sent.erases x then zeros else sector_at m x)
    c.deref_mut-2.ensures.value c.erase.ensures.sectors in
    send-keeps old new o acts c.args.com_id c.args.payload.now c.in_ok-sent.sent
    (c.in_ok-sent.ensures.kept o acts lent) (c.in_ok-sent.ensures.answer o acts lent) refl refl erased kept
