use Rattle.std.proofs.Common.{◌≡◌, ◌∙◌, ℕ, List, ap, subst}
use Rattle.std.specs.Prelude.{unwrap_or}
use Rattle.shadow_mbr.specs.Stored.{sector_at}
use Rattle.device_data.specs.Settings.{active}
use Rattle.trusted_cmds.specs.declared.trim.Extent.{Extent}
use Rattle.trusted_cmds.specs.Trims.{extents_in}
use Rattle.history.specs.Readers.{trimming}
use Rattle.history.specs.History.{log}
use Rattle.drive.specs.State.{DriveState}
use Rattle.drive.specs.Trims.{trim_refusal, refusal_told}
use Rattle.drive.proofs.Trims.{trim-refused, trim-done}
use Rattle.drive.proofs.drive.Drive.trim.Goals as goal

pub returns-in-Some-clause-done : goal.returns-in-Some-clause-done
returns-in-Some-clause-done c = λ o acts k.
    let e = c.set_failed.ensures in
    let told : refusal_told c.trim_refusal.result ≡ trim_refusal c.args.self.now (extents_in c.args.payload.now) =
    c.trim_refusal.ensures ∙ ap (trim_refusal c.args.self.now) (c.deref.ensures.value ∙ c.in_ok-extents.ensures) in
    trim-refused c.args.h.now c.args.self.now o (log o acts) c.args.payload.now c.args.blocks c.trim_refusal.result c.in-Some.refusal c.set_failed.new.self told c.in-Some.is
    (record { status_is = e.status; error_is = e.error; held_is = e.held; fises_are = e.fises; bytes_are = e.bytes; denied_is = e.denied ∙ c.objection_to.ensures.denied; rule_is = e.rule ∙ c.objection_to.ensures.rule }) k

pub returns-clause-done : goal.returns-clause-done
returns-clause-done c = λ o acts k.
    let e = c.set_done.ensures in
    let w = c.in_ok-wipe.ensures in
    let a = c.wake.ensures in
    let told : refusal_told c.trim_refusal.result ≡ trim_refusal c.args.self.now (extents_in c.args.payload.now) =
    c.trim_refusal.ensures ∙ ap (trim_refusal c.args.self.now) (c.deref.ensures.value ∙ c.in_ok-extents.ensures) in
    let media : (s : ℕ) → sector_at c.wipe.new.self.media s ≡ unwrap_or (trimming s (extents_in c.args.payload.now)) (sector_at c.args.self.now.media s) =
    subst (λ (extents : List Extent). (s : ℕ) → sector_at c.wipe.new.self.media s ≡ unwrap_or (trimming s extents) (sector_at c.args.self.now.media s))
    (c.deref-2.ensures.value ∙ c.in_ok-extents.ensures) w.media in
    trim-done c.args.h.now c.args.self.now c.wake.new.self o (log o acts) c.args.payload.now c.args.blocks c.trim_refusal.result c.set_done.new.self told c.in_default.is
    c.requires (ap (λ (x : DriveState). x.tper) a ∙ w.tper) (ap (λ (x : DriveState). x.queue) a ∙ w.queue)
    (ap (λ (x : DriveState). x.settings) a ∙ ap active w.settings) (λ s. ap (λ (x : DriveState). sector_at x.media s) a ∙ media s)
    (record { status_is = e.status; error_is = e.error; held_is = e.held; fises_are = e.fises ∙ c.served_form.ensures; bytes_are = e.bytes; denied_is = e.denied; rule_is = e.rule }) k
