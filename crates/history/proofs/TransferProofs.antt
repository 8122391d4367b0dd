-- The verdict by sectors, and what it makes of transfers.
use Rattle.std.proofs.Common.{◌≡◌, ℕ, zero, suc, ◌+◌, true, false, List, Option, Some, None, refl, sym, subst, ◌∙◌, ap, cond, inl, inr, arith}
use Rattle.std.specs.Prelude.{is_some}
use Rattle.fis.specs.H2d.{h2d_at}
use Rattle.fis.specs.declared.h2d.RegH2d.{RegH2d}
use Rattle.locking.specs.Range.{RangeRows}
use Rattle.locking.specs.Verdict.{AreShadowed, IsVerdict, verdict_of}
use Rattle.locking.specs.declared.range.Op.{Op}
use Rattle.locking.specs.declared.range.Op.TheVariants.{Read, Write}
use Rattle.locking.specs.declared.ranges.Verdict.{Verdict}
use Rattle.locking.specs.declared.ranges.Verdict.TheVariants.{Serve, Shadow, Denied}
use Rattle.locking.proofs.Verdicts.{permitted_is_served, is_verdict_of, verdict_is}
use Rattle.audit.specs.declared.reason.Why.{Why}
use Rattle.trusted_cmds.specs.declared.command.Command.{Command}
use Rattle.trusted_cmds.specs.declared.command.Command.TheVariants.{ReadQueued, WriteQueued}
use Rattle.history.specs.Events.{Deed, Wrote, Event}
use Rattle.history.specs.Items.{Items}
use Rattle.history.specs.Facts.{Facts}
use Rattle.history.specs.Decisions.{not_found, aborted, fails, fails_queue, on_drive, ranges_in_force, verdict_on, queued_by, admitted, unqueued_by, was_read}
use Rattle.history.specs.History.{event_in}
use Rattle.history.specs.DenialLaws.{Reaches, read_queued, write_queued, read_dma, write_dma, read_pio, write_pio, verify, IsFree}
use Rattle.history.specs.TransferLaws.{is_denied, IsPermitted, IsReason, VerdictLaw, ServiceLaw}
use Rattle.history.proofs.MethodProofs.{looked_event, looked_law}
use Rattle.audit.specs.declared.rules.rule.Rule.TheVariants.{BeyondDrive}

clash : true ≡ false → ⊥
clash h = cc

-- a verdict that is no denial permits, and the other way round
permitted-by : (ranges : RangeRows) (op : Op) (lba count : ℕ) (v : Verdict) → IsVerdict ranges op lba count v → is_denied v ≡ false → IsPermitted ranges op lba count
permitted-by ranges op lba count Serve is h = inl is
permitted-by ranges op lba count Shadow is h = inr is
permitted-by ranges op lba count (Denied why) is h = absurd (clash h)

shadow-served : (ranges : RangeRows) (op : Op) (lba count : ℕ) → op ≡ Read → AreShadowed ranges lba (lba + count) → is_denied (verdict_of ranges op lba count) ≡ false
shadow-served ranges op lba zero r shadowed =
    ap is_denied (permitted_is_served ranges op lba zero (λ s from below. absurd (omega (arith, from, below))) (λ s from below. absurd (omega (arith, from, below))))
shadow-served ranges op lba (suc n) r shadowed =
    ap is_denied (sym (is_verdict_of ranges op lba (suc n) Shadow (omega arith) (r, shadowed)))

served-if : (ranges : RangeRows) (op : Op) (lba count : ℕ) → IsPermitted ranges op lba count → is_denied (verdict_of ranges op lba count) ≡ false
served-if ranges op lba count (inl h) = ap is_denied (permitted_is_served ranges op lba count h.0 h.1)
served-if ranges op lba count (inr h) = shadow-served ranges op lba count h.0 h.1

has-reason : (ranges : RangeRows) (op : Op) (lba count : ℕ) (why : Why) → verdict_of ranges op lba count ≡ Denied why → IsReason ranges op lba count why
has-reason ranges op lba count why e =
    let is : IsVerdict ranges op lba count (Denied why) = subst (IsVerdict ranges op lba count) e (verdict_is ranges op lba count) in
    elim is [
      | inl h ↦ inl (record { sector = h.0.sector; from = h.0.from; below = h.0.below; shadowed = h.0.shadowed; names = h.1 })
      | inr h ↦ inr (record { opened = h.0; sector = h.1.0; least = h.1.1; names = h.1.2 })
    ]

pub verdict_law : VerdictLaw
verdict_law ranges op lba count = record {
  served = ((λ h. permitted-by ranges op lba count (verdict_of ranges op lba count) (verdict_is ranges op lba count) h), (λ h. served-if ranges op lba count h));
  reason = λ why h. has-reason ranges op lba count why h;
}

-- what a transfer that comes to the policy is answered
abbrev failed_by : Verdict → Option ℕ
failed_by Serve = None
failed_by Shadow = None
failed_by (Denied why) = Some aborted

queued-failed : (h : RegH2d) (tag : ℕ) (c : Command) (v : Verdict) → (queued_by h tag c v).failed ≡ failed_by v
queued-failed h tag c Serve = refl
queued-failed h tag c Shadow = refl
queued-failed h tag c (Denied why) = refl

unqueued-failed : (d : Deed) (v : Verdict) → (unqueued_by d v).failed ≡ failed_by v
unqueued-failed d Serve = refl
unqueued-failed d Shadow = refl
unqueued-failed d (Denied why) = refl

answered : (items : Items) (f : Facts) (h : RegH2d) (payload : List ℕ) (command : Command) (tag : Option ℕ) (op : Op) (lba count : ℕ) → Reaches command tag op lba count → IsFree f tag → on_drive f lba count ≡ true → (looked_event items f h payload command tag).failed ≡ failed_by (verdict_on f op lba count)
answered items f h payload c tag op lba count (read_queued {lba = l} {count = n} {tag = t}) free drive =
    ap (λ x. (admitted f h t (ReadQueued l n) (is_some x)).failed) free
    ∙ ap (λ b. (cond b (queued_by h t (ReadQueued l n) (verdict_on f Read l n)) (fails_queue (Some t) not_found h None (Some BeyondDrive))).failed) drive
    ∙ queued-failed h t (ReadQueued l n) (verdict_on f Read l n)
answered items f h payload c tag op lba count (write_queued {lba = l} {count = n} {tag = t}) free drive =
    ap (λ x. (admitted f h t (WriteQueued l n) (is_some x)).failed) free
    ∙ ap (λ b. (cond b (queued_by h t (WriteQueued l n) (verdict_on f Write l n)) (fails_queue (Some t) not_found h None (Some BeyondDrive))).failed) drive
    ∙ queued-failed h t (WriteQueued l n) (verdict_on f Write l n)
answered items f h payload c tag op lba count (read_dma {lba = l} {count = n}) free drive =
    ap (λ b. (cond b (unqueued_by was_read (verdict_on f Read l n)) (fails not_found None (Some BeyondDrive))).failed) drive ∙ unqueued-failed was_read (verdict_on f Read l n)
answered items f h payload c tag op lba count (write_dma {lba = l} {count = n}) free drive =
    ap (λ b. (cond b (unqueued_by (Wrote l payload) (verdict_on f Write l n)) (fails not_found None (Some BeyondDrive))).failed) drive ∙ unqueued-failed (Wrote l payload) (verdict_on f Write l n)
answered items f h payload c tag op lba count (read_pio {lba = l} {count = n}) free drive =
    ap (λ b. (cond b (unqueued_by was_read (verdict_on f Read l n)) (fails not_found None (Some BeyondDrive))).failed) drive ∙ unqueued-failed was_read (verdict_on f Read l n)
answered items f h payload c tag op lba count (write_pio {lba = l} {count = n}) free drive =
    ap (λ b. (cond b (unqueued_by (Wrote l payload) (verdict_on f Write l n)) (fails not_found None (Some BeyondDrive))).failed) drive ∙ unqueued-failed (Wrote l payload) (verdict_on f Write l n)
answered items f h payload c tag op lba count (verify {lba = l} {count = n}) free drive =
    ap (λ b. (cond b (unqueued_by was_read (verdict_on f Read l n)) (fails not_found None (Some BeyondDrive))).failed) drive ∙ unqueued-failed was_read (verdict_on f Read l n)

failed-none : (v : Verdict) → failed_by v ≡ None → is_denied v ≡ false
failed-none Serve h = refl
failed-none Shadow h = refl
failed-none (Denied why) h = absurd (some h)
  where
    some : {x : ℕ} → Some x ≡ None → ⊥
    some g = cc

none-failed : (v : Verdict) → is_denied v ≡ false → failed_by v ≡ None
none-failed Serve h = refl
none-failed Shadow h = refl
none-failed (Denied why) h = absurd (clash h)

failed-some : (v : Verdict) → (is_denied v ≡ false → ⊥) → failed_by v ≡ Some aborted
failed-some Serve h = absurd (h refl)
failed-some Shadow h = absurd (h refl)
failed-some (Denied why) h = refl

pub service_law : ServiceLaw
service_law items f act command tag op lba count looked moves free drive =
    let same : (event_in items f act).failed ≡ failed_by (verdict_on f op lba count) = ap (λ (e : Event). e.failed) (looked_law items f act command tag looked) ∙ answered items f (h2d_at looked.fis) looked.payload command tag op lba count moves free drive in
    let law = (verdict_law (ranges_in_force f) op lba count).served in
    record {
      served = ((λ h. law.0 (failed-none (verdict_on f op lba count) (sym same ∙ h))), (λ h. same ∙ none-failed (verdict_on f op lba count) (law.1 h)));
      denied = λ h. same ∙ failed-some (verdict_on f op lba count) (λ g. h (law.0 g));
    }
