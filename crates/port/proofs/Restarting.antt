-- A recovery and a reset keep the port as the list of its steps leaves it.
use Rattle.std.proofs.Common.{◌≡◌, ℕ, ◌+◌, ◌<◌, Bool, true, false, List, [], ◌∷◌, ◌++◌, length, reverse, slice_index, if◌then◌else◌, Option, Some, None, refl, sym, ap, ◌∙◌, subst}
use Rattle.std.specs.Prelude.{unwrap_or}
use Rattle.audit.specs.declared.reason.AuditLine.{AuditLine}
use Rattle.audit.specs.declared.reason.Why.{Why}
use Rattle.device_data.specs.declared.log_page.Failure.{Failure}
use Rattle.fis.specs.H2d.{h2d_at}
use Rattle.fis.specs.declared.any.Fis.{Fis}
use Rattle.hba_regs.specs.Registers.{Regs}
use Rattle.drive.specs.Answers.{IsAnswer, fises_in}
use Rattle.history.specs.declared.reset.ResetKind.{ResetKind}
use Rattle.history.specs.Answers.{status_of}
use Rattle.history.specs.Events.{Event}
use Rattle.history.specs.Facts.{facts}
use Rattle.history.specs.History.{Act, Accept as AcceptFis, event, log}
use Rattle.history.specs.Opening.{Origin}
use Rattle.history.specs.Readers.{failure}
use Rattle.port_history.specs.declared.request.Answer.{Answer}
use Rattle.port_history.specs.declared.request.Answer.TheVariants as answers
use Rattle.port_history.specs.declared.stages.Stage.{Stage}
use Rattle.port_history.specs.declared.stages.Stage.TheVariants.{Free, Prepared, Issued, Accepted, Answered}
use Rattle.port_history.specs.declared.step.Step.{Step}
use Rattle.port_history.specs.declared.step.Step.TheVariants as steps
use Rattle.port_history.specs.Refusals.{refusal_with_room}
use Rattle.port_history.specs.Registers.{registers, all_shown, restarted, reset_regs}
use Rattle.port_history.specs.Requests.{log_fis}
use Rattle.port_history.specs.Stages.{recovered, stage_after_reset, is_pending}
use Rattle.history.specs.Audit.{line_for}
use Rattle.port_history.specs.Steps.{Effect, effect_by, recovered_answer, is_tag, trace, events, acts, sent_fises, stage, failed, payload, answer, audit}
use Rattle.port_history.proofs.Tests.{none_holds, tests_of}
use Rattle.port.specs.declared.outcome.Outcome.{Outcome}
use Rattle.port.specs.Agreement.{PortAgrees, IsLaidAt}
use Rattle.port.specs.Answers.{answer_in, outcome_at, outcome_after_reset, outcome_recovered}
use Rattle.port.specs.Host.{IsReceived}
use Rattle.port.specs.State.{PortState, IsRecovered, IsReset, named_in, entry_of}
use Rattle.port.proofs.Accepting.{events_are}
use Rattle.port.proofs.Agreeing.{one_entry, received_kept}
use Rattle.port.proofs.Lawful.{Recovery, recovery}
use Rattle.port.proofs.Memory.{IsSameSlot, same_received, laid_same, answer_same}

laid_recovered : (memory : List ℕ) (t : ℕ) (b : Bool) (s : Stage) (bytes : List ℕ)
    → IsLaidAt memory t s bytes → IsLaidAt memory t (recovered b s) bytes
laid_recovered memory t b Free bytes h = h
laid_recovered memory t b (Prepared put) bytes h = h
laid_recovered memory t true (Issued put) bytes h = tt
laid_recovered memory t false (Issued put) bytes h = h
laid_recovered memory t true (Accepted put) bytes h = tt
laid_recovered memory t false (Accepted put) bytes h = h
laid_recovered memory t b (Answered put) bytes h = h

-- the outcome of a tag is what the failure says, where it is the tag's
answer_recovered : (memory : List ℕ) (t : ℕ) (b : Bool) (status error : ℕ) (x : Option Outcome)
    (a : Option Answer) (fl : Failure) → status ≡ status_of (Some fl.error) → error ≡ fl.error
    → answer_in memory t x ≡ a
    → answer_in memory t (outcome_recovered b status error x)
    ≡ unwrap_or (if b then recovered_answer (Some fl) else None) a
answer_recovered memory t true status error x a fl is_status is_error e =
    ap (λ (n : ℕ). Some (answers.Failed n error)) is_status
    ∙ ap (λ (n : ℕ). Some (answers.Failed (status_of (Some fl.error)) n)) is_error
answer_recovered memory t false status error x a fl is_status is_error e = e

pub recover_agrees : (old new : PortState) (o : Origin) (list : List Step) → PortAgrees old o list
    → refusal_with_room (trace o list) steps.Recover ≡ None → IsRecovered old new
    → PortAgrees new o (steps.Recover ∷ list)
recover_agrees old new o list h lawful s =
    let ms = trace o list in
    let step = steps.Recover in
    let act : Act = AcceptFis log_fis [] in
    let e : Effect = effect_by (facts o (events ms)) act in
    let answered : IsAnswer (facts o (events ms)) (h2d_at log_fis) e.event s.answer =
    subst (λ (past : List Event). IsAnswer (facts o past) (h2d_at log_fis) (event o past act) s.answer) (sym (events_are o list))
    (s.took.answers o (acts o list) h.drive) in
    let r : Recovery o list e = recovery o list h.lawful (none_holds (tests_of ms step) lawful).1.0 in
    let named : named_in s.answer.bytes.items ≡ failed ms = ap named_in answered.bytes ∙ r.named in
    record {
      lawful = (refl, lawful, h.lawful);
      drive = s.took.drive o (acts o list) h.drive;
      slots = s.count;
      outcomes = s.count_outcomes;
      failure = s.failed;
      tags = λ t below.
          let x = h.tags t below in
          let memory : IsSameSlot old.memory new.memory t = same_received old.memory new.memory t below s.elsewhere in
          record {
            stands =
                s.slots t below ∙ ap (recovered (is_tag t (named_in s.answer.bytes.items))) x.stands
                ∙ ap (λ (f : Option ℕ). recovered (is_tag t f) (stage ms t)) named;
            answers =
                ap (answer_in new.memory t) (s.outcomes t below)
                ∙ ap (λ (f : Option ℕ). answer_in new.memory t (outcome_recovered (is_tag t f) (slice_index s.answer.bytes.items 2) (slice_index s.answer.bytes.items 3) (outcome_at old.outcomes t))) named
                ∙ answer_recovered new.memory t (is_tag t (failed ms)) (slice_index s.answer.bytes.items 2) (slice_index s.answer.bytes.items 3) (outcome_at old.outcomes t) (answer ms t) r.failure
                (ap (λ (xs : List ℕ). slice_index xs 2) answered.bytes ∙ r.status)
                (ap (λ (xs : List ℕ). slice_index xs 3) answered.bytes ∙ r.error)
                (answer_same old.memory new.memory t (outcome_at old.outcomes t) memory ∙ x.answers)
                ∙ ap (λ (f : Option Failure). unwrap_or (if is_tag t (failed ms) then recovered_answer f else None) (answer ms t)) (sym r.failing);
            laid = laid_recovered new.memory t (is_tag t (failed ms)) (stage ms t) (payload ms t) (laid_same old.memory new.memory t (stage ms t) (payload ms t) memory x.laid);
          };
      regs =
          s.regs ∙ ap (λ (g : Regs). all_shown 0 (restarted g) (fises_in s.answer)) h.regs
          ∙ ap (all_shown 0 (restarted (registers ms))) answered.fises;
      received = subst (λ (xs : List Fis). IsReceived new.memory (reverse xs ++ sent_fises ms)) answered.fises (s.received (sent_fises ms) h.received);
      history = one_entry old o list step new.history (entry_of step) h s.history refl;
      log =
          s.audit ∙ h.log
          ∙ sym (ap (λ (why : Option Why). reverse (line_for (1 + length ms) 0 why ++ audit ms)) r.denied);
      rule = s.rule ∙ h.rule;
    }

laid_reset : (memory : List ℕ) (t : ℕ) (s : Stage) (bytes : List ℕ)
    → IsLaidAt memory t (stage_after_reset s) bytes
laid_reset memory t Free bytes = tt
laid_reset memory t (Prepared put) bytes = tt
laid_reset memory t (Issued put) bytes = tt
laid_reset memory t (Accepted put) bytes = tt
laid_reset memory t (Answered put) bytes = tt

reset_answer : (memory : List ℕ) (t : ℕ) (b : Bool) (outcome : Option Outcome) (a : Option Answer)
    → answer_in memory t outcome ≡ a
    → answer_in memory t (outcome_after_reset b outcome)
    ≡ unwrap_or (if b then Some (Some answers.Reset) else None) a
reset_answer memory t true outcome a e = refl
reset_answer memory t false outcome a e = e

pub reset_agrees : (old new : PortState) (o : Origin) (list : List Step) (client : ℕ) (kind : ResetKind)
    → PortAgrees old o list → refusal_with_room (trace o list) (steps.Reset client kind) ≡ None
    → IsReset old new client kind → PortAgrees new o (steps.Reset client kind ∷ list)
reset_agrees old new o list client kind h lawful s =
    let ms = trace o list in
    let step = steps.Reset client kind in
    record {
      lawful = (refl, lawful, h.lawful);
      drive = s.drive o (acts o list) h.drive;
      slots = s.count;
      outcomes = s.count_outcomes;
      failure = s.failed;
      tags = λ t below.
          let x = h.tags t below in
          record {
            stands = s.slots t below ∙ ap stage_after_reset x.stands;
            answers =
                ap (λ (m : List ℕ). answer_in m t (outcome_at new.outcomes t)) s.memory
                ∙ ap (answer_in old.memory t) (s.outcomes t below ∙ ap (λ (z : Stage). outcome_after_reset (is_pending z) (outcome_at old.outcomes t)) x.stands)
                ∙ reset_answer old.memory t (is_pending (stage ms t)) (outcome_at old.outcomes t) (answer ms t) x.answers;
            laid = laid_reset new.memory t (stage ms t) (payload ms t);
          };
      regs = s.regs ∙ ap reset_regs h.regs;
      received = received_kept old.memory new.memory (sent_fises ms) s.memory h.received;
      history = one_entry old o list step new.history (entry_of step) h s.history refl;
      log = s.audit ∙ h.log;
      rule = s.rule ∙ h.rule;
    }
