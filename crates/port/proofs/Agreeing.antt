-- Each step keeps the port as the list of its steps leaves it: Put, Issue and Take.
use Rattle.std.proofs.Common.{◌≡◌, ℕ, ◌+◌, ◌<◌, ◌==◌, Bool, true, not, nat_lt, List, [], ◌∷◌, ◌++◌, length, reverse, slice_set, if◌then◌else◌, Option, Some, None, refl, sym, ap, ◌∙◌, arith, subst, inl, inr, eq-eqb}
use Rattle.std.specs.Prelude.{is_some, unwrap_or}
use Rattle.std.proofs.lemmas.Bool.{cases_eq, ne_eqb, lt-ltb, ltb-true}
use Rattle.std.proofs.lemmas.List.{reverse-append, length-reverse, length-set}
use Rattle.fis.specs.declared.any.Fis.{Fis}
use Rattle.hba_regs.specs.Registers.{Regs}
use Rattle.history.specs.Decisions.{any_below}
use Rattle.history.specs.Opening.{Origin}
use Rattle.drive.specs.State.{Agrees as DriveAgrees, DriveState}
use Rattle.port_history.specs.declared.error.PortError.{PortError}
use Rattle.port_history.specs.declared.request.Answer.{Answer}
use Rattle.port_history.specs.declared.request.Request.{Request}
use Rattle.port_history.specs.declared.stages.Put.{Put}
use Rattle.port_history.specs.declared.stages.Stage.{Stage}
use Rattle.port_history.specs.declared.stages.Stage.TheVariants.{Free, Prepared, Issued, Answered}
use Rattle.port_history.specs.declared.step.Entry.{Entry}
use Rattle.port_history.specs.declared.step.Step.{Step}
use Rattle.port_history.specs.declared.step.Step.TheVariants as steps
use Rattle.port_history.specs.Requests.{no_bytes}
use Rattle.port_history.specs.Stages.{is_queued_command, is_queued_put, to, put_at, is_out, keeps_back, mixes_put}
use Rattle.port_history.specs.Steps.{Moment, moment, trace, acts, sent_fises, stage, failed, put_of, payload, answer, entry, entries}
use Rattle.port_history.specs.Refusals.{most_steps, refusal, refusal_by, refusal_with_room, has_slot}
use Rattle.port_history.specs.Registers.{registers, with_issue}
use Rattle.port_history.proofs.Tests.{none_holds, free_is, tests_of}
use Rattle.port.specs.declared.outcome.Outcome.{Outcome}
use Rattle.port.specs.Agreement.{PortAgrees, TagStands, TagAgrees, IsLaidAt}
use Rattle.port.specs.Answers.{answer_in, outcome_at, stage_at, taken}
use Rattle.port.specs.Host.{IsReceived}
use Rattle.port.specs.State.{PortState, IsFresh, IsPut, IsIssued, IsTaken, entry_of, is_history_full, refusal_on}
use Rattle.port.proofs.Memory.{IsSameSlot, same_refl, same_but_slot, laid_same, answer_same, received_same, received_but_slot}
use Rattle.port.proofs.Slots.{stage_set, outcome_set}
use Rattle.port.proofs.Tests.{any_below-agree}

-- lengths
pub length_trace : (o : Origin) (list : List Step) → length (trace o list) ≡ length list
length_trace o [] = refl
length_trace o (step ∷ before) = omega (arith, length_trace o before)

pub length_entries : (o : Origin) (list : List Step) → length (entries o list) ≡ length list
length_entries o [] = refl
length_entries o (step ∷ before) = omega (arith, length_entries o before)

pub count_is : (port : PortState) (o : Origin) (list : List Step) → PortAgrees port o list → length port.history ≡ length (trace o list)
count_is port o list h = ap length h.history ∙ length-reverse (entries o list) ∙ length_entries o list ∙ sym (length_trace o list)

-- a history and a log of one more
pub one_entry : (port : PortState) (o : Origin) (list : List Step) (step : Step) (now : List Entry) (e : Entry) → PortAgrees port o list → now ≡ port.history ++ e ∷ [] → e ≡ entry (trace o list) step → now ≡ reverse (entries o (step ∷ list))
one_entry port o list step now e h is same =
    is ∙ ap (λ (x : Entry). port.history ++ x ∷ []) same ∙ ap (λ (xs : List Entry). xs ++ entry (trace o list) step ∷ []) h.history ∙ sym (reverse-append (entry (trace o list) step ∷ []) (entries o list))

-- refusals
mixes_agree : (p q : ℕ → Stage) (x : Option Put) → ((t : ℕ) → t < 32 → p t ≡ q t) → mixes_put p x ≡ mixes_put q x
mixes_agree p q None same = refl
mixes_agree p q (Some put) same =
    ap (λ (b : Bool). if is_queued_command put.command then b else any_below (λ t. is_out (p t)) 32) (any_below-agree (λ t. keeps_back put.number (p t)) (λ t. keeps_back put.number (q t)) 32 (λ t lt. ap (keeps_back put.number) (same t lt)))
    ∙ ap (λ (b : Bool). if is_queued_command put.command then any_below (λ t. keeps_back put.number (q t)) 32 else b) (any_below-agree (λ t. is_out (p t)) (λ t. is_out (q t)) 32 (λ t lt. ap is_out (same t lt)))

pub refusal_agree : (full full' failure failure' : Bool) (p q : ℕ → Stage) (step : Step) → full ≡ full' → failure ≡ failure' → ((t : ℕ) → t < 32 → p t ≡ q t) → has_slot step ≡ true → refusal_by full failure p step ≡ refusal_by full' failure' q step
refusal_agree full full' failure failure' p q (steps.Put client t request) e f same lt = rw (e, same t (ltb-true t 32 lt)) refl
refusal_agree full full' failure failure' p q (steps.Issue t) e f same lt = rw (e, f, mixes_agree p q (put_at (p t)) same, same t (ltb-true t 32 lt)) refl
refusal_agree full full' failure failure' p q (steps.Accept t) e f same lt = rw (e, f, same t (ltb-true t 32 lt)) refl
refusal_agree full full' failure failure' p q (steps.Complete t) e f same lt = rw (e, f, same t (ltb-true t 32 lt)) refl
refusal_agree full full' failure failure' p q steps.Recover e f same lt = rw (e, f) refl
refusal_agree full full' failure failure' p q (steps.Reset client kind) e f same lt = rw e refl
refusal_agree full full' failure failure' p q (steps.Take client t) e f same lt = rw (e, same t (ltb-true t 32 lt)) refl

pub same_refusal : (port : PortState) (o : Origin) (list : List Step) (step : Step)
    → PortAgrees port o list → has_slot step ≡ true
    → refusal_on port step ≡ refusal (trace o list) step
same_refusal port o list step h lt =
    refusal_agree (is_history_full port) (not (nat_lt (length (trace o list)) most_steps)) (is_some port.failed)
    (is_some (failed (trace o list))) (stage_at port.slots) (stage (trace o list)) step
    (ap (λ (n : ℕ). not (nat_lt n most_steps)) (count_is port o list h)) (ap is_some h.failure)
    (λ t below. (h.tags t below).stands) lt

-- a tag that a step leaves alone
pub tag_same : {old new : List ℕ} {t : ℕ} {now now' : Stage} {outcome outcome' : Option Outcome}
    {s s' : Stage} {a a' : Option Answer} {bytes bytes' : List ℕ}
    → IsSameSlot old new t → now' ≡ now → outcome' ≡ outcome → s' ≡ s → a' ≡ a → bytes' ≡ bytes
    → TagStands t old now outcome s a bytes → TagStands t new now' outcome' s' a' bytes'
tag_same {old} {new} {t} {now} {now'} {outcome} {outcome'} {s} {s'} {a} {a'} {bytes} {bytes'} memory en eo es eans eb k = record {
  stands = en ∙ k.stands ∙ sym es;
  answers = ap (answer_in new t) eo ∙ answer_same old new t outcome memory ∙ k.answers ∙ sym eans;
  laid = rw (es, eb) (laid_same old new t s bytes memory k.laid);
}

pub itself : (t : ℕ) → (t == t) ≡ true
itself t = eq-eqb t t refl

pub stage_here : (slots now : List Stage) (tag : ℕ) (x : Stage) → tag < length slots
    → now ≡ slice_set slots tag x → stage_at now tag ≡ x
stage_here slots now tag x lt e =
    ap (λ (l : List Stage). stage_at l tag) e ∙ stage_set slots tag tag x lt
    ∙ ap (λ (b : Bool). if b then x else stage_at slots tag) (itself tag)

pub stage_there : (slots now : List Stage) (tag t : ℕ) (x : Stage) → tag < length slots
    → (tag ≡ t → ⊥) → now ≡ slice_set slots tag x → stage_at now t ≡ stage_at slots t
stage_there slots now tag t x lt other e =
    ap (λ (l : List Stage). stage_at l t) e ∙ stage_set slots tag t x lt
    ∙ ap (λ (b : Bool). if b then x else stage_at slots t) (ne_eqb tag t other)

pub outcome_here : (outcomes now : List (Option Outcome)) (tag : ℕ) (x : Option Outcome)
    → tag < length outcomes → now ≡ slice_set outcomes tag x → outcome_at now tag ≡ x
outcome_here outcomes now tag x lt e =
    ap (λ (l : List (Option Outcome)). outcome_at l tag) e ∙ outcome_set outcomes tag tag x lt
    ∙ ap (λ (b : Bool). if b then x else outcome_at outcomes tag) (itself tag)

pub outcome_there : (outcomes now : List (Option Outcome)) (tag t : ℕ) (x : Option Outcome)
    → tag < length outcomes → (tag ≡ t → ⊥) → now ≡ slice_set outcomes tag x
    → outcome_at now t ≡ outcome_at outcomes t
outcome_there outcomes now tag t x lt other e =
    ap (λ (l : List (Option Outcome)). outcome_at l t) e ∙ outcome_set outcomes tag t x lt
    ∙ ap (λ (b : Bool). if b then x else outcome_at outcomes t) (ne_eqb tag t other)

pub same_memory : (old new : List ℕ) (t : ℕ) → new ≡ old → IsSameSlot old new t
same_memory old new t e = subst (λ (m : List ℕ). IsSameSlot old m t) (sym e) (same_refl old t)

pub received_kept : (old new : List ℕ) (sent_fises : List Fis) → new ≡ old → IsReceived old sent_fises
    → IsReceived new sent_fises
received_kept old new sent_fises e h = subst (λ (m : List ℕ). IsReceived m sent_fises) (sym e) h

-- Put
put_tag : (old new : PortState) (o : Origin) (list : List Step) (client tag : ℕ) (request : Request)
    → tag < 32 → PortAgrees old o list → IsPut old new client tag request
    → stage (trace o list) tag ≡ Free
    → TagAgrees new (moment o (trace o list) (steps.Put client tag request) ∷ trace o list) tag
put_tag old new o list client tag request lt h s free =
    rw (itself tag) (record {
      stands =
          stage_here old.slots new.slots tag _ (omega (arith, h.slots, lt)) s.slots
          ∙ ap (λ (n : ℕ). Prepared (put_of (1 + n) client request)) (count_is old o list h);
      answers = ap (answer_in new.memory tag) (outcome_here old.outcomes new.outcomes tag None (omega (arith, h.outcomes, lt)) s.outcomes);
      laid = s.laid;
    })

pub put_agrees : (old new : PortState) (o : Origin) (list : List Step) (client tag : ℕ)
    (request : Request) → tag < 32 → PortAgrees old o list
    → IsPut old new client tag request → refusal_with_room (trace o list) (steps.Put client tag request) ≡ None
    → PortAgrees new o (steps.Put client tag request ∷ list)
put_agrees old new o list client tag request lt h s lawful =
    let ms = trace o list in
    let step = steps.Put client tag request in
    let t0 = none_holds (tests_of ms step) lawful in
    let free : stage ms tag ≡ Free = free_is (stage ms tag) t0.1.1.0 in
    record {
      lawful = (lt-ltb tag 32 lt, lawful, h.lawful);
      drive = subst (λ (d : DriveState). DriveAgrees d o (acts o list)) (sym s.drive) h.drive;
      slots = ap length s.slots ∙ length-set old.slots tag _ ∙ h.slots;
      outcomes = ap length s.outcomes ∙ length-set old.outcomes tag None ∙ h.outcomes;
      failure = s.failed ∙ h.failure;
      tags = λ t below. elim (cases_eq tag t) [
        | inl same ↦ subst (λ (x : ℕ). TagAgrees new (moment o ms step ∷ ms) x) same (put_tag old new o list client tag request lt h s free)
        | inr other ↦ rw (ne_eqb tag t other) (tag_same (same_but_slot old.memory new.memory tag t lt below (λ e. other (sym e)) s.elsewhere)
            (stage_there old.slots new.slots tag t _ (omega (arith, h.slots, lt)) other s.slots)
            (outcome_there old.outcomes new.outcomes tag t None (omega (arith, h.outcomes, lt)) other s.outcomes)
            refl refl refl (h.tags t below))
      ];
      regs = s.regs ∙ h.regs;
      received = received_same old.memory new.memory (sent_fises ms) (received_but_slot old.memory new.memory tag lt s.elsewhere) h.received;
      history = one_entry old o list step new.history (entry_of step) h s.history refl;
      log = s.audit ∙ h.log;
      rule = s.rule ∙ h.rule;
    }

-- Issue
issue_tag : (old new : PortState) (o : Origin) (list : List Step) (tag : ℕ) → tag < 32
    → PortAgrees old o list → IsIssued old new tag
    → TagAgrees new (moment o (trace o list) (steps.Issue tag) ∷ trace o list) tag
issue_tag old new o list tag lt h s =
    let ms = trace o list in
    let k = h.tags tag lt in
    let was : stage ms tag ≡ Prepared s.put = sym k.stands ∙ s.was in
    let now : to Issued (stage ms tag) ≡ Issued s.put = ap (to Issued) was in
    rw (itself tag) (record {
      stands = stage_here old.slots new.slots tag (Issued s.put) (omega (arith, h.slots, lt)) s.slots ∙ sym now;
      answers =
          ap (λ (m : List ℕ). answer_in m tag (outcome_at new.outcomes tag)) s.memory
          ∙ ap (λ (l : List (Option Outcome)). answer_in old.memory tag (outcome_at l tag)) s.outcomes ∙ k.answers;
      laid = subst (λ (x : Stage). IsLaidAt new.memory tag x (payload ms tag)) (sym now)
          (subst (λ (m : List ℕ). IsLaidAt m tag (Issued s.put) (payload ms tag)) (sym s.memory)
          (subst (λ (x : Stage). IsLaidAt old.memory tag x (payload ms tag)) was k.laid));
    })

pub issue_agrees : (old new : PortState) (o : Origin) (list : List Step) (tag : ℕ) → tag < 32
    → PortAgrees old o list → refusal_with_room (trace o list) (steps.Issue tag) ≡ None
    → IsIssued old new tag → PortAgrees new o (steps.Issue tag ∷ list)
issue_agrees old new o list tag lt h lawful s =
    let ms = trace o list in
    let step = steps.Issue tag in
    let was : stage ms tag ≡ Prepared s.put = sym (h.tags tag lt).stands ∙ s.was in
    record {
      lawful = (lt-ltb tag 32 lt, lawful, h.lawful);
      drive = subst (λ (d : DriveState). DriveAgrees d o (acts o list)) (sym s.drive) h.drive;
      slots = ap length s.slots ∙ length-set old.slots tag _ ∙ h.slots;
      outcomes = ap length s.outcomes ∙ h.outcomes;
      failure = s.failed ∙ h.failure;
      tags = λ t below. elim (cases_eq tag t) [
        | inl same ↦ subst (λ (x : ℕ). TagAgrees new (moment o ms step ∷ ms) x) same (issue_tag old new o list tag lt h s)
        | inr other ↦ rw (ne_eqb tag t other) (tag_same (same_memory old.memory new.memory t s.memory)
            (stage_there old.slots new.slots tag t _ (omega (arith, h.slots, lt)) other s.slots)
            (ap (λ (l : List (Option Outcome)). outcome_at l t) s.outcomes)
            refl refl refl (h.tags t below))
      ];
      regs =
          s.regs ∙ ap (λ (r : Regs). with_issue tag (is_queued_command s.put.command) r) h.regs
          ∙ sym (ap (λ (x : Stage). with_issue tag (is_queued_put (put_at x)) (registers ms)) was);
      received = received_kept old.memory new.memory (sent_fises ms) s.memory h.received;
      history = one_entry old o list step new.history (entry_of step) h s.history refl;
      log = s.audit ∙ h.log;
      rule = s.rule ∙ h.rule;
    }

-- Take
taken_is : (memory : List ℕ) (tag : ℕ) (outcome : Option Outcome)
    → taken memory tag outcome ≡ unwrap_or (answer_in memory tag outcome) no_bytes
taken_is memory tag None = refl
taken_is memory tag (Some outcome) = refl

pub taken_answer : (port : PortState) (o : Origin) (list : List Step) (tag : ℕ) → tag < 32
    → PortAgrees port o list
    → taken port.memory tag (outcome_at port.outcomes tag)
    ≡ unwrap_or (answer (trace o list) tag) no_bytes
taken_answer port o list tag lt h =
    taken_is port.memory tag (outcome_at port.outcomes tag)
    ∙ ap (λ (a : Option Answer). unwrap_or a no_bytes) (h.tags tag lt).answers

take_tag : (old new : PortState) (o : Origin) (list : List Step) (client tag : ℕ) → tag < 32
    → PortAgrees old o list → IsTaken old new client tag
    → TagAgrees new (moment o (trace o list) (steps.Take client tag) ∷ trace o list) tag
take_tag old new o list client tag lt h s =
    rw (itself tag) (record {
      stands = stage_here old.slots new.slots tag Free (omega (arith, h.slots, lt)) s.slots;
      answers = ap (answer_in new.memory tag) (outcome_here old.outcomes new.outcomes tag None (omega (arith, h.outcomes, lt)) s.outcomes);
      laid = tt;
    })

pub take_agrees : (old new : PortState) (o : Origin) (list : List Step) (client tag : ℕ) → tag < 32
    → PortAgrees old o list → refusal_with_room (trace o list) (steps.Take client tag) ≡ None
    → IsTaken old new client tag → PortAgrees new o (steps.Take client tag ∷ list)
take_agrees old new o list client tag lt h lawful s =
    let ms = trace o list in
    let step = steps.Take client tag in
    record {
      lawful = (lt-ltb tag 32 lt, lawful, h.lawful);
      drive = subst (λ (d : DriveState). DriveAgrees d o (acts o list)) (sym s.drive) h.drive;
      slots = ap length s.slots ∙ length-set old.slots tag _ ∙ h.slots;
      outcomes = ap length s.outcomes ∙ length-set old.outcomes tag None ∙ h.outcomes;
      failure = s.failed ∙ h.failure;
      tags = λ t below. elim (cases_eq tag t) [
        | inl same ↦ subst (λ (x : ℕ). TagAgrees new (moment o ms step ∷ ms) x) same (take_tag old new o list client tag lt h s)
        | inr other ↦ rw (ne_eqb tag t other) (tag_same (same_memory old.memory new.memory t s.memory)
            (stage_there old.slots new.slots tag t _ (omega (arith, h.slots, lt)) other s.slots)
            (outcome_there old.outcomes new.outcomes tag t None (omega (arith, h.outcomes, lt)) other s.outcomes)
            refl refl refl (h.tags t below))
      ];
      regs = s.regs ∙ h.regs;
      received = received_kept old.memory new.memory (sent_fises ms) s.memory h.received;
      history = one_entry old o list step new.history _ h s.history (ap (λ (a : Answer). record { step = step; reply = a }) (taken_answer old o list tag lt h));
      log = s.audit ∙ h.log;
      rule = s.rule ∙ h.rule;
    }

-- A port that did nothing.
pub fresh_agrees : (port : PortState) (drive : DriveState) (o : Origin) → IsFresh port drive
    → DriveAgrees drive o [] → PortAgrees port o []
fresh_agrees port drive o f h = record {
  lawful = tt;
  drive = subst (λ (d : DriveState). DriveAgrees d o []) (sym f.its_drive) h;
  slots = f.slots;
  outcomes = f.kept_outcomes;
  failure = f.failed;
  tags = λ t below. record {
    stands = f.stages t;
    answers = ap (answer_in port.memory t) (f.outcomes t);
    laid = tt;
  };
  regs = f.regs;
  received = λ fis e. absurd cc;
  history = f.history;
  log = f.audit;
  rule = f.rule;
}
