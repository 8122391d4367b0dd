-- An acceptance keeps the port as the list of its steps leaves it.
use Rattle.std.proofs.Common.{◌≡◌, ℕ, ◌+◌, ◌≤◌, ◌<◌, ◌==◌, Bool, true, false, not, ◌&&◌, List, [], ◌∷◌, ◌++◌, length, reverse, if◌then◌else◌, Option, Some, None, Result, Ok, refl, sym, ap, ◌∙◌, arith, subst, inl, inr}
use Rattle.std.specs.Prelude.{is_some, option_map, unwrap_or}
use Rattle.std.proofs.lemmas.Bool.{cases_eq, ne_eqb, lt-ltb}
use Rattle.std.proofs.lemmas.List.{reverse-append, length-set}
use Rattle.audit.specs.declared.reason.AuditLine.{AuditLine}
use Rattle.audit.specs.declared.reason.Why.{Why}
use Rattle.fis.specs.H2d.{h2d_at}
use Rattle.fis.specs.declared.any.Fis.{Fis}
use Rattle.hba_regs.specs.Registers.{Regs}
use Rattle.slots.proofs.Held.{held as held_slot}
use Rattle.slots.specs.Fetch.{fetched}
use Rattle.slots.specs.Layout.{buffer_size}
use Rattle.slots.specs.declared.fetched.Fetched.{Fetched}
use Rattle.history.specs.Answers.{payload_of, errored as failed_status, status_of}
use Rattle.history.specs.Tcg.{accepted_data}
use Rattle.history.specs.Events.{Event}
use Rattle.history.specs.Facts.{Facts, facts}
use Rattle.history.specs.History.{Act, Accept as AcceptFis, event, log}
use Rattle.history.specs.Opening.{Origin}
use Rattle.drive.specs.Answers.{IsAnswer, fises_in}
use Rattle.drive.specs.State.{Agrees as DriveAgrees}
use Rattle.drive.specs.declared.answer.Accepted.{Accepted as DriveAccepted}
use Rattle.port_history.specs.declared.request.Answer.{Answer}
use Rattle.port_history.specs.declared.request.Answer.TheVariants as answers
use Rattle.port_history.specs.declared.stages.Put.{Put}
use Rattle.port_history.specs.declared.stages.Stage.{Stage}
use Rattle.port_history.specs.declared.stages.Stage.TheVariants.{Issued, Accepted, Answered}
use Rattle.port_history.specs.declared.step.Step.{Step}
use Rattle.port_history.specs.declared.step.Step.TheVariants as steps
use Rattle.port_history.specs.Refusals.{refusal_with_room}
use Rattle.port_history.specs.Registers.{registers, all_shown, restarted_if}
use Rattle.port_history.specs.Requests.{command_fis, to_device, bytes_moved}
use Rattle.port_history.specs.Stages.{is_queued_command, is_queued_put, to, put_at, accepted_stage}
use Rattle.history.specs.Audit.{line_for}
use Rattle.port_history.specs.Steps.{Effect, Moment, moment, effect_by, acceptance, accept_payload, act_of, act_before, event_before, executed_answer, answered_with, failing_by, has_failed, trace, events, acts, sent_fises, stage, failed, payload, answer, audit, accepted_rule}
use Rattle.port_history.proofs.Tests.{none_holds, tests_of, issued_is, none_is}
use Rattle.port.specs.declared.outcome.Outcome.{Outcome}
use Rattle.port.specs.declared.outcome.Outcome.TheVariants as outcomes
use Rattle.port.specs.Agreement.{PortAgrees, TagAgrees, IsLaidAt}
use Rattle.port.specs.Answers.{answer_in, outcome_at, stage_at, buffer_front}
use Rattle.port.specs.Host.{IsLaid, IsReceived, fetched_of}
use Rattle.port.specs.State.{PortState, IsAccepted, entry_of, failed_then, outcome_then, executed_outcome, has_error_status}
use Rattle.port.proofs.Agreeing.{itself, stage_here, stage_there, outcome_here, outcome_there, one_entry, tag_same, count_is}
use Rattle.port.proofs.Lawful.{is_command_fis, issued_moves, issued_length, issued_small, accepted_fits}
use Rattle.port.proofs.Memory.{IsSameSlot, same_received, same_but_done, laid_same, answer_same}

-- The events of the steps are the log of their acts.
events_from : (o : Origin) (act : Option Act) (past : List Event) (before : List Act) → past ≡ log o before
    → event_before (option_map (effect_by (facts o past)) act) past ≡ log o (act_before act before)
events_from o None past before e = e
events_from o (Some (AcceptFis fis bytes)) past before e = ap (λ (p : List Event). event o p (AcceptFis fis bytes) ∷ p) e
events_from o (Some (Rattle.history.specs.History.Complete tag bytes)) past before e = ap (λ (p : List Event). event o p (Rattle.history.specs.History.Complete tag bytes) ∷ p) e
events_from o (Some (Rattle.history.specs.History.Reset kind)) past before e = ap (λ (p : List Event). event o p (Rattle.history.specs.History.Reset kind) ∷ p) e
events_from o (Some Rattle.history.specs.History.SoftwareReset) past before e = ap (λ (p : List Event). event o p Rattle.history.specs.History.SoftwareReset ∷ p) e

pub events_are : (o : Origin) (list : List Step) → events (trace o list) ≡ log o (acts o list)
events_are o [] = refl
events_are o (step ∷ before) =
    events_from o (act_of (trace o before) step) (events (trace o before)) (acts o before) (events_are o before)

-- What the drive answered, as the definitions read it.
status_fails : (x : Option ℕ) → (status_of x == failed_status) ≡ is_some x
status_fails None = refl
status_fails (Some error) = refl

pub answer_fails : (f : Facts) (fis : List ℕ) (e : Event) (a : DriveAccepted) → IsAnswer f (h2d_at fis) e a
    → has_error_status a ≡ is_some e.failed
answer_fails f fis e a answer = ap (λ (n : ℕ). n == failed_status) answer.status ∙ status_fails e.failed

failed_now : (b : Bool) (tag : ℕ) (x : Option ℕ)
    → (if b then Some tag else x) ≡ unwrap_or (if b then Some (Some tag) else None) x
failed_now true tag x = refl
failed_now false tag x = refl

-- the data that came in are those of the event, as far as the buffer has room
executed : (memory given bytes content : List ℕ) (tag : ℕ) (a : DriveAccepted) (x : Option ℕ)
    → a.status ≡ status_of x → a.error ≡ unwrap_or x 0 → has_error_status a ≡ is_some x
    → buffer_front memory tag (length bytes) ≡ content
    → answer_in memory tag (Some (executed_outcome (has_error_status a) a.status a.error (length bytes)))
    ≡ Some (answered_with x content)
executed memory given bytes content tag a None status error failing is =
    ap (λ (b : Bool). answer_in memory tag (Some (executed_outcome b a.status a.error (length bytes)))) failing
    ∙ ap (λ (xs : List ℕ). Some (answers.Done xs)) is
executed memory given bytes content tag a (Some code) status error failing is =
    ap (λ (b : Bool). answer_in memory tag (Some (executed_outcome b a.status a.error (length bytes)))) failing
    ∙ ap (λ (n : ℕ). Some (answers.Failed n a.error)) status
    ∙ ap (λ (n : ℕ). Some (answers.Failed failed_status n)) error

lines_back : (n client : ℕ) (why : Option Why)
    → reverse (line_for n client why) ≡ line_for n client why
lines_back n client None = refl
lines_back n client (Some why) = refl

-- the log with the line of an act
pub one_line : (port : PortState) (o : Origin) (list : List Step) (now : List AuditLine) (client : ℕ)
    (why told : Option Why) → PortAgrees port o list
    → now ≡ port.audit ++ line_for (1 + length port.history) client why → why ≡ told
    → now ≡ reverse (line_for (1 + length (trace o list)) client told ++ audit (trace o list))
one_line port o list now client why told h is same =
    let ms = trace o list in
    is ∙ ap (λ (n : ℕ). port.audit ++ line_for (1 + n) client why) (count_is port o list h)
    ∙ ap (λ (x : Option Why). port.audit ++ line_for (1 + length ms) client x) same
    ∙ ap (λ (xs : List AuditLine). xs ++ line_for (1 + length ms) client told) h.log
    ∙ ap (λ (xs : List AuditLine). reverse (audit ms) ++ xs) (sym (lines_back (1 + length ms) client told))
    ∙ sym (reverse-append (line_for (1 + length ms) client told) (audit ms))

issued_same : (a b : Put) → Issued a ≡ Issued b → a ≡ b
issued_same a b e = cc

abbrev pub accept_moment : ℕ → Put → Effect → Moment
accept_moment tag put e = record { step = steps.Accept tag; served = Some put; effect = Some e }

pub accept_is : (o : Origin) (ms : List Moment) (tag : ℕ) (put : Put) → stage ms tag ≡ Issued put
    → moment o ms (steps.Accept tag)
    ≡ accept_moment tag put (effect_by (facts o (events ms))
    (AcceptFis (command_fis put.command tag) (accept_payload put (payload ms tag))))
accept_is o ms tag put was =
    ap (λ (p : Option Put). record {
      step = steps.Accept tag;
      served = p;
      effect = option_map (effect_by (facts o (events ms))) (acceptance tag p (payload ms tag));
    }) (ap put_at was)

-- what an acceptance rests on
record Accepting (old new : PortState) (o : Origin) (list : List Step) (tag : ℕ) (put : Put) (e : Effect) : Type 0 where
  below : tag < 32
  agrees : PortAgrees old o list
  made : IsAccepted old new tag (command_fis put.command tag)
  same : made.put ≡ put
  was : stage (trace o list) tag ≡ Issued put
  event_is : IsAnswer (facts o (events (trace o list))) (h2d_at (command_fis put.command tag)) e.event made.answer
  fises_are : fises_in made.answer ≡ e.fises
  bytes_are : made.answer.bytes.items ≡ e.bytes
  fits : length e.bytes ≤ buffer_size

accept_answers : (old new : PortState) (o : Origin) (list : List Step) (tag : ℕ) (put : Put) (e : Effect)
    (w : Accepting old new o list tag put e) (queued : Bool) → is_queued_command w.made.put.command ≡ queued
    → answer_in new.memory tag
    (outcome_then queued w.made.answer (length w.made.bytes) (outcome_at old.outcomes tag))
    ≡ unwrap_or (if queued then None else executed_answer (Some e)) (answer (trace o list) tag)
accept_answers old new o list tag put e w true is =
    answer_same old.memory new.memory tag (outcome_at old.outcomes tag)
    (same_received old.memory new.memory tag w.below (w.made.memory.kept is))
    ∙ (w.agrees.tags tag w.below).answers
accept_answers old new o list tag put e w false is =
    executed new.memory w.made.answer.bytes.items w.made.bytes e.bytes tag w.made.answer e.event.failed
    w.event_is.status w.event_is.error
    (answer_fails (facts o (events (trace o list))) (command_fis put.command tag) e.event w.made.answer w.event_is)
    (w.made.memory.filled is
    ∙ w.made.memory.whole (omega (arith, ap length w.bytes_are, w.fits)) ∙ w.bytes_are)

accept_laid : (old new : PortState) (o : Origin) (list : List Step) (tag : ℕ) (put : Put) (e : Effect)
    (w : Accepting old new o list tag put e) (queued : Bool) → is_queued_command w.made.put.command ≡ queued
    → IsLaidAt new.memory tag (if queued then Accepted put else Answered put) (payload (trace o list) tag)
accept_laid old new o list tag put e w true is =
    laid_same old.memory new.memory tag (Issued put) (payload (trace o list) tag)
    (same_received old.memory new.memory tag w.below (w.made.memory.kept is))
    (subst (λ (x : Stage). IsLaidAt old.memory tag x (payload (trace o list) tag)) w.was
    (w.agrees.tags tag w.below).laid)
accept_laid old new o list tag put e w false is = tt

accept_tag : (old new : PortState) (o : Origin) (list : List Step) (tag : ℕ) (put : Put) (e : Effect)
    → Accepting old new o list tag put e
    → TagAgrees new (accept_moment tag put e ∷ trace o list) tag
accept_tag old new o list tag put e w =
    let ms = trace o list in
    let s = w.made in
    let h = w.agrees in
    let lt = w.below in
    let queued_is : is_queued_command s.put.command ≡ is_queued_command put.command = ap (λ (p : Put). is_queued_command p.command) w.same in
    rw (itself tag) (record {
      stands =
          stage_here old.slots new.slots tag (accepted_stage s.put) (omega (arith, h.slots, lt)) s.slots
          ∙ ap accepted_stage w.same ∙ sym (ap (to accepted_stage) w.was);
      answers =
          ap (answer_in new.memory tag) (outcome_here old.outcomes new.outcomes tag _ (omega (arith, h.outcomes, lt)) s.outcomes)
          ∙ ap (λ (b : Bool). answer_in new.memory tag (outcome_then b s.answer (length s.bytes) (outcome_at old.outcomes tag))) queued_is
          ∙ accept_answers old new o list tag put e w (is_queued_command put.command) queued_is;
      laid = subst (λ (x : Stage). IsLaidAt new.memory tag x (payload ms tag)) (sym (ap (to accepted_stage) w.was))
          (accept_laid old new o list tag put e w (is_queued_command put.command) queued_is);
    })

accept_other : (old new : PortState) (o : Origin) (list : List Step) (tag t : ℕ) (put : Put) (e : Effect)
    → Accepting old new o list tag put e → t < 32 → (tag ≡ t → ⊥)
    → TagAgrees new (accept_moment tag put e ∷ trace o list) t
accept_other old new o list tag t put e w below other =
    let s = w.made in
    let h = w.agrees in
    let lt = w.below in
    rw (ne_eqb tag t other)
    (tag_same (same_but_done old.memory new.memory tag t lt below (λ x. other (sym x)) s.memory.elsewhere)
    (stage_there old.slots new.slots tag t _ (omega (arith, h.slots, lt)) other s.slots)
    (outcome_there old.outcomes new.outcomes tag t _ (omega (arith, h.outcomes, lt)) other s.outcomes)
    refl refl refl (h.tags t below))

accept_failure : (old new : PortState) (o : Origin) (list : List Step) (tag : ℕ) (put : Put) (e : Effect)
    → Accepting old new o list tag put e
    → new.failed ≡ failed (accept_moment tag put e ∷ trace o list)
accept_failure old new o list tag put e w =
    let s = w.made in
    let f = facts o (events (trace o list)) in
    s.failed
    ∙ ap (λ (p : Put). failed_then (is_queued_command p.command) (has_error_status s.answer) tag old.failed) w.same
    ∙ ap (λ (b : Bool). failed_then (is_queued_command put.command) b tag old.failed)
    (answer_fails f (command_fis put.command tag) e.event s.answer w.event_is)
    ∙ ap (failed_then (is_queued_command put.command) (is_some e.event.failed) tag) w.agrees.failure
    ∙ failed_now (is_queued_command put.command && is_some e.event.failed) tag (failed (trace o list))

accept_regs : (old new : PortState) (o : Origin) (list : List Step) (tag : ℕ) (put : Put) (e : Effect)
    → Accepting old new o list tag put e
    → new.regs ≡ registers (accept_moment tag put e ∷ trace o list)
accept_regs old new o list tag put e w =
    let s = w.made in
    let f = facts o (events (trace o list)) in
    s.regs
    ∙ ap (λ (p : Put). restarted_if (not (is_queued_command p.command) && has_error_status s.answer) (all_shown tag old.regs (fises_in s.answer))) w.same
    ∙ ap (λ (b : Bool). restarted_if (not (is_queued_command put.command) && b) (all_shown tag old.regs (fises_in s.answer)))
    (answer_fails f (command_fis put.command tag) e.event s.answer w.event_is)
    ∙ ap (λ (r : Regs). restarted_if (not (is_queued_command put.command) && is_some e.event.failed) (all_shown tag r (fises_in s.answer))) w.agrees.regs
    ∙ ap (λ (xs : List Fis). restarted_if (not (is_queued_command put.command) && is_some e.event.failed) (all_shown tag (registers (trace o list)) xs)) w.fises_are

-- the payload stands in the buffer
brought : (memory bytes : List ℕ) (tag : ℕ) (put : Put) (queued : Bool) (n : ℕ)
    → n ≡ length (if queued then [] else bytes) → buffer_front memory tag (length bytes) ≡ bytes
    → buffer_front memory tag n ≡ (if queued then [] else bytes)
brought memory bytes tag put true n size stands = ap (buffer_front memory tag) size
brought memory bytes tag put false n size stands = ap (buffer_front memory tag) size ∙ stands

-- Accept: an issued command is fetched as it was laid.
pub fetched_is : (port : PortState) (o : Origin) (list : List Step) (tag : ℕ) (put : Put) → tag < 32
    → PortAgrees port o list → stage (trace o list) tag ≡ Issued put
    → fetched port.memory tag ≡ Ok (fetched_of put tag)
fetched_is port o list tag put lt h was =
    let ms = trace o list in
    let l : IsLaid port.memory tag put.command (payload ms tag) =
    subst (λ (s : Stage). IsLaidAt port.memory tag s (payload ms tag)) was (h.tags tag lt).laid in
    held_slot port.memory tag (command_fis put.command tag) (to_device put.command)
    (bytes_moved put.command) lt refl (is_command_fis put.command tag) (omega arith)
    (issued_moves o list tag put h.lawful was) l.slot

pub fetches : (port : PortState) (o : Origin) (list : List Step) (tag : ℕ) (put : Put) → tag < 32
    → PortAgrees port o list → stage (trace o list) tag ≡ Issued put
    → (f : Fetched) × (fetched port.memory tag ≡ Ok f) × (payload_of port.drive.tper.store.config f.fis ≤ buffer_size)
fetches port o list tag put lt h was =
    (fetched_of put tag, fetched_is port o list tag put lt h was, issued_small port.drive.tper.store.config o list tag put lt h.lawful was)

pub accept_agrees : (old new : PortState) (o : Origin) (list : List Step) (tag : ℕ) → tag < 32
    → PortAgrees old o list → refusal_with_room (trace o list) (steps.Accept tag) ≡ None
    → ((f : Fetched) → fetched old.memory tag ≡ Ok f → IsAccepted old new tag f.fis)
    → PortAgrees new o (steps.Accept tag ∷ list)
accept_agrees old new o list tag lt h lawful made =
    let ms = trace o list in
    let step = steps.Accept tag in
    let t0 = none_holds (tests_of ms step) lawful in
    let p = issued_is (stage ms tag) t0.1.1.0 in
    let put : Put = p.0 in
    let was : stage ms tag ≡ Issued put = p.1 in
    let fis : List ℕ = command_fis put.command tag in
    let mended : failed ms ≡ None = none_is (failed ms) t0.1.0 in
    let s : IsAccepted old new tag fis = made (fetched_of put tag) (fetched_is old o list tag put lt h was) in
    let same : s.put ≡ put = issued_same s.put put (sym s.was ∙ (h.tags tag lt).stands ∙ was) in
    let l : IsLaid old.memory tag put.command (payload ms tag) =
    subst (λ (x : Stage). IsLaidAt old.memory tag x (payload ms tag)) was (h.tags tag lt).laid in
    let payload_is : buffer_front old.memory tag (payload_of old.drive.tper.store.config fis) ≡ accept_payload put (payload ms tag) =
    brought old.memory (payload ms tag) tag put (is_queued_command put.command) (payload_of old.drive.tper.store.config fis)
    (issued_length old.drive.tper.store.config o list tag put lt h.lawful was) l.buffer in
    let act : Act = AcceptFis fis (accept_payload put (payload ms tag)) in
    let e : Effect = effect_by (facts o (events ms)) act in
    let answered : IsAnswer (facts o (events ms)) (h2d_at fis) e.event s.answer =
    subst (λ (past : List Event). IsAnswer (facts o past) (h2d_at fis) (event o past act) s.answer) (sym (events_are o list))
    (subst (λ (xs : List ℕ). IsAnswer (facts o (log o (acts o list))) (h2d_at fis) (event o (log o (acts o list)) (AcceptFis fis xs)) s.answer) payload_is
    (s.took.answers o (acts o list) h.drive)) in
    let moment_is : moment o ms step ≡ accept_moment tag put e = accept_is o ms tag put was in
    let act_is : act_of ms step ≡ Some act = ap (λ (x : Option Put). acceptance tag x (payload ms tag)) (ap put_at was) in
    let w : Accepting old new o list tag put e = record {
      below = lt;
      agrees = h;
      made = s;
      same = same;
      was = was;
      event_is = answered;
      fises_are = answered.fises;
      bytes_are = answered.bytes;
      fits = accepted_fits o list tag put lt h.lawful mended was;
    } in
    record {
      lawful = (lt-ltb tag 32 lt, lawful, h.lawful);
      drive = subst (λ (x : Option Act). DriveAgrees new.drive o (act_before x (acts o list))) (sym act_is)
          (subst (λ (xs : List ℕ). DriveAgrees new.drive o (AcceptFis fis xs ∷ acts o list)) payload_is (s.took.drive o (acts o list) h.drive));
      slots = ap length s.slots ∙ length-set old.slots tag _ ∙ h.slots;
      outcomes = ap length s.outcomes ∙ length-set old.outcomes tag _ ∙ h.outcomes;
      failure = accept_failure old new o list tag put e w ∙ sym (ap (λ (m : Moment). failed (m ∷ ms)) moment_is);
      tags = λ t below. subst (λ (m : Moment). TagAgrees new (m ∷ ms) t) (sym moment_is) (elim (cases_eq tag t) [
        | inl is ↦ subst (λ (x : ℕ). TagAgrees new (accept_moment tag put e ∷ ms) x) is (accept_tag old new o list tag put e w)
        | inr other ↦ accept_other old new o list tag t put e w below other
      ]);
      regs = accept_regs old new o list tag put e w ∙ sym (ap (λ (m : Moment). registers (m ∷ ms)) moment_is);
      received = subst (λ (m : Moment). IsReceived new.memory (sent_fises (m ∷ ms))) (sym moment_is)
          (subst (λ (xs : List Fis). IsReceived new.memory (reverse xs ++ sent_fises ms)) answered.fises (s.received (sent_fises ms) h.received));
      history = one_entry old o list step new.history (entry_of step) h s.history refl;
      log =
          one_line old o list new.audit put.client s.answer.denied e.event.denied h
          (s.audit ∙ ap (λ (x : Put). old.audit ++ line_for (1 + length old.history) x.client s.answer.denied) same)
          answered.denied
          ∙ sym (ap (λ (m : Moment). reverse (audit (m ∷ ms))) moment_is);
      rule = s.rule ∙ answered.rule ∙ sym (ap (λ (m : Moment). accepted_rule (m ∷ ms)) moment_is);
    }
