-- A completion keeps the port as the list of its steps leaves it.
use Rattle.std.proofs.Common.{◌≡◌, ℕ, ◌+◌, ◌≤◌, ◌<◌, Bool, true, false, List, [], ◌∷◌, ◌++◌, length, reverse, if◌then◌else◌, Option, Some, None, refl, sym, ap, ◌∙◌, arith, subst, inl, inr}
use Rattle.std.specs.Prelude.{option_map}
use Rattle.std.proofs.lemmas.Bool.{cases_eq, ne_eqb, lt-ltb}
use Rattle.std.proofs.lemmas.List.{length-set}
use Rattle.audit.specs.declared.reason.AuditLine.{AuditLine}
use Rattle.fis.specs.declared.any.Fis.{Fis}
use Rattle.hba_regs.specs.Registers.{Regs}
use Rattle.slots.specs.Layout.{buffer_size}
use Rattle.trusted_cmds.specs.declared.command.Command.{Command}
use Rattle.trusted_cmds.specs.declared.command.Command.TheVariants.{ReadQueued, WriteQueued, ReadDma, WriteDma, Send, Receive, Identify, ReadLog10, Flush, SetFeatures, ReadLog, ReadPio, WritePio, Verify, Trim, Control}
use Rattle.history.specs.Answers.{expected, completed_fises, completed_data}
use Rattle.history.specs.Decisions.{completed}
use Rattle.history.specs.Events.{Event, HeldCommand}
use Rattle.history.specs.Facts.{facts}
use Rattle.history.specs.History.{Act, Complete as CompleteTag, log}
use Rattle.history.specs.Opening.{Origin}
use Rattle.history.specs.Readers.{held}
use Rattle.drive.specs.Answers.{IsCompletion, fises_done}
use Rattle.drive.specs.Queue.{held_at}
use Rattle.drive.specs.State.{Agrees as DriveAgrees}
use Rattle.port_history.specs.declared.request.Answer.TheVariants as answers
use Rattle.port_history.specs.declared.stages.Put.{Put}
use Rattle.port_history.specs.declared.stages.Stage.{Stage}
use Rattle.port_history.specs.declared.stages.Stage.TheVariants.{Accepted, Answered}
use Rattle.port_history.specs.declared.step.Step.{Step}
use Rattle.port_history.specs.declared.step.Step.TheVariants as steps
use Rattle.port_history.specs.Refusals.{refusal_with_room}
use Rattle.port_history.specs.Registers.{registers, all_shown}
use Rattle.port_history.specs.Stages.{put_at, to}
use Rattle.port_history.specs.Steps.{Effect, Moment, moment, effect_by, line_of, trace, events, acts, sent_fises, stage, failed, payload, audit}
use Rattle.port_history.proofs.Tests.{none_holds, tests_of, accepted_is, none_is}
use Rattle.port.specs.Agreement.{PortAgrees, TagAgrees, IsLaidAt}
use Rattle.port.specs.Answers.{answer_in, buffer_front}
use Rattle.port.specs.Host.{IsLaid, IsReceived}
use Rattle.port.specs.State.{PortState, IsCompleted, IsReady, entry_of}
use Rattle.port.proofs.Agreeing.{itself, stage_here, stage_there, outcome_here, outcome_there, one_entry, tag_same}
use Rattle.port.proofs.Accepting.{events_are}
use Rattle.port.proofs.Lawful.{accepted_held, completed_length, completed_small, completed_fits}
use Rattle.port.proofs.Memory.{same_but_done}

accepted_same : (a b : Put) → Accepted a ≡ Accepted b → a ≡ b
accepted_same a b e = cc

abbrev pub complete_moment : ℕ → Put → Effect → Moment
complete_moment tag put e = record { step = steps.Complete tag; served = Some put; effect = Some e }

complete_is : (o : Origin) (ms : List Moment) (tag : ℕ) (put : Put) → stage ms tag ≡ Accepted put
    → moment o ms (steps.Complete tag)
    ≡ complete_moment tag put (effect_by (facts o (events ms)) (CompleteTag tag (payload ms tag)))
complete_is o ms tag put was =
    ap (λ (p : Option Put). record {
      step = steps.Complete tag;
      served = p;
      effect = Some (effect_by (facts o (events ms)) (CompleteTag tag (payload ms tag)));
    }) (ap put_at was)

complete_tag : (old new : PortState) (o : Origin) (list : List Step) (tag : ℕ) (put : Put) (e : Effect)
    → tag < 32 → PortAgrees old o list → (s : IsCompleted old new tag) → s.put ≡ put
    → stage (trace o list) tag ≡ Accepted put → s.bytes ≡ e.bytes
    → TagAgrees new (complete_moment tag put e ∷ trace o list) tag
complete_tag old new o list tag put e lt h s same was bytes =
    let ms = trace o list in
    let now : to Answered (stage ms tag) ≡ Answered put = ap (to Answered) was in
    rw (itself tag) (record {
      stands =
          stage_here old.slots new.slots tag (Answered s.put) (omega (arith, h.slots, lt)) s.slots
          ∙ ap Answered same ∙ sym now;
      answers =
          ap (answer_in new.memory tag) (outcome_here old.outcomes new.outcomes tag _ (omega (arith, h.outcomes, lt)) s.outcomes)
          ∙ ap (λ (xs : List ℕ). Some (answers.Done xs)) (s.memory.filled refl ∙ bytes);
      laid = subst (λ (x : Stage). IsLaidAt new.memory tag x (payload ms tag)) (sym now) tt;
    })

-- a completion is never denied
no_line : (n tag : ℕ) (put : Put) (bytes : List ℕ) (h : Option HeldCommand) (fises : List Fis)
    (content : List ℕ)
    → line_of n (Some put) (Some (record { event = completed tag bytes h; fises = fises; bytes = content })) ≡ []
no_line n tag put bytes None fises content = refl
no_line n tag put bytes (Some h) fises content = by_command h.command
  where
    by_command : (command : Command)
        → line_of n (Some put) (Some (record {
          event = completed tag bytes (Some (record { command = command; verdict = h.verdict }));
          fises = fises;
          bytes = content;
        })) ≡ []
    by_command (ReadQueued lba count) = refl
    by_command (WriteQueued lba count) = refl
    by_command (ReadDma lba count) = refl
    by_command (WriteDma lba count) = refl
    by_command (Send protocol com_id blocks dma) = refl
    by_command (Receive protocol com_id blocks dma) = refl
    by_command Identify = refl
    by_command (ReadLog10 dma) = refl
    by_command Flush = refl
    by_command (SetFeatures feature) = refl
    by_command (ReadLog page dma) = refl
    by_command (ReadPio lba count) = refl
    by_command (WritePio lba count) = refl
    by_command (Verify lba count) = refl
    by_command (Trim blocks) = refl
    by_command (Control control) = refl

-- what the drive holds is what the past holds
held_now : (port : PortState) (o : Origin) (list : List Step) (tag : ℕ) → PortAgrees port o list
    → held_at port.drive.queue tag ≡ held (events (trace o list)) tag
held_now port o list tag h =
    h.drive.held tag ∙ ap (λ (past : List Event). held past tag) (sym (events_are o list))

pub complete_agrees : (old new : PortState) (o : Origin) (list : List Step) (tag : ℕ) → tag < 32
    → PortAgrees old o list → refusal_with_room (trace o list) (steps.Complete tag) ≡ None
    → IsCompleted old new tag → PortAgrees new o (steps.Complete tag ∷ list)
complete_agrees old new o list tag lt h lawful s =
    let ms = trace o list in
    let step = steps.Complete tag in
    let t0 = none_holds (tests_of ms step) lawful in
    let p = accepted_is (stage ms tag) t0.1.1.0 in
    let put : Put = p.0 in
    let was : stage ms tag ≡ Accepted put = p.1 in
    let mended : failed ms ≡ None = none_is (failed ms) t0.1.0 in
    let same : s.put ≡ put = accepted_same s.put put (sym s.was ∙ (h.tags tag lt).stands ∙ was) in
    let l : IsLaid old.memory tag put.command (payload ms tag) =
    subst (λ (x : Stage). IsLaidAt old.memory tag x (payload ms tag)) was (h.tags tag lt).laid in
    let payload_is : buffer_front old.memory tag (expected (held_at old.drive.queue tag)) ≡ payload ms tag =
    ap (buffer_front old.memory tag) (ap expected (held_now old o list tag h) ∙ completed_length o list tag put h.lawful mended was)
    ∙ l.buffer in
    let act : Act = CompleteTag tag (payload ms tag) in
    let e : Effect = effect_by (facts o (events ms)) act in
    let answered : IsCompletion (facts o (events ms)) tag (held (events ms) tag) s.done =
    subst (λ (past : List Event). IsCompletion (facts o past) tag (held past tag) s.done) (sym (events_are o list))
    (s.answers o (acts o list) h.drive) in
    let moment_is : moment o ms step ≡ complete_moment tag put e = complete_is o ms tag put was in
    let bytes : s.bytes ≡ e.bytes =
    s.memory.whole (omega (arith, ap length answered.bytes, completed_fits o list tag put h.lawful mended was))
    ∙ answered.bytes in
    record {
      lawful = (lt-ltb tag 32 lt, lawful, h.lawful);
      drive = subst (λ (xs : List ℕ). DriveAgrees new.drive o (CompleteTag tag xs ∷ acts o list)) payload_is (s.drive o (acts o list) h.drive);
      slots = ap length s.slots ∙ length-set old.slots tag _ ∙ h.slots;
      outcomes = ap length s.outcomes ∙ length-set old.outcomes tag _ ∙ h.outcomes;
      failure = s.failed ∙ h.failure;
      tags = λ t below. subst (λ (m : Moment). TagAgrees new (m ∷ ms) t) (sym moment_is) (elim (cases_eq tag t) [
        | inl is ↦ subst (λ (x : ℕ). TagAgrees new (complete_moment tag put e ∷ ms) x) is (complete_tag old new o list tag put e lt h s same was bytes)
        | inr other ↦ rw (ne_eqb tag t other) (tag_same (same_but_done old.memory new.memory tag t lt below (λ x. other (sym x)) s.memory.elsewhere)
            (stage_there old.slots new.slots tag t _ (omega (arith, h.slots, lt)) other s.slots)
            (outcome_there old.outcomes new.outcomes tag t _ (omega (arith, h.outcomes, lt)) other s.outcomes)
            refl refl refl (h.tags t below))
      ]);
      regs =
          s.regs ∙ ap (λ (r : Regs). all_shown tag r (fises_done s.done)) h.regs
          ∙ ap (all_shown tag (registers ms)) answered.fises;
      received =
          subst (λ (xs : List Fis). IsReceived new.memory (reverse xs ++ sent_fises ms)) answered.fises (s.received (sent_fises ms) h.received);
      history = one_entry old o list step new.history (entry_of step) h s.history refl;
      log =
          s.audit ∙ h.log
          ∙ sym (ap (λ (xs : List AuditLine). reverse (xs ++ audit ms)) (no_line (1 + length ms) tag put (payload ms tag) (held (events ms) tag) e.fises e.bytes))
          ∙ sym (ap (λ (m : Moment). reverse (audit (m ∷ ms))) moment_is);
      rule = s.rule ∙ h.rule;
    }

none_not : (x : Option HeldCommand) → x ≡ None → option_map (λ (h : HeldCommand). h.command) x ≡ None
none_not x e = ap (option_map (λ (h : HeldCommand). h.command)) e

pub ready : (port : PortState) (o : Origin) (list : List Step) (tag : ℕ) (put : Put) → tag < 32
    → PortAgrees port o list → failed (trace o list) ≡ None → stage (trace o list) tag ≡ Accepted put
    → IsReady port.drive tag
ready port o list tag put lt h mended was = record {
  o = o;
  acts = acts o list;
  stands = h.drive;
  holds = λ none.
      let there = accepted_held o list tag put h.lawful mended was in
      let gone = none_not (held (events (trace o list)) tag) (ap (λ (past : List Event). held past tag) (events_are o list) ∙ none) in
      absurd (not_both put.command (sym there ∙ gone));
  fits = omega (arith, ap expected (held_now port o list tag h), completed_small o list tag put h.lawful mended was);
}
  where
    not_both : (c : Command) → Some c ≡ None → ⊥
    not_both c e = cc
