-- The registers after every lawful list: PxSACT and PxCI have exactly their tags.
use Rattle.std.proofs.Common.{◌≡◌, ◌≢◌, ◌∙◌, ℕ, ◌^◌, ◌<◌, ◌==◌, ◌&&◌, ◌||◌, not, Bool, true, false, List, [], ◌∷◌, bit_or, if◌then◌else◌, Option, Some, None, refl, sym, ap, subst, inl, inr, eq-eqb}
use Rattle.std.specs.Prelude.{is_some}
use Rattle.std.specs.Int.{bit_at}
use Rattle.std.proofs.lemmas.Bool.{cases_eq, ne_eqb, ltb-true}
use Rattle.std.proofs.lemmas.Nat.Bits.{bit_at-zero}
use Rattle.fis.specs.Bytes.{bit}
use Rattle.fis.specs.declared.any.Fis.{Fis}
use Rattle.hba_regs.specs.Registers.{Regs, without}
use Rattle.audit.specs.declared.reason.Why.{Why}
use Rattle.locking.specs.declared.ranges.Verdict.{Verdict}
use Rattle.history.specs.Opening.{Origin}
use Rattle.history.specs.Answers.{answer_fis, ready, errored as failed_status}
use Rattle.history.specs.Tcg.{tcg}
use Rattle.port_history.proofs.Acted.{tcg_for_ports}
use Rattle.port_history.specs.declared.stages.Put.{Put}
use Rattle.port_history.specs.declared.stages.Stage.{Stage}
use Rattle.port_history.specs.declared.stages.Stage.TheVariants.{Free, Prepared, Issued, Accepted, Answered}
use Rattle.port_history.specs.declared.step.Step.{Step}
use Rattle.port_history.specs.declared.step.Step.TheVariants as steps
use Rattle.port_history.specs.Stages.{is_queued_command, is_queued_put, is_active, is_issued, is_out, put_at, to, recovered, stage_after_reset}
use Rattle.port_history.specs.Steps.{Effect, Moment, trace, events, stage, failed, is_tag, has_failed}
use Rattle.port_history.specs.Registers.{registers, with_issue, all_shown, shown, restarted_if}
use Rattle.port_history.specs.Refusals.{IsLawful}
use Rattle.port_history.specs.Laws.{RegisterLaw}
use Rattle.port_history.proofs.Acted.{IsExecuted, IsHeldOrFailed, IsHeld, IsFailed, held_effect, failed_effect, executed_fis}
use Rattle.port_history.proofs.Bits.{or_same, or_other, without_same, without_other, HasWords, ready-words, failed-words, executed-words, completed-words}
use Rattle.port_history.proofs.Tests.{none_is, some_is, was_true, none_holds, tests_of, free_is, prepared_is, issued_is, accepted_is, answered_is}
use Rattle.port_history.proofs.Kept.{Kept, accept_moment, complete_moment, moves, accepted_moves, executed_moves, recovered_in, reset_in, is_single, failed_held, failed_failed, failed_executed}
use Rattle.port_history.proofs.KeptLaw.{kept, accept_is, complete_is, recover_is, accepted_effect, completed_effect, queued_comes, unqueued_comes, accepted_moves as completion_is, fit_accepted, found}
use Rattle.audit.specs.declared.rules.rule.Rule.{Rule}

-- The bits of a tag, by its stage and the tag that failed.
pub record AreBits (active issued tag : ℕ) (s : Stage) (f : Option ℕ) : Type 0 where
  pub of_active : bit_at active tag ≡ bit (is_active s)
  pub of_issued : bit_at issued tag ≡ bit (is_issued s || is_tag tag f)

same-bits : (active issued tag : ℕ) (s next : Stage) (f : Option ℕ)
    → is_active s ≡ is_active next → is_issued s ≡ is_issued next
    → AreBits active issued tag s f → AreBits active issued tag next f
same-bits active issued tag s next f a i h = record {
  of_active = h.of_active ∙ ap bit a;
  of_issued = h.of_issued ∙ ap (λ (b : Bool). bit (b || is_tag tag f)) i;
}

-- a stage that moves, and the words stay
moved-bits : (active issued u tag : ℕ) (stages : ℕ → Stage) (next : Stage) (f : Option ℕ)
    → is_active (stages u) ≡ is_active next → is_issued (stages u) ≡ is_issued next
    → AreBits active issued tag (stages tag) f
    → AreBits active issued tag (if u == tag then next else stages tag) f
moved-bits active issued u tag stages next f a i h =
    elim (cases_eq u tag) [
      | inl same ↦
          rw (eq-eqb u tag same)
          (same-bits active issued tag (stages tag) next f
          (ap (λ (k : ℕ). is_active (stages k)) (sym same) ∙ a)
          (ap (λ (k : ℕ). is_issued (stages k)) (sym same) ∙ i) h)
      | inr other ↦ rw (ne_eqb u tag other) h
    ]

-- the bits of a tag that is not issued, nor accepted
no-bits : (tag : ℕ) (s : Stage) → is_out s ≡ false → AreBits 0 0 tag s None
no-bits tag s none = record {
  of_active = bit_at-zero tag ∙ sym (ap (λ (b : Bool). bit (b && is_queued_put (put_at s))) none);
  of_issued = bit_at-zero tag ∙ sym (ap (λ (b : Bool). bit (b || false)) (in-issued s none));
}
  where
    in-issued : (s : Stage) → is_out s ≡ false → is_issued s ≡ false
    in-issued Free e = refl
    in-issued (Prepared put) e = refl
    in-issued (Issued put) e = absurd cc
    in-issued (Accepted put) e = absurd cc
    in-issued (Answered put) e = refl

on-words : (regs : Regs) (active issued tag : ℕ) (s : Stage) (f : Option ℕ)
    → HasWords regs active issued → AreBits active issued tag s f
    → AreBits regs.active regs.issued tag s f
on-words regs active issued tag s f w h = record {
  of_active = ap (λ (n : ℕ). bit_at n tag) w.active_is ∙ h.of_active;
  of_issued = ap (λ (n : ℕ). bit_at n tag) w.issued_is ∙ h.of_issued;
}

-- the bits before, of the tag that moves
at-it : (active issued u tag : ℕ) (stages : ℕ → Stage) (s : Stage) (f : Option ℕ) → u ≡ tag
    → stages u ≡ s → AreBits active issued tag (stages tag) f → AreBits active issued u s f
at-it active issued u tag stages s f same was h =
    subst (λ (x : Stage). AreBits active issued u x f) was
    (subst (λ (k : ℕ). AreBits active issued k (stages k) f) (sym same) h)

-- what holds of the tag that moves, and of the others
by-tag : (P : ℕ → Stage → Type 0) (u tag : ℕ) (stages : ℕ → Stage) (next : Stage)
    → (u ≡ tag → P u next) → ((tag ≡ u → ⊥) → P tag (stages tag))
    → P tag (if u == tag then next else stages tag)
by-tag P u tag stages next here apart =
    elim (cases_eq u tag) [
      | inl same ↦ rw (eq-eqb u tag same) (subst (λ (k : ℕ). P k next) same (here same))
      | inr other ↦ rw (ne_eqb u tag other) (apart (λ e. other (sym e)))
    ]

-- Issue.
issue-bits : (active issued u tag : ℕ) (put : Put) (stages : ℕ → Stage) (f : Option ℕ)
    → stages u ≡ Prepared put → AreBits active issued tag (stages tag) f
    → AreBits (if is_queued_command put.command then bit_or active (2 ^ u) else active)
    (bit_or issued (2 ^ u)) tag (if u == tag then Issued put else stages tag) f
issue-bits active issued u tag put stages f was h =
    by-tag
    (λ (k : ℕ) (s : Stage). AreBits (if is_queued_command put.command then bit_or active (2 ^ u)
    else active) (bit_or issued (2 ^ u)) k s f)
    u tag stages (Issued put)
    (λ same. record {
      of_active = by_kind (is_queued_command put.command) (at-it active issued u tag stages
          (Prepared put) f same was h).of_active;
      of_issued = or_same issued u;
    })
    (λ other. record {
      of_active = apart (is_queued_command put.command) other;
      of_issued = or_other issued u tag other ∙ h.of_issued;
    })
  where
    by_kind : (b : Bool) → bit_at active u ≡ 0
        → bit_at (if b then bit_or active (2 ^ u) else active) u ≡ bit b
    by_kind true before = or_same active u
    by_kind false before = before

    apart : (b : Bool) → tag ≢ u
        → bit_at (if b then bit_or active (2 ^ u) else active) tag ≡ bit (is_active (stages tag))
    apart true ne = or_other active u tag ne ∙ h.of_active
    apart false ne = h.of_active

-- Accept, where the command is held.
held-bits : (active issued u tag : ℕ) (put : Put) (stages : ℕ → Stage) → u < 32 → tag < 32
    → stages u ≡ Issued put → AreBits active issued tag (stages tag) None
    → AreBits active (without issued (2 ^ u)) tag (if u == tag then Accepted put else stages tag)
    None
held-bits active issued u tag put stages lu lt was h =
    by-tag (λ (k : ℕ) (s : Stage). AreBits active (without issued (2 ^ u)) k s None) u tag stages
    (Accepted put)
    (λ same. record {
      of_active = (at-it active issued u tag stages (Issued put) None same was h).of_active;
      of_issued = without_same issued u lu;
    })
    (λ other. record {
      of_active = h.of_active;
      of_issued = without_other issued u tag lu lt other ∙ h.of_issued;
    })

-- where it fails the queue
failing-bits : (active issued u tag : ℕ) (put : Put) (stages : ℕ → Stage)
    → stages u ≡ Issued put → AreBits active issued tag (stages tag) None
    → AreBits active issued tag (if u == tag then Accepted put else stages tag) (Some u)
failing-bits active issued u tag put stages was h =
    by-tag (λ (k : ℕ) (s : Stage). AreBits active issued k s (Some u)) u tag stages (Accepted put)
    (λ same. record {
      of_active = (at-it active issued u tag stages (Issued put) None same was h).of_active;
      of_issued =
          (at-it active issued u tag stages (Issued put) None same was h).of_issued
          ∙ sym (ap (λ (b : Bool). bit (false || b)) (eq-eqb u u refl));
    })
    (λ other. record {
      of_active = h.of_active;
      of_issued =
          h.of_issued
          ∙ sym (ap (λ (b : Bool). bit (is_issued (stages tag) || b))
          (ne_eqb u tag (λ e. other (sym e))));
    })

-- where it is executed
executed-bits : (active issued u tag : ℕ) (put : Put) (stages : ℕ → Stage) → u < 32 → tag < 32
    → stages u ≡ Issued put → is_queued_command put.command ≡ false
    → AreBits active issued tag (stages tag) None
    → AreBits active (without issued (2 ^ u)) tag (if u == tag then Answered put else stages tag)
    None
executed-bits active issued u tag put stages lu lt was unqueued h =
    by-tag (λ (k : ℕ) (s : Stage). AreBits active (without issued (2 ^ u)) k s None) u tag stages
    (Answered put)
    (λ same. record {
      of_active = (at-it active issued u tag stages (Issued put) None same was h).of_active
          ∙ ap bit unqueued;
      of_issued = without_same issued u lu;
    })
    (λ other. record {
      of_active = h.of_active;
      of_issued = without_other issued u tag lu lt other ∙ h.of_issued;
    })

-- Complete.
complete-bits : (active issued u tag : ℕ) (put : Put) (stages : ℕ → Stage) (f : Option ℕ) → u < 32
    → tag < 32 → stages u ≡ Accepted put → AreBits active issued tag (stages tag) f
    → AreBits (without active (2 ^ u)) issued tag (if u == tag then Answered put else stages tag) f
complete-bits active issued u tag put stages f lu lt was h =
    by-tag (λ (k : ℕ) (s : Stage). AreBits (without active (2 ^ u)) issued k s f) u tag stages
    (Answered put)
    (λ same. record {
      of_active = without_same active u lu;
      of_issued = (at-it active issued u tag stages (Accepted put) f same was h).of_issued;
    })
    (λ other. record {
      of_active = without_other active u tag lu lt other ∙ h.of_active;
      of_issued = h.of_issued;
    })

abbrev BitsOf : List Moment → ℕ → Type 0
BitsOf ms tag =
    AreBits (registers ms).active (registers ms).issued tag (stage ms tag) (failed ms)

-- The steps.

bits_issue : (o : Origin) (ms : List Moment) (u tag : ℕ) (put : Put) → stage ms u ≡ Prepared put
    → BitsOf ms tag → BitsOf (Rattle.port_history.specs.Steps.moment o ms (steps.Issue u) ∷ ms) tag
bits_issue o ms u tag put was h =
    subst
    (λ (x : Option Put). AreBits (with_issue u (is_queued_put x) (registers ms)).active
    (with_issue u (is_queued_put x) (registers ms)).issued tag (if u == tag
    then to Issued (stage ms tag) else stage ms tag) (failed ms))
    (sym (ap put_at was))
    (subst
    (λ (s : Stage). AreBits (if is_queued_command put.command then bit_or (registers ms).active (2 ^ u)
    else (registers ms).active) (bit_or (registers ms).issued (2 ^ u)) tag s (failed ms))
    (moves (to Issued) u tag (stage ms) (Issued put) (ap (to Issued) was))
    (issue-bits (registers ms).active (registers ms).issued u tag put (stage ms) (failed ms) was h))

bits_held : (ms : List Moment) (u tag : ℕ) (put : Put) (v : Verdict) → u < 32 → tag < 32
    → failed ms ≡ None → stage ms u ≡ Issued put → is_queued_command put.command ≡ true → BitsOf ms tag
    → BitsOf (accept_moment u put (held_effect u put.command v) ∷ ms) tag
bits_held ms u tag put v lu lt mended was queued h =
    let m : Moment = accept_moment u put (held_effect u put.command v) in
    let regs : Regs = registers ms in
    let words : HasWords (registers (m ∷ ms)) regs.active (without regs.issued (2 ^ u)) =
    subst
    (λ (b : Bool). HasWords
    (restarted_if (not b && false) (shown u regs (answer_fis false ready 0))) regs.active
    (without regs.issued (2 ^ u)))
    (sym queued) (ready-words u regs false) in
    on-words (registers (m ∷ ms)) regs.active (without regs.issued (2 ^ u)) tag (stage (m ∷ ms) tag)
    (failed (m ∷ ms)) words
    (subst
    (λ (f : Option ℕ). AreBits regs.active (without regs.issued (2 ^ u)) tag (stage (m ∷ ms) tag) f)
    (sym (failed_held ms u put v ∙ mended))
    (subst
    (λ (s : Stage). AreBits regs.active (without regs.issued (2 ^ u)) tag s None)
    (accepted_moves ms u tag put was queued)
    (held-bits regs.active regs.issued u tag put (stage ms) lu lt was
    (subst (λ (f : Option ℕ). AreBits regs.active regs.issued tag (stage ms tag) f) mended h))))

bits_failed : (ms : List Moment) (u tag : ℕ) (put : Put) (error : ℕ) (denied : Option Why × Option Rule)
    → failed ms ≡ None → stage ms u ≡ Issued put → is_queued_command put.command ≡ true → BitsOf ms tag
    → BitsOf (accept_moment u put (failed_effect u put.command error denied) ∷ ms) tag
bits_failed ms u tag put error denied mended was queued h =
    let m : Moment = accept_moment u put (failed_effect u put.command error denied) in
    let regs : Regs = registers ms in
    let words : HasWords (registers (m ∷ ms)) regs.active regs.issued =
    subst
    (λ (b : Bool). HasWords
    (restarted_if (not b && true) (shown u regs (answer_fis true failed_status error)))
    regs.active regs.issued)
    (sym queued) (failed-words u regs error) in
    on-words (registers (m ∷ ms)) regs.active regs.issued tag (stage (m ∷ ms) tag) (failed (m ∷ ms))
    words
    (subst
    (λ (f : Option ℕ). AreBits regs.active regs.issued tag (stage (m ∷ ms) tag) f)
    (sym (failed_failed ms u put error denied queued))
    (subst
    (λ (s : Stage). AreBits regs.active regs.issued tag s (Some u))
    (accepted_moves ms u tag put was queued)
    (failing-bits regs.active regs.issued u tag put (stage ms) was
    (subst (λ (f : Option ℕ). AreBits regs.active regs.issued tag (stage ms tag) f) mended h))))

executed-regs : (ms : List Moment) (u : ℕ) (put : Put) (e : Effect) (x : Option ℕ)
    → is_queued_command put.command ≡ false → IsExecuted (events ms) put.command e
    → e.event.failed ≡ x
    → registers (accept_moment u put e ∷ ms)
    ≡ restarted_if (is_some x) (shown u (registers ms) (executed_fis put.command x))
executed-regs ms u put e x unqueued done is =
    ap
    (λ (b : Bool). restarted_if (not b && is_some e.event.failed)
    (all_shown u (registers ms) e.fises))
    unqueued
    ∙ ap
    (λ (xs : List Fis). restarted_if (is_some e.event.failed) (all_shown u (registers ms) xs))
    done.fises
    ∙ ap
    (λ (y : Option ℕ). restarted_if (is_some y)
    (shown u (registers ms) (executed_fis put.command y)))
    is

bits_executed : (ms : List Moment) (u tag : ℕ) (put : Put) (e : Effect) → u < 32 → tag < 32
    → Kept ms → failed ms ≡ None → stage ms u ≡ Issued put → is_queued_command put.command ≡ false
    → IsExecuted (events ms) put.command e → BitsOf ms tag → BitsOf (accept_moment u put e ∷ ms) tag
bits_executed ms u tag put e lu lt k mended was unqueued done h =
    by_answer e.event.failed refl
  where
    m : Moment
    m = accept_moment u put e

    regs : Regs
    regs = registers ms

    -- as the words of other registers
    with_words : (active issued : ℕ) → HasWords (registers (m ∷ ms)) active issued
        → AreBits active issued tag (if u == tag then Answered put else stage ms tag) None
        → BitsOf (m ∷ ms) tag
    with_words active issued words bits =
        on-words (registers (m ∷ ms)) active issued tag (stage (m ∷ ms) tag) (failed (m ∷ ms)) words
        (subst (λ (f : Option ℕ). AreBits active issued tag (stage (m ∷ ms) tag) f)
        (sym (failed_executed ms u put e unqueued ∙ mended))
        (subst (λ (s : Stage). AreBits active issued tag s None)
        (executed_moves ms u tag put was unqueued) bits))

    in_all : is_out (if u == tag then Answered put else stage ms tag) ≡ false
    in_all =
        by-tag (λ (t : ℕ) (s : Stage). is_out s ≡ false) u tag (stage ms) (Answered put)
        (λ same. refl)
        (λ other. k.alone u tag lu lt (ap is_single was ∙ ap not unqueued)
        (λ same. other (sym same)))

    by_answer : (x : Option ℕ) → e.event.failed ≡ x → BitsOf (m ∷ ms) tag
    by_answer None is =
        with_words regs.active (without regs.issued (2 ^ u))
        (subst (λ (r : Regs). HasWords r regs.active (without regs.issued (2 ^ u)))
        (sym (executed-regs ms u put e None unqueued done is)) (executed-words u regs put.command))
        (executed-bits regs.active regs.issued u tag put (stage ms) lu lt was unqueued
        (subst (λ (f : Option ℕ). AreBits regs.active regs.issued tag (stage ms tag) f) mended h))
    by_answer (Some error) is =
        with_words 0 0
        (subst (λ (r : Regs). HasWords r 0 0)
        (sym (executed-regs ms u put e (Some error) unqueued done is))
        (record { active_is = refl; issued_is = refl }))
        (no-bits tag _ in_all)

bits_accept : (o : Origin) (ms : List Moment) (u tag : ℕ) (put : Put) → u < 32 → tag < 32
    → Kept ms → failed ms ≡ None → stage ms u ≡ Issued put → BitsOf ms tag
    → BitsOf (Rattle.port_history.specs.Steps.moment o ms (steps.Accept u) ∷ ms) tag
bits_accept o ms u tag put lu lt k mended was h =
    subst (λ (m : Moment). BitsOf (m ∷ ms) tag) (sym (accept_is tcg o ms u put was))
    (by_kind (is_queued_command put.command) refl)
  where
    e : Effect
    e = accepted_effect tcg o ms u put

    by_effect : is_queued_command put.command ≡ true → IsHeldOrFailed u put.command e
        → BitsOf (accept_moment u put e ∷ ms) tag
    by_effect queued (IsHeld v made) =
        subst (λ (x : Effect). BitsOf (accept_moment u put x ∷ ms) tag) (sym made)
        (bits_held ms u tag put v lu lt mended was queued h)
    by_effect queued (IsFailed error denied made) =
        subst (λ (x : Effect). BitsOf (accept_moment u put x ∷ ms) tag) (sym made)
        (bits_failed ms u tag put error denied mended was queued h)

    by_kind : (b : Bool) → is_queued_command put.command ≡ b → BitsOf (accept_moment u put e ∷ ms) tag
    by_kind true queued = by_effect queued (queued_comes tcg tcg_for_ports o ms u put lu k mended was queued)
    by_kind false unqueued =
        bits_executed ms u tag put e lu lt k mended was unqueued
        (unqueued_comes tcg tcg_for_ports o ms u put lu k mended was unqueued) h

bits_complete : (o : Origin) (ms : List Moment) (u tag : ℕ) (put : Put) → u < 32 → tag < 32
    → Kept ms → failed ms ≡ None → stage ms u ≡ Accepted put → BitsOf ms tag
    → BitsOf (Rattle.port_history.specs.Steps.moment o ms (steps.Complete u) ∷ ms) tag
bits_complete o ms u tag put lu lt k mended was h =
    let e : Effect = completed_effect tcg o ms u in
    let regs : Regs = registers ms in
    let queued = (fit_accepted ms u put k was).queued in
    subst (λ (m : Moment). BitsOf (m ∷ ms) tag) (sym (complete_is tcg o ms u put was))
    (on-words (registers (complete_moment u put e ∷ ms)) (without regs.active (2 ^ u)) regs.issued
    tag (stage (complete_moment u put e ∷ ms) tag) (failed ms)
    (subst
    (λ (xs : List Fis). HasWords (all_shown u regs xs) (without regs.active (2 ^ u)) regs.issued)
    (sym (completion_is tcg o ms u put k mended was).fises) (completed-words u regs put.command queued))
    (subst
    (λ (s : Stage). AreBits (without regs.active (2 ^ u)) regs.issued tag s (failed ms))
    (moves (to Answered) u tag (stage ms) (Answered put) (ap (to Answered) was))
    (complete-bits regs.active regs.issued u tag put (stage ms) (failed ms) lu lt was h)))

bits : (o : Origin) (list : List Step) → IsLawful o list → (tag : ℕ) → tag < 32
    → BitsOf (trace o list) tag
bits o [] h tag lt = no-bits tag Free refl
bits o (steps.Put client u request ∷ before) h tag lt =
    let ms = trace o before in
    let t = none_holds (tests_of ms (steps.Put client u request)) h.1 in
    let free = free_is (stage ms u) t.1.1.0 in
    moved-bits (registers ms).active (registers ms).issued u tag (stage ms) (Prepared _) (failed ms)
    (ap is_active free) (ap is_issued free) (bits o before h.2 tag lt)
bits o (steps.Issue u ∷ before) h tag lt =
    let ms = trace o before in
    let t = none_holds (tests_of ms (steps.Issue u)) h.1 in
    let p = prepared_is (stage ms u) t.1.1.0 in
    bits_issue o ms u tag p.0 p.1 (bits o before h.2 tag lt)
bits o (steps.Accept u ∷ before) h tag lt =
    let ms = trace o before in
    let t = none_holds (tests_of ms (steps.Accept u)) h.1 in
    let p = issued_is (stage ms u) t.1.1.0 in
    bits_accept o ms u tag p.0 (ltb-true u 32 h.0) lt (kept tcg tcg_for_ports o before h.2)
    (none_is (failed ms) t.1.0) p.1 (bits o before h.2 tag lt)
bits o (steps.Complete u ∷ before) h tag lt =
    let ms = trace o before in
    let t = none_holds (tests_of ms (steps.Complete u)) h.1 in
    let p = accepted_is (stage ms u) t.1.1.0 in
    bits_complete o ms u tag p.0 (ltb-true u 32 h.0) lt (kept tcg tcg_for_ports o before h.2)
    (none_is (failed ms) t.1.0) p.1 (bits o before h.2 tag lt)
bits o (steps.Recover ∷ before) h tag lt =
    let ms = trace o before in
    let t = none_holds (tests_of ms steps.Recover) h.1 in
    let f = some_is (failed ms) (was_true _ t.1.0) in
    let x = found ms f.0 (kept tcg tcg_for_ports o before h.2) f.1 in
    subst (λ (m : Moment). BitsOf (m ∷ ms) tag) (sym (recover_is tcg tcg_for_ports o ms x.found x.failing))
    (no-bits tag (recovered (is_tag tag (failed ms)) (stage ms tag))
    (recovered_in (is_tag tag (failed ms)) (stage ms tag)))
bits o (steps.Reset client kind ∷ before) h tag lt =
    no-bits tag (stage_after_reset (stage (trace o before) tag)) (reset_in (stage (trace o before) tag))
bits o (steps.Take client u ∷ before) h tag lt =
    let ms = trace o before in
    let t = none_holds (tests_of ms (steps.Take client u)) h.1 in
    let p = answered_is (stage ms u) t.1.0 in
    moved-bits (registers ms).active (registers ms).issued u tag (stage ms) Free (failed ms)
    (ap is_active p.1) (ap is_issued p.1) (bits o before h.2 tag lt)

-- PxSACT and PxCI have exactly their tags.
pub register_law : RegisterLaw
register_law o list h tag lt =
    let b = bits o list h tag lt in
    record { active = b.of_active; issued = b.of_issued }
