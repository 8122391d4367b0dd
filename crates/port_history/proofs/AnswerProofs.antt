-- Each tag that is Answered has an answer.
use Rattle.std.proofs.Common.{◌≡◌, ◌∙◌, ℕ, ◌==◌, Bool, true, false, List, [], ◌∷◌, if◌then◌else◌, Option, Some, None, refl, sym, ap, subst, eqb-true}
use Rattle.std.specs.Prelude.{is_some, unwrap_or}
use Rattle.device_data.specs.declared.log_page.Failure.{Failure}
use Rattle.port_history.specs.declared.request.Answer.{Answer}
use Rattle.port_history.specs.declared.request.Answer.TheVariants as answers
use Rattle.port_history.specs.declared.stages.Put.{Put}
use Rattle.port_history.specs.declared.stages.Stage.{Stage}
use Rattle.port_history.specs.declared.stages.Stage.TheVariants.{Free, Prepared, Issued, Accepted, Answered}
use Rattle.port_history.specs.declared.step.Step.TheVariants as steps
use Rattle.port_history.specs.Stages.{is_queued_command, is_answered, is_pending, to, accepted_stage, recovered, stage_after_reset}
use Rattle.port_history.specs.Steps.{Effect, Moment, trace_of, stage, failed, is_tag, answer, executed_answer, recovered_answer}
use Rattle.port_history.specs.Laws.{AnswerLaw}
use Rattle.port_history.proofs.Tests.{some_is, was_true, none_holds, tests_of, issued_is}
use Rattle.port_history.proofs.KeptLaw.{kept, accept_is, accepted_effect, found}

-- one that moves to a stage without an answer
emptied : (b : Bool) (next s : Stage) (x : Option Answer) → is_answered next ≡ false
    → (is_answered s ≡ true → is_some x ≡ true) → is_answered (if b then next else s) ≡ true
    → is_some (unwrap_or (if b then Some None else None) x) ≡ true
emptied true next s x none had is = absurd (clash (sym is ∙ none))
  where
    clash : true ≡ false → ⊥
    clash e = cc
emptied false next s x none had is = had is

issued_unanswered : (s : Stage) → is_answered (to Issued s) ≡ false
issued_unanswered Free = refl
issued_unanswered (Prepared put) = refl
issued_unanswered (Issued put) = refl
issued_unanswered (Accepted put) = refl
issued_unanswered (Answered put) = refl

issued : (b : Bool) (s : Stage) (x : Option Answer)
    → (is_answered s ≡ true → is_some x ≡ true)
    → is_answered (if b then to Issued s else s) ≡ true → is_some x ≡ true
issued true s x had is = absurd (clash (sym is ∙ issued_unanswered s))
  where
    clash : true ≡ false → ⊥
    clash e = cc
issued false s x had is = had is

-- what an acceptance answers
accepted_here : (put : Put) (e : Effect) (b : Bool) → is_queued_command put.command ≡ b
    → (x : Option Answer)
    → is_answered (accepted_stage put) ≡ true
    → is_some (unwrap_or (if is_queued_command put.command then None else executed_answer (Some e)) x)
    ≡ true
accepted_here put e true queued x is =
    absurd (clash (sym is
    ∙ ap (λ (b : Bool). is_answered (if b then Accepted put else Answered put)) queued))
  where
    clash : true ≡ false → ⊥
    clash g = cc
accepted_here put e false unqueued x is =
    ap (λ (b : Bool). is_some (unwrap_or (if b then None else executed_answer (Some e)) x)) unqueued

accepted_other : (u tag : ℕ) (b : Bool) → (u == tag) ≡ b → (put : Put) (e : Effect) (s : Stage)
    → (u ≡ tag → s ≡ Issued put) → (x : Option Answer)
    → (is_answered s ≡ true → is_some x ≡ true)
    → is_answered (if b then to accepted_stage s else s) ≡ true
    → is_some (unwrap_or (if b then (if is_queued_command put.command then None
    else executed_answer (Some e)) else None) x)
    ≡ true
accepted_other u tag false at put e s was x had is = had is
accepted_other u tag true at put e s was x had is =
    accepted_here put e (is_queued_command put.command) refl x
    (sym (ap (λ (y : Stage). is_answered (to accepted_stage y)) (was (eqb-true u tag at))) ∙ is)

completed : (b : Bool) (next s : Stage) (bytes : List ℕ) (x : Option Answer)
    → (is_answered s ≡ true → is_some x ≡ true) → is_answered (if b then next else s) ≡ true
    → is_some (unwrap_or (if b then Some (Some (answers.Done bytes)) else None) x) ≡ true
completed true next s bytes x had is = refl
completed false next s bytes x had is = had is

still_answered : (s : Stage) → is_answered (recovered false s) ≡ true → is_answered s ≡ true
still_answered Free e = absurd cc
still_answered (Prepared put) e = absurd cc
still_answered (Issued put) e = absurd cc
still_answered (Accepted put) e = absurd cc
still_answered (Answered put) e = refl

recovered_one : (fails : Bool) (f : Failure) (s : Stage) (x : Option Answer)
    → (is_answered s ≡ true → is_some x ≡ true) → is_answered (recovered fails s) ≡ true
    → is_some (unwrap_or (if fails then recovered_answer (Some f) else None) x) ≡ true
recovered_one true f s x had is = refl
recovered_one false f s x had is = had (still_answered s is)

stopped : (s : Stage) (x : Option Answer) → (is_answered s ≡ true → is_some x ≡ true)
    → is_answered (stage_after_reset s) ≡ true
    → is_some (unwrap_or (if is_pending s then Some (Some answers.Reset) else None) x) ≡ true
stopped Free x had is = absurd cc
stopped (Prepared put) x had is = refl
stopped (Issued put) x had is = refl
stopped (Accepted put) x had is = refl
stopped (Answered put) x had is = had refl

abbrev HasAnswer : List Moment → ℕ → Type 0
HasAnswer ms tag = is_answered (stage ms tag) ≡ true → is_some (answer ms tag) ≡ true

-- Every tag that is Answered has an answer, whatever quiet items do.
pub answer_law : AnswerLaw
answer_law items still o [] h tag is = absurd cc
answer_law items still o (steps.Put client u request ∷ before) h tag is =
    let ms = trace_of items o before in
    emptied (u == tag) (Prepared _) (stage ms tag) (answer ms tag) refl
    (answer_law items still o before h.2 tag) is
answer_law items still o (steps.Issue u ∷ before) h tag is =
    let ms = trace_of items o before in
    issued (u == tag) (stage ms tag) (answer ms tag) (answer_law items still o before h.2 tag) is
answer_law items still o (steps.Accept u ∷ before) h tag is =
    let ms = trace_of items o before in
    let t = none_holds (tests_of ms (steps.Accept u)) h.1 in
    let p = issued_is (stage ms u) t.1.1.0 in
    subst (λ (m : Moment). HasAnswer (m ∷ ms) tag) (sym (accept_is items o ms u p.0 p.1))
    (accepted_other u tag (u == tag) refl p.0 (accepted_effect items o ms u p.0) (stage ms tag)
    (λ same. subst (λ (k : ℕ). stage ms k ≡ Issued p.0) same p.1) (answer ms tag)
    (answer_law items still o before h.2 tag)) is
answer_law items still o (steps.Complete u ∷ before) h tag is =
    let ms = trace_of items o before in
    completed (u == tag) _ (stage ms tag) _ (answer ms tag) (answer_law items still o before h.2 tag) is
answer_law items still o (steps.Recover ∷ before) h tag is =
    let ms = trace_of items o before in
    let t = none_holds (tests_of ms steps.Recover) h.1 in
    let f = some_is (failed ms) (was_true _ t.1.0) in
    let x = found ms f.0 (kept items still o before h.2) f.1 in
    subst
    (λ (y : Option Failure). is_some (unwrap_or (if is_tag tag (failed ms) then recovered_answer y
    else None) (answer ms tag)) ≡ true)
    (sym x.failing)
    (recovered_one (is_tag tag (failed ms)) x.found (stage ms tag) (answer ms tag)
    (answer_law items still o before h.2 tag) is)
answer_law items still o (steps.Reset client kind ∷ before) h tag is =
    let ms = trace_of items o before in
    stopped (stage ms tag) (answer ms tag) (answer_law items still o before h.2 tag) is
answer_law items still o (steps.Take client u ∷ before) h tag is =
    let ms = trace_of items o before in
    emptied (u == tag) Free (stage ms tag) (answer ms tag) refl (answer_law items still o before h.2 tag) is
