-- What a call of the port owes, by its private step.
use Rattle.port_history.proofs.Acted.{tcg_for_ports}
use Rattle.port_history.proofs.Tests.{with_room}
use Rattle.std.proofs.Common.{◌≡◌, ℕ, ◌+◌, true, List, ◌∷◌, length, Result, Ok, Err, Option, None, sym, ap, ◌∙◌, subst}
use Rattle.std.specs.Prelude.{OnOk, IfOk, is_ok, is_none, unwrap_or, Some, ◌<◌}
use Rattle.std.specs.Result.{result_err}
use Rattle.port_history.specs.declared.request.Answer.{Answer}
use Rattle.port.specs.Answers.{outcome_at}
use Rattle.port_history.specs.Requests.{no_bytes}
use Rattle.history.specs.Opening.{Origin}
use Rattle.port_history.specs.declared.error.PortError.{PortError}
use Rattle.port_history.specs.declared.step.Step.{Step}
use Rattle.port_history.specs.Steps.{trace, answer}
use Rattle.port_history.specs.Refusals.{refusal, refusal_with_room, has_slot, IsRefusedBy, IsTold}
use Rattle.history.specs.Tcg.{tcg}
use Rattle.port.specs.State.{PortState, refusal_on}
use Rattle.port.specs.Answers.{taken}
use Rattle.port.specs.Agreement.{PortAgrees}
use Rattle.port.proofs.Agreeing.{same_refusal, count_is, taken_answer}
use Rattle.headline.specs.Transfers.{IsServedAnswer}
use Rattle.headline.proofs.TransferLaws.{taken_law}

pub refused_call : {A : Type 0} (port : PortState) (o : Origin) (list : List Step) (step : Step) (r : Result A PortError) → has_slot step ≡ true → PortAgrees port o list → IsRefusedBy (refusal_on port step) r → IsRefusedBy (refusal (trace o list) step) r
refused_call port o list step r slot h told = subst (λ (x : Option PortError). IsRefusedBy x r) (same_refusal port o list step h slot) told

pub numbered : (r : Result ℕ PortError) (old : PortState) → IfOk r (λ n. n ≡ 1 + length old.history) → IfOk r (λ n. (o : Origin) (list : List Step) → PortAgrees old o list → n ≡ 1 + length (trace o list))
numbered (Ok n) old e = λ o list h. e ∙ ap (λ (k : ℕ). 1 + k) (count_is old o list h)
numbered (Err error) old e = tt

pub agrees_call : {A : Type 0} (Made : Type 0) (old new : PortState) (step : Step) (r : Result A PortError) → has_slot step ≡ true → IsRefusedBy (refusal_on old step) r → OnOk r Made
    → ((o : Origin) (list : List Step) → PortAgrees old o list → refusal_with_room (trace o list) step ≡ None → Made → PortAgrees new o (step ∷ list))
    → OnOk r ((o : Origin) (list : List Step) → PortAgrees old o list → PortAgrees new o (step ∷ list))
agrees_call Made old new step (Ok a) slot told made keep = λ o list h. keep o list h (with_room (trace o list) step (sym (same_refusal old o list step h slot) ∙ told)) made
agrees_call Made old new step (Err error) slot told made keep = tt

pub answered_call : (r : Result (ℕ × Answer) PortError) (old : PortState) (tag : ℕ) → tag < 32 → IfOk r (λ x. (x.0 ≡ 1 + length old.history) × (x.1 ≡ taken old.memory tag (outcome_at old.outcomes tag)))
    → IfOk r (λ x. (o : Origin) (list : List Step) → PortAgrees old o list → (x.0 ≡ 1 + length (trace o list)) × (x.1 ≡ unwrap_or (answer (trace o list) tag) no_bytes))
answered_call (Ok x) old tag lt e = λ o list h. (e.0 ∙ ap (λ (k : ℕ). 1 + k) (count_is old o list h), e.1 ∙ taken_answer old o list tag lt h)
answered_call (Err error) old tag lt e = tt

-- and so it is served where it is allowed
pub served_call : (r : Result (ℕ × Answer) PortError) (old : PortState) (tag : ℕ)
    → IfOk r (λ x. (o : Origin) (list : List Step) → PortAgrees old o list → (x.0 ≡ 1 + length (trace o list)) × (x.1 ≡ unwrap_or (answer (trace o list) tag) no_bytes))
    → IfOk r (λ x. (o : Origin) (list : List Step) → PortAgrees old o list → IsServedAnswer tcg o list tag x.1)
served_call (Ok x) old tag e = λ o list h.
    subst (IsServedAnswer tcg o list tag) (sym (e o list h).1) (taken_law tcg tcg_for_ports o list tag h.lawful)
served_call (Err error) old tag e = tt

-- the same where the private step tells its refusals of a port that agrees
pub agrees_where : {A : Type 0} (Made : Type 0) (old new : PortState) (step : Step) (r : Result A PortError) → has_slot step ≡ true → ((o : Origin) (list : List Step) → PortAgrees old o list → IsRefusedBy (refusal_on old step) r) → OnOk r Made
    → ((o : Origin) (list : List Step) → PortAgrees old o list → refusal_with_room (trace o list) step ≡ None → Made → PortAgrees new o (step ∷ list))
    → OnOk r ((o : Origin) (list : List Step) → PortAgrees old o list → PortAgrees new o (step ∷ list))
agrees_where Made old new step (Ok a) slot told made keep = λ o list h. keep o list h (with_room (trace o list) step (sym (same_refusal old o list step h slot) ∙ told o list h)) made
agrees_where Made old new step (Err error) slot told made keep = tt

pub told_is : {A : Type 0} (r : Result A PortError) (refused : Option PortError) → IsTold refused r → is_ok r ≡ is_none refused
told_is (Ok a) refused e = sym (ap is_none e)
told_is (Err error) refused e = sym (ap is_none e)

pub error_is : {A : Type 0} (r : Result A PortError) (refused : Option PortError) → IsTold refused r → result_err r ≡ refused
error_is (Ok a) refused e = sym e
error_is (Err error) refused e = sym e
