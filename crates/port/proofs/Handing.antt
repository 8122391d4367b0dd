-- What a call that gives back what was built owes, by its private step.
use Rattle.std.proofs.Common.{◌≡◌, ℕ, ◌+◌, true, List, ◌∷◌, length, Result, Ok, Err, Option, None, sym, ap, ◌∙◌, subst}
use Rattle.std.specs.Prelude.{OnOk, IfOk}
use Rattle.history.specs.Opening.{Origin}
use Rattle.port_history.specs.declared.error.PortError.{PortError}
use Rattle.port_history.specs.declared.step.Step.{Step}
use Rattle.port_history.specs.Steps.{trace}
use Rattle.port_history.specs.Refusals.{refusal, refusal_with_room, has_slot}
use Rattle.port.specs.Agreement.{PortAgrees}
use Rattle.port_history.proofs.Tests.{with_room}
use Rattle.port.specs.Built.{BuiltRequest, IsGivenBack}
use Rattle.port.specs.State.{PortState, refusal_on}
use Rattle.port.proofs.Agreeing.{same_refusal, count_is}

pub given_back : (port : PortState) (o : Origin) (list : List Step) (step : Step) (built : BuiltRequest) (r : Result ℕ (PortError × BuiltRequest)) → has_slot step ≡ true → PortAgrees port o list
    → IsGivenBack (refusal_on port step) built r → IsGivenBack (refusal (trace o list) step) built r
given_back port o list step built r slot h told =
    subst (λ (x : Option PortError). IsGivenBack x built r) (same_refusal port o list step h slot) told

pub numbered_built : (r : Result ℕ (PortError × BuiltRequest)) (old : PortState) → IfOk r (λ n. n ≡ 1 + length old.history) → IfOk r (λ n. (o : Origin) (list : List Step) → PortAgrees old o list → n ≡ 1 + length (trace o list))
numbered_built (Ok n) old e = λ o list h. e ∙ ap (λ (k : ℕ). 1 + k) (count_is old o list h)
numbered_built (Err error) old e = tt

pub agrees_built : (Made : Type 0) (old new : PortState) (step : Step) (built : BuiltRequest) (r : Result ℕ (PortError × BuiltRequest)) → has_slot step ≡ true → IsGivenBack (refusal_on old step) built r → OnOk r Made
    → ((o : Origin) (list : List Step) → PortAgrees old o list → refusal_with_room (trace o list) step ≡ None → Made → PortAgrees new o (step ∷ list))
    → OnOk r ((o : Origin) (list : List Step) → PortAgrees old o list → PortAgrees new o (step ∷ list))
agrees_built Made old new step built (Ok a) slot told made keep = λ o list h. keep o list h (with_room (trace o list) step (sym (same_refusal old o list step h slot) ∙ told)) made
agrees_built Made old new step built (Err error) slot told made keep = tt
