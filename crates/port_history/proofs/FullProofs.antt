-- Where the history is full, nothing is ready.
use Rattle.std.proofs.Common.{◌≡◌, ℕ, zero, suc, ◌≤◌, not, nat_lt, Bool, false, List, [], length, refl, ap, arith}
use Rattle.std.specs.Prelude.{is_none, is_some}
use Rattle.std.proofs.lemmas.Bool.Decides.{nat_tests}
use Rattle.fis.specs.Tags.{slot_count}
use Rattle.port_history.specs.declared.step.EngineStep.{EngineStep}
use Rattle.port_history.specs.declared.step.EngineStep.TheVariants as engine
use Rattle.port_history.specs.declared.step.Step.{Step}
use Rattle.port_history.specs.declared.step.Step.TheVariants as steps
use Rattle.port_history.specs.Steps.{Moment, trace, stage, failed}
use Rattle.port_history.specs.Refusals.{refusal, refusal_by, most_steps}
use Rattle.port_history.specs.Ready.{those, ready_steps, as_step}
use Rattle.port_history.specs.Laws.{FullLaw}

those_none : (step : ℕ → EngineStep) (p : ℕ → Bool) (n : ℕ) → ((t : ℕ) → p t ≡ false)
    → those step p n ≡ []
unfolding those
those_none step p zero none = refl
those_none step p (suc n) none = rw (those_none step p n none, none n) refl

-- Where no step may be done, none is ready.
pub none_ready : (may : Step → Bool) → ((step : EngineStep) → may (as_step step) ≡ false)
    → ready_steps may ≡ []
none_ready may none =
    rw (
      those_none engine.Issue (λ tag. may (steps.Issue tag)) slot_count
          (λ t. none (engine.Issue t)),
      those_none engine.Accept (λ tag. may (steps.Accept tag)) slot_count
          (λ t. none (engine.Accept t)),
      those_none engine.Complete (λ tag. may (steps.Complete tag)) slot_count
          (λ t. none (engine.Complete t)),
      none engine.Recover,
    ) refl

not_below : (n m : ℕ) → m ≤ n → nat_lt n m ≡ false
not_below n m le = grind (arith, nat_tests)

refused_full : (ms : List Moment) (step : EngineStep) → nat_lt (length ms) most_steps ≡ false
    → is_none (refusal ms (as_step step)) ≡ false
refused_full ms (engine.Issue tag) full =
    ap
    (λ (b : Bool). is_none (refusal_by (not b) (is_some (failed ms)) (stage ms) (steps.Issue tag)))
    full
refused_full ms (engine.Accept tag) full =
    ap
    (λ (b : Bool). is_none (refusal_by (not b) (is_some (failed ms)) (stage ms) (steps.Accept tag)))
    full
refused_full ms (engine.Complete tag) full =
    ap
    (λ (b : Bool). is_none (refusal_by (not b) (is_some (failed ms)) (stage ms)
    (steps.Complete tag)))
    full
refused_full ms engine.Recover full =
    ap
    (λ (b : Bool). is_none (refusal_by (not b) (is_some (failed ms)) (stage ms) steps.Recover))
    full

pub full_law : FullLaw
full_law o list full =
    none_ready (λ step. is_none (refusal (trace o list) step))
    (λ step. refused_full (trace o list) step (not_below (length (trace o list)) most_steps full))
