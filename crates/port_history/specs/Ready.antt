-- The steps that the engine may do.
use Rattle.std.specs.Prelude.{ℕ, zero, suc, ◌+◌, ◌%◌, Bool, List, [], ◌∷◌, ◌++◌, length, slice_get, is_none, Option, Some, None, if◌then◌else◌}
use Rattle.history.specs.Opening.{Origin}
use Rattle.fis.specs.Tags.{slot_count}
use Rattle.port_history.specs.declared.step.EngineStep.{EngineStep}
use Rattle.port_history.specs.declared.step.EngineStep.TheVariants as engine
use Rattle.port_history.specs.declared.step.Step.{Step}
use Rattle.port_history.specs.declared.step.Step.TheVariants as steps
use Rattle.port_history.specs.Refusals.{refusal, refusal_with_room}
use Rattle.port_history.specs.Steps.{trace}

-- The steps of the tags below n that pass, rising.
unfoldable pub those : (ℕ → EngineStep) → (ℕ → Bool) → ℕ → List EngineStep
those step passes zero = []
those step passes (suc n) = those step passes n ++ (if passes n then step n ∷ [] else [])

-- All that may be done, by kind, then by tag.
abbrev pub ready_steps : (Step → Bool) → List EngineStep
ready_steps may =
    those engine.Issue (λ tag. may (steps.Issue tag)) slot_count
    ++ those engine.Accept (λ tag. may (steps.Accept tag)) slot_count
    ++ those engine.Complete (λ tag. may (steps.Complete tag)) slot_count
    ++ (if may steps.Recover then engine.Recover ∷ [] else [])

-- The lawful steps of the engine, after a list of steps.
abbrev pub engine_ready : Origin → List Step → List EngineStep
engine_ready o list = ready_steps (λ step. is_none (refusal (trace o list) step))

-- The same where the history has room for any number of steps.
abbrev pub engine_may : Origin → List Step → List EngineStep
engine_may o list = ready_steps (λ step. is_none (refusal_with_room (trace o list) step))

-- The one at a choice, modulo their number; none where there is none.
abbrev pub chosen : ℕ → List EngineStep → Option EngineStep
chosen choice allowed = slice_get allowed (choice % length allowed)

abbrev pub as_step : EngineStep → Step
as_step (engine.Issue tag) = steps.Issue tag
as_step (engine.Accept tag) = steps.Accept tag
as_step (engine.Complete tag) = steps.Complete tag
as_step engine.Recover = steps.Recover

-- The list with the step that the engine did, if it did one.
abbrev pub with_step : Option EngineStep → List Step → List Step
with_step None list = list
with_step (Some step) list = as_step step ∷ list

-- How many of the tags below n pass.
unfoldable pub count_passing : (ℕ → Bool) → ℕ → ℕ
count_passing passes zero = 0
count_passing passes (suc n) = count_passing passes n + (if passes n then 1 else 0)
