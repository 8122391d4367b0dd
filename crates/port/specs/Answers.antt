-- What a tag is answered, by its outcome and its buffer.
use Rattle.std.specs.Prelude.{ℕ, Bool, false, not, List, take, slice_index_or, Option, Some, None, unwrap_or, if◌then◌else◌}
use Rattle.slots.specs.Layout.{memory_part, buffer_place, buffer_size}
use Rattle.port_history.specs.declared.request.Answer.{Answer}
use Rattle.port_history.specs.declared.request.Answer.TheVariants as answers
use Rattle.port_history.specs.declared.stages.Stage.{Stage}
use Rattle.port_history.specs.declared.stages.Stage.TheVariants.{Free, Prepared, Issued}
use Rattle.port_history.specs.Stages.{is_queued_command}
use Rattle.port.specs.declared.outcome.Outcome.{Outcome}
use Rattle.port.specs.declared.outcome.Outcome.TheVariants.{Done, Failed, Reset}

-- The stage in a slot, and the outcome of its command.
abbrev pub stage_at : List Stage → ℕ → Stage
stage_at slots tag = slice_index_or slots tag Free

abbrev pub outcome_at : List (Option Outcome) → ℕ → Option Outcome
outcome_at outcomes tag = slice_index_or outcomes tag None

-- A command that is not queued, and waits or is issued, keeps back queued ones, whatever their numbers may be.
abbrev pub may_keep_back : Stage → Bool
may_keep_back (Prepared put) = not (is_queued_command put.command)
may_keep_back (Issued put) = not (is_queued_command put.command)
may_keep_back _ = false

-- The first bytes of a slot's buffer.
abbrev pub buffer_front : List ℕ → ℕ → ℕ → List ℕ
buffer_front memory tag n = take n (memory_part memory (buffer_place tag) buffer_size)

-- The answer that an outcome stands for: its data are in the slot's buffer.
abbrev pub answer_of : List ℕ → ℕ → Outcome → Answer
answer_of memory tag (Done n) = answers.Done (buffer_front memory tag n)
answer_of memory tag (Failed status error) = answers.Failed status error
answer_of memory tag Reset = answers.Reset

abbrev pub answer_in : List ℕ → ℕ → Option Outcome → Option Answer
answer_in memory tag None = None
answer_in memory tag (Some outcome) = Some (answer_of memory tag outcome)

-- What a client takes: no bytes where there is no outcome.
abbrev pub taken : List ℕ → ℕ → Option Outcome → Answer
taken memory tag outcome = answer_of memory tag (unwrap_or outcome (Done 0))

-- What is answered by a reset, and by a recovery.
abbrev pub outcome_after_reset : Bool → Option Outcome → Option Outcome
outcome_after_reset pending outcome = if pending then Some Reset else outcome

abbrev pub outcome_recovered : Bool → ℕ → ℕ → Option Outcome → Option Outcome
outcome_recovered fails status error outcome = if fails then Some (Failed status error) else outcome
