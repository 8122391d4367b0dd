-- When a port agrees with the origin of its drive and the list of its steps.
use Rattle.std.specs.Prelude.{◌≡◌, ℕ, ◌<◌, ◌+◌, List, ◌∷◌, length, reverse, take, slice_get, ◌++◌, Option, Some, Result, Err, IfOk, OnOk}
use Rattle.fis.specs.Tags.{slot_count}
use Rattle.history.specs.Opening.{Origin}
use Rattle.drive.specs.State.{Agrees as DriveAgrees}
use Rattle.port_history.specs.Refusals.{IsLawful, IsRefusedBy, refusal}
use Rattle.port_history.specs.Registers.{registers}
use Rattle.port_history.specs.Steps.{Moment, trace, acts, sent_fises, stage, failed, payload, answer, audit, accepted_rule, entries}
use Rattle.port_history.specs.declared.error.PortError.{PortError}
use Rattle.port_history.specs.declared.request.Answer.{Answer}
use Rattle.port_history.specs.declared.stages.Stage.{Stage}
use Rattle.port_history.specs.declared.stages.Stage.TheVariants.{Free, Prepared, Issued, Accepted, Answered}
use Rattle.port_history.specs.declared.step.Step.{Step}
use Rattle.port.specs.Answers.{answer_in, outcome_at, stage_at}
use Rattle.port.specs.Host.{IsLaid, IsReceived}
use Rattle.port.specs.State.{PortState}
use Rattle.port.specs.declared.outcome.Outcome.{Outcome}

abbrev pub IsLaidAt : List ℕ → ℕ → Stage → List ℕ → Type 0
IsLaidAt memory tag Free bytes = Unit {0}
IsLaidAt memory tag (Prepared put) bytes = IsLaid memory tag put.command bytes
IsLaidAt memory tag (Issued put) bytes = IsLaid memory tag put.command bytes
IsLaidAt memory tag (Accepted put) bytes = IsLaid memory tag put.command bytes
IsLaidAt memory tag (Answered put) bytes = Unit {0}

-- What a port has of a tag: its slot, its answer, and what the host's memory holds for it.
pub record TagStands (tag : ℕ) (memory : List ℕ) (slot : Stage) (outcome : Option Outcome)
    (its_stage : Stage) (its_answer : Option Answer) (bytes : List ℕ) : Type 0 where
  pub stands : slot ≡ its_stage
  pub answers : answer_in memory tag outcome ≡ its_answer
  pub laid : IsLaidAt memory tag its_stage bytes

abbrev pub TagAgrees : PortState → List Moment → ℕ → Type 0
TagAgrees port ms tag =
    TagStands tag port.memory (stage_at port.slots tag) (outcome_at port.outcomes tag)
    (stage ms tag) (answer ms tag) (payload ms tag)

-- The port stands as a lawful list of steps, the newest first, leaves it, part by part.
pub record PortAgrees (port : PortState) (o : Origin) (steps : List Step) : Type 0 where
  pub lawful : IsLawful o steps
  pub drive : DriveAgrees port.drive o (acts o steps)
  pub slots : length port.slots ≡ slot_count
  pub outcomes : length port.outcomes ≡ slot_count
  pub failure : port.failed ≡ failed (trace o steps)
  pub tags : (tag : ℕ) → tag < slot_count → TagAgrees port (trace o steps) tag
  pub regs : port.regs ≡ registers (trace o steps)
  pub received : IsReceived port.memory (sent_fises (trace o steps))
  pub history : port.history ≡ reverse (entries o steps)
  pub log : port.audit ≡ reverse (audit (trace o steps))
  pub rule : port.rule ≡ accepted_rule (trace o steps)

-- Of steps, the oldest first, those before a place are done, and the one there is refused.
pub record IsStopped (port : PortState) (o : Origin) (steps : List Step) (at : ℕ)
    (error : PortError)
    (list : List Step) : Type 0 where
  pub within : at < length steps
  pub before : PortAgrees port o (reverse (take at steps) ++ list)
  pub refused : (step : Step) → slice_get steps at ≡ Some step
      → IsRefusedBy {A = Unit {0}} (refusal (trace o (reverse (take at steps) ++ list)) step)
      (Err error)

-- What a call that makes a step promises, whatever steps it agrees with so far: where it is not
-- refused, the port agrees with one step more; the number that it gives is that of the step; and it
-- is refused as the rules say.

abbrev pub MakesStep : {A E : Type 0} → PortState → PortState → Step → Result A E → Type 0
MakesStep old new step result =
    OnOk result ((o : Origin) (list : List Step) → PortAgrees old o list
    → PortAgrees new o (step ∷ list))

abbrev pub NumbersStep : {E : Type 0} → PortState → Result ℕ E → Type 0
NumbersStep old result =
    IfOk result (λ n. (o : Origin) (list : List Step) → PortAgrees old o list
    → n ≡ 1 + length (trace o list))

abbrev pub RefusesStep : {A : Type 0} → PortState → Step → Result A PortError → Type 0
RefusesStep old step result =
    (o : Origin) (list : List Step) → PortAgrees old o list
    → IsRefusedBy (refusal (trace o list) step) result
