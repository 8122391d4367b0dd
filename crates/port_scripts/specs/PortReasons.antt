-- What is told of a step of a port that is refused, or whose command is: the error in words and how far the command of the
-- slot has come; or of the command what is told of it on a drive, with the step in place of the act. The texts are this
-- program's own:
--   because the slot is not free: slot 3 is issued, put by client 2 in step 4
--   because the port has not failed
use Rattle.std.specs.Prelude.{◌≡◌, ℕ, List, [], ◌∷◌, ◌++◌, length, slice_index, Option, None, Some, Ok, codes, decimal}
use Rattle.fis.specs.Types.{h2d_type}
use Rattle.slots.specs.Fetch.{fetched}
use Rattle.slots.specs.declared.fetched.Fetched.{Fetched}
use Rattle.history.specs.Answers.{payload_of}
use Rattle.history.specs.History.{Accept}
use Rattle.port.specs.Answers.{buffer_front}
use Rattle.port.specs.State.{BareState}
use Rattle.audit.specs.declared.reason.Why.{Why}
use Rattle.audit.specs.declared.reason.AuditLine.{AuditLine}
use Rattle.history.specs.Opening.{Origin}
use Rattle.port_history.specs.Refusals.{refusal}
use Rattle.port_history.specs.Steps.{Effect as ActEffect, Moment, moment, trace, act_of, acts, audit, stage, accepted_rule}
use Rattle.port_history.specs.declared.step.Step.{Step}
use Rattle.port_history.specs.declared.step.Step.TheVariants as steps
use Rattle.reasons.specs.Onsets.{cause_at, cause_of}
use Rattle.reasons.specs.declared.explained.onset.Counted.TheVariants.{Steps}
use Rattle.script_lines.specs.declared.report.Report.{Report}
use Rattle.drive_scripts.specs.Explanations.{denial_text}
use Rattle.drive_scripts.specs.Kept.{KeptReasons, RecountsAll}
use Rattle.port_scripts.specs.PortActs.{LinedStep, bare_steps, slot_of, put_named, command_put, steps_done, act_payload}
use Rattle.port_scripts.specs.declared.ahead.Ahead.{Ahead}
use Rattle.port_scripts.specs.declared.ahead.Brought.{Brought}
use Rattle.port_history.specs.Stages.{put_at}
use Rattle.port_history.specs.declared.error.PortError.{PortError}
use Rattle.port_history.specs.declared.error.PortError.TheVariants as errors
use Rattle.port_history.specs.declared.stages.Put.{Put}
use Rattle.port_history.specs.declared.stages.Stage.{Stage}
use Rattle.port_history.specs.declared.stages.Stage.TheVariants as stages

abbrev pub error_words : PortError → List ℕ
error_words errors.SlotBusy = codes "the slot is not free"
error_words errors.NotPrepared = codes "the slot has no prepared command"
error_words errors.Queue = codes "queued and unqueued commands would mix"
error_words errors.NotIssued = codes "the slot has no issued command"
error_words errors.NotAccepted = codes "the slot has no accepted command"
error_words errors.NotFailed = codes "the port has not failed"
error_words errors.Failed = codes "the port has failed, and waits for recover or reset"
error_words errors.NotAnswered = codes "the slot has no answer"
error_words errors.NotYours = codes "the answer is another client's"
error_words errors.Size = codes "no sector, too many, or data of another size"
error_words errors.HistoryFull = codes "the history has no room for another step"
error_words errors.OutOfMemory = codes "no memory"

-- how far the command of a slot has come
abbrev pub stage_words : Stage → List ℕ
stage_words stages.Free = codes "free"
stage_words (stages.Prepared put) = codes "prepared"
stage_words (stages.Issued put) = codes "issued"
stage_words (stages.Accepted put) = codes "accepted"
stage_words (stages.Answered put) = codes "answered"

-- words, and a number behind them
unfoldable pub labelled_number : List ℕ → ℕ → List ℕ
labelled_number words number = words ++ decimal number

-- who put the command, and in which step
unfoldable pub put_text : Option Put → List ℕ
put_text None = []
put_text (Some put) =
    labelled_number (codes ", put by client ") put.client
    ++ labelled_number (codes " in step ") put.number

-- the slot that a step names
unfoldable pub slot_text : ℕ → Stage → List ℕ
slot_text tag stage =
    labelled_number (codes ": slot ") tag ++ codes " is " ++ stage_words stage
    ++ put_text (put_at stage)

-- why a step was refused that names a slot, and one that names none, each with its line feed
unfoldable pub slot_refusal_text : PortError → ℕ → Stage → List ℕ
slot_refusal_text error tag stage =
    codes "because " ++ error_words error ++ slot_text tag stage ++ 10 ∷ []

unfoldable pub port_refusal_text : PortError → List ℕ
port_refusal_text error = codes "because " ++ error_words error ++ 10 ∷ []

-- why a step of a port that has come so far was refused
abbrev pub refused_at : List Moment → PortError → Option ℕ → List ℕ
refused_at ms error None = port_refusal_text error
refused_at ms error (Some tag) = slot_refusal_text error tag (stage ms tag)

abbrev pub step_refusal_text : List Moment → Step → PortError → List ℕ
step_refusal_text ms step error = refused_at ms error (slot_of step)

-- what denied a command, by its line of the audit log, if it has one
abbrev pub line_denial : Option AuditLine → Option Why
line_denial None = None
line_denial (Some line) = Some line.why

-- and by the effect of its acceptance
abbrev pub denied_in : Option ActEffect → Option Why
denied_in None = None
denied_in (Some effect) = effect.event.denied

-- what is told of the command of a slot that is accepted behind these steps, as on a drive: since which step what denied it
-- has been in force, and what would lift it, or else the rule, by what it asked for and by its bytes
abbrev pub accepted_text : Origin → List LinedStep → ℕ → List ℕ
accepted_text o past tag =
    denial_text Steps o (steps_done o past) (acts o (steps.Accept tag ∷ bare_steps past))
    (command_put (put_named (trace o (bare_steps past)) (steps.Accept tag)))
    (act_payload (act_of (trace o (bare_steps past)) (steps.Accept tag)))
    (denied_in (moment o (trace o (bare_steps past)) (steps.Accept tag)).effect)
    (accepted_rule (trace o (steps.Accept tag ∷ bare_steps past)))

-- what a run that tells reasons says behind a step: why it was refused, or the command that it accepted
abbrev pub reasons_by : Origin → List LinedStep → Step → Option PortError → List ℕ
reasons_by o past step (Some error) = step_refusal_text (trace o (bare_steps past)) step error
reasons_by o past (steps.Accept tag) None = accepted_text o past tag
reasons_by o past step None = []

abbrev pub step_reasons : Origin → List LinedStep → Option Step → List ℕ
step_reasons o past None = []
step_reasons o past (Some step) =
    reasons_by o past step (refusal (trace o (bare_steps past)) step)

-- the steps behind it: a step that is refused is none
abbrev pub steps_behind : List LinedStep → ℕ → Step → Option PortError → List LinedStep
steps_behind past line step (Some error) = past
steps_behind past line step None = record { step = step; line = line } ∷ past

abbrev pub steps_after : Origin → List LinedStep → ℕ → Option Step → List LinedStep
steps_after o past line None = past
steps_after o past line (Some step) =
    steps_behind past line step (refusal (trace o (bare_steps past)) step)

-- what a step brings to the drive: by what its act can bring something into force, and the bytes that come with it
pub record Brings (brought : Brought) (o : Origin) (list : List Step) (step : Step) : Type 0 where
  pub cause : brought.cause ≡ cause_at (act_of (trace o list) step)
  pub payload : brought.payload.items ≡ act_payload (act_of (trace o list) step)

-- the same by the command that a port fetches: its FIS, and as many bytes of the slot's buffer as it brings
abbrev pub BringsAccepted : BareState → ℕ → Brought → Type 0
BringsAccepted port tag brought =
    (f : Fetched) → fetched port.memory tag ≡ Ok f → slice_index f.fis 0 ≡ h2d_type
    → (brought.cause ≡ cause_of (Accept f.fis brought.payload.items))
    × (brought.payload.items
    ≡ buffer_front port.memory tag (payload_of port.drive.tper.store.config f.fis))

-- what is known of a step before it is done: the command of its slot, how many denials there were, and what it brings
pub record IsAhead (ahead : Ahead) (o : Origin) (past : List LinedStep) (step : Step) : Type 0 where
  pub put : ahead.put ≡ put_named (trace o (bare_steps past)) step
  pub place : ahead.place ≡ length (audit (trace o (bare_steps past)))
  pub brings : Brings ahead.brought o (bare_steps past) step

-- behind a step that was refused or not its reasons are told, and what is kept for them goes on
pub record ExplainsStep (o : Origin) (past : List LinedStep) (step : Step) (line : ℕ)
    (refused : Option PortError) (kept : KeptReasons) (before after : Report) : Type 0 where
  pub recounts : RecountsAll kept o (steps_done o (steps_behind past line step refused))
  pub pending : after.pending.items ≡ before.pending.items ++ reasons_by o past step refused
