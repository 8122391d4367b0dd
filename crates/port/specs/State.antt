-- What contracts see of a port, and what each step makes of it.
use Rattle.std.specs.Prelude.{◌≡◌, ℕ, ◌+◌, ◌++◌, ◌∷◌, ◌≤◌, ◌<◌, ◌==◌, ◌&&◌, ◌%◌, Bool, true, false, not, nat_lt, List, [], length, reverse, slice_index, slice_set, is_some, option_to_list, Option, Some, None, if◌then◌else◌}
use Rattle.audit.specs.declared.reason.AuditLine.{AuditLine}
use Rattle.audit.specs.declared.rules.rule.Rule.{Rule}
use Rattle.fis.specs.H2d.{h2d_at}
use Rattle.fis.specs.Tags.{slot_count}
use Rattle.fis.specs.declared.any.Fis.{Fis}
use Rattle.hba_regs.specs.Registers.{Regs, start_registers}
use Rattle.history.specs.Answers.{payload_of as fis_payload, errored as failed_status, expected}
use Rattle.history.specs.Facts.{facts}
use Rattle.history.specs.History.{Act, Accept as AcceptFis, Complete as CompleteTag, Reset as ResetDrive, log, event}
use Rattle.history.specs.Opening.{Origin}
use Rattle.history.specs.Readers.{held}
use Rattle.drive.specs.Answers.{IsAnswer, IsCompletion, fises_in, fises_done}
use Rattle.drive.specs.Queue.{held_at}
use Rattle.drive.specs.State.{DriveState, Agrees as DriveAgrees}
use Rattle.drive.specs.declared.answer.Accepted.{Accepted as DriveAccepted}
use Rattle.drive.specs.declared.answer.Completed.{Completed as DriveCompleted}
use Rattle.history.specs.Resets.{reset_kind_number}
use Rattle.history.specs.declared.reset.ResetKind.{ResetKind}
use Rattle.slots.specs.Layout.{buffer_size}
use Rattle.port_history.specs.Refusals.{most_steps, refusal_by}
use Rattle.port_history.specs.Registers.{all_shown, restarted, restarted_if, reset_regs, with_issue}
use Rattle.port_history.specs.Requests.{request_command, request_payload, log_fis, no_bytes}
use Rattle.port_history.specs.Stages.{is_queued_command, is_pending, accepted_stage, recovered, stage_after_reset}
use Rattle.history.specs.Audit.{line_for}
use Rattle.port_history.specs.Steps.{put_of, is_tag}
use Rattle.port_history.specs.declared.error.PortError.{PortError}
use Rattle.port_history.specs.declared.request.Request.{Request}
use Rattle.port_history.specs.declared.stages.Put.{Put}
use Rattle.port_history.specs.declared.stages.Stage.{Stage}
use Rattle.port_history.specs.declared.stages.Stage.TheVariants.{Free, Prepared, Issued, Accepted, Answered}
use Rattle.port_history.specs.declared.step.Entry.{Entry}
use Rattle.port_history.specs.declared.step.Step.{Step}
use Rattle.port_history.specs.declared.step.Step.TheVariants as steps
use Rattle.port.specs.Answers.{stage_at, outcome_at, buffer_front, taken, outcome_after_reset, outcome_recovered}
use Rattle.port.specs.Host.{IsLaid, IsReceived, AreSameButSlot, AreSameButReceived, AreSameButDone}
use Rattle.port.specs.declared.outcome.Outcome.{Outcome}
use Rattle.port.specs.declared.outcome.Outcome.TheVariants as outcomes

pub record PortState : Type 0 where
  pub drive : DriveState
  pub slots : List Stage
  pub outcomes : List (Option Outcome)
  pub failed : Option ℕ
  pub memory : List ℕ
  pub regs : Regs
  pub history : List Entry
  pub audit : List AuditLine
  pub rule : Option Rule

-- What a port has beside its history and its audit log, and how many steps it made.
pub record BareState : Type 0 where
  pub drive : DriveState
  pub slots : List Stage
  pub outcomes : List (Option Outcome)
  pub failed : Option ℕ
  pub memory : List ℕ
  pub regs : Regs
  pub count : ℕ
  pub rule : Option Rule

-- The port with a history and an audit log.
abbrev pub with_history : BareState → List Entry → List AuditLine → PortState
with_history bare history audit = record {
  drive = bare.drive;
  slots = bare.slots;
  outcomes = bare.outcomes;
  failed = bare.failed;
  memory = bare.memory;
  regs = bare.regs;
  history = history;
  audit = audit;
  rule = bare.rule;
}

-- A port that did nothing.
pub record IsFresh (port : PortState) (drive : DriveState) : Type 0 where
  pub its_drive : port.drive ≡ drive
  pub slots : length port.slots ≡ slot_count
  pub kept_outcomes : length port.outcomes ≡ slot_count
  pub stages : (tag : ℕ) → stage_at port.slots tag ≡ Free
  pub outcomes : (tag : ℕ) → outcome_at port.outcomes tag ≡ None
  pub failed : port.failed ≡ None
  pub regs : port.regs ≡ start_registers
  pub history : port.history ≡ []
  pub audit : port.audit ≡ []
  pub rule : port.rule ≡ None

-- The history has no room.
abbrev pub is_history_full : PortState → Bool
is_history_full port = not (nat_lt (length port.history) most_steps)

-- Why a step is refused on a port that stands so, memory apart.
abbrev pub refusal_on : PortState → Step → Option PortError
refusal_on port step =
    refusal_by (is_history_full port) (is_some port.failed) (stage_at port.slots) step

-- The same where there is room for a step.
abbrev pub refusal_on_bare : BareState → Step → Option PortError
refusal_on_bare bare step = refusal_by false (is_some bare.failed) (stage_at bare.slots) step

-- What a step makes of a port, whatever history of as many steps it has, and whatever audit log; and the same with the
-- line of a denial, if there was one.
abbrev pub MakesBare : BareState → BareState → Entry → (PortState → PortState → Type 0) → Type 0
MakesBare old new entry made =
    (history : List Entry) (audit : List AuditLine) → length history ≡ old.count
    → made (with_history old history audit) (with_history new (history ++ entry ∷ []) audit)

abbrev pub MakesNoted : BareState → BareState → Entry → Option AuditLine
    → (PortState → PortState → Type 0) → Type 0
MakesNoted old new entry line made =
    (history : List Entry) (audit : List AuditLine) → length history ≡ old.count
    → made (with_history old history audit)
    (with_history new (history ++ entry ∷ []) (audit ++ option_to_list line))

-- The entry of a step that replies no bytes.
abbrev pub entry_of : Step → Entry
entry_of step = record { step = step; reply = no_bytes }

-- The entry of a Take: what it took is the outcome of the slot.
abbrev pub taken_entry : ℕ → ℕ → List ℕ → Option Outcome → Entry
taken_entry client tag memory outcome =
    record { step = steps.Take client tag; reply = taken memory tag outcome }

-- The FISes are received, behind those of any list.
abbrev pub Receives : List ℕ → List ℕ → List Fis → Type 0
Receives old new fises =
    (sent : List Fis) → IsReceived old sent → IsReceived new (reverse fises ++ sent)

pub record IsPut (old new : PortState) (client tag : ℕ) (request : Request) : Type 0 where
  pub drive : new.drive ≡ old.drive
  pub slots : new.slots
      ≡ slice_set old.slots tag (Prepared (put_of (1 + length old.history) client request))
  pub outcomes : new.outcomes ≡ slice_set old.outcomes tag None
  pub failed : new.failed ≡ old.failed
  pub laid : IsLaid new.memory tag (request_command request) (request_payload request)
  pub elsewhere : AreSameButSlot old.memory new.memory tag
  pub regs : new.regs ≡ old.regs
  pub history : new.history ≡ old.history ++ entry_of (steps.Put client tag request) ∷ []
  pub audit : new.audit ≡ old.audit
  pub rule : new.rule ≡ old.rule

pub record IsIssued (old new : PortState) (tag : ℕ) : Type 0 where
  pub put : Put
  pub was : stage_at old.slots tag ≡ Prepared put
  pub drive : new.drive ≡ old.drive
  pub slots : new.slots ≡ slice_set old.slots tag (Issued put)
  pub outcomes : new.outcomes ≡ old.outcomes
  pub failed : new.failed ≡ old.failed
  pub memory : new.memory ≡ old.memory
  pub regs : new.regs ≡ with_issue tag (is_queued_command put.command) old.regs
  pub history : new.history ≡ old.history ++ entry_of (steps.Issue tag) ∷ []
  pub audit : new.audit ≡ old.audit
  pub rule : new.rule ≡ old.rule

-- The drive did an act, and said this of it.
pub record Took (old new : DriveState) (fis payload : List ℕ)
    (answer : DriveAccepted) : Type 0 where
  pub drive : (o : Origin) (acts : List Act) → DriveAgrees old o acts
      → DriveAgrees new o (AcceptFis fis payload ∷ acts)
  pub answers : (o : Origin) (acts : List Act) → DriveAgrees old o acts
      → IsAnswer (facts o (log o acts)) (h2d_at fis)
      (event o (log o acts) (AcceptFis fis payload)) answer

-- The status has ERR.
abbrev pub has_error_status : DriveAccepted → Bool
has_error_status answer = answer.status == failed_status

-- A queued command that fails is the port's failure.
abbrev pub failed_then : Bool → Bool → ℕ → Option ℕ → Option ℕ
failed_then queued has_error_status tag before = if queued && has_error_status then Some tag
    else before

-- What is executed whole is answered: it failed, or is done with so many bytes.
abbrev pub executed_outcome : Bool → ℕ → ℕ → ℕ → Outcome
executed_outcome has_error_status status error n =
    if has_error_status then outcomes.Failed status error else outcomes.Done n

-- The data of what is executed whole stand in the slot's buffer; a queued command's buffer stays.
pub record IsFilled (old new : List ℕ) (tag : ℕ) (queued : Bool)
    (given bytes : List ℕ) : Type 0 where
  pub whole : length given ≤ buffer_size → bytes ≡ given
  pub filled : queued ≡ false → buffer_front new tag (length bytes) ≡ bytes
  pub kept : queued ≡ true → AreSameButReceived old new
  pub elsewhere : AreSameButDone old new tag

abbrev pub outcome_then : Bool → DriveAccepted → ℕ → Option Outcome → Option Outcome
outcome_then queued answer n before =
    if queued then before else Some (executed_outcome
    (has_error_status answer) answer.status answer.error n)

pub record IsAccepted (old new : PortState) (tag : ℕ) (fis : List ℕ) : Type 0 where
  pub put : Put
  pub was : stage_at old.slots tag ≡ Issued put
  pub answer : DriveAccepted
  pub bytes : List ℕ
  pub took : Took old.drive new.drive fis
      (buffer_front old.memory tag (fis_payload old.drive.tper.store.config fis)) answer
  pub memory : IsFilled old.memory new.memory tag
      (is_queued_command put.command) answer.bytes.items bytes
  pub received : Receives old.memory new.memory (fises_in answer)
  pub slots : new.slots ≡ slice_set old.slots tag (accepted_stage put)
  pub outcomes : new.outcomes
      ≡ slice_set old.outcomes tag
      (outcome_then (is_queued_command put.command) answer (length bytes)
      (outcome_at old.outcomes tag))
  pub failed : new.failed
      ≡ failed_then (is_queued_command put.command) (has_error_status answer) tag old.failed
  pub regs : new.regs
      ≡ restarted_if (not (is_queued_command put.command) && has_error_status answer)
      (all_shown tag old.regs (fises_in answer))
  pub history : new.history ≡ old.history ++ entry_of (steps.Accept tag) ∷ []
  pub audit : new.audit
      ≡ old.audit ++ line_for (1 + length old.history) put.client answer.denied
  pub rule : new.rule ≡ answer.rule

pub record IsCompleted (old new : PortState) (tag : ℕ) : Type 0 where
  pub put : Put
  pub was : stage_at old.slots tag ≡ Accepted put
  pub done : DriveCompleted
  pub bytes : List ℕ
  pub drive : (o : Origin) (acts : List Act) → DriveAgrees old.drive o acts
      → DriveAgrees new.drive o
      (CompleteTag tag (buffer_front old.memory tag (expected (held_at old.drive.queue tag)))
      ∷ acts)
  pub answers : (o : Origin) (acts : List Act) → DriveAgrees old.drive o acts
      → IsCompletion (facts o (log o acts)) tag (held (log o acts) tag) done
  pub memory : IsFilled old.memory new.memory tag false done.bytes.items bytes
  pub received : Receives old.memory new.memory (fises_done done)
  pub slots : new.slots ≡ slice_set old.slots tag (Answered put)
  pub outcomes : new.outcomes ≡ slice_set old.outcomes tag (Some (outcomes.Done (length bytes)))
  pub failed : new.failed ≡ old.failed
  pub regs : new.regs ≡ all_shown tag old.regs (fises_done done)
  pub history : new.history ≡ old.history ++ entry_of (steps.Complete tag) ∷ []
  pub audit : new.audit ≡ old.audit
  pub rule : new.rule ≡ old.rule

-- The tag that a log page names: bits 4 to 0 of its first byte, where bit 7 is clear (ACS-3, NCQ Command Error log).
-- Behind it stand the status and the error.
abbrev pub named_in : List ℕ → Option ℕ
named_in page =
    if nat_lt (slice_index page 0) 0x80 then Some (slice_index page 0 % 32) else None

pub record IsRecovered (old new : PortState) : Type 0 where
  pub answer : DriveAccepted
  pub was : is_some old.failed ≡ true
  pub took : Took old.drive new.drive log_fis [] answer
  pub count : length new.slots ≡ slot_count
  pub count_outcomes : length new.outcomes ≡ slot_count
  pub slots : (t : ℕ) → t < slot_count → stage_at new.slots t
      ≡ recovered (is_tag t (named_in answer.bytes.items)) (stage_at old.slots t)
  pub outcomes : (t : ℕ) → t < slot_count → outcome_at new.outcomes t
      ≡ outcome_recovered (is_tag t (named_in answer.bytes.items))
      (slice_index answer.bytes.items 2) (slice_index answer.bytes.items 3)
      (outcome_at old.outcomes t)
  pub failed : new.failed ≡ None
  pub elsewhere : AreSameButReceived old.memory new.memory
  pub received : Receives old.memory new.memory (fises_in answer)
  pub regs : new.regs ≡ all_shown 0 (restarted old.regs) (fises_in answer)
  pub history : new.history ≡ old.history ++ entry_of steps.Recover ∷ []
  pub audit : new.audit ≡ old.audit
  pub rule : new.rule ≡ old.rule

pub record IsReset (old new : PortState) (client : ℕ) (kind : ResetKind) : Type 0 where
  pub drive : (o : Origin) (acts : List Act) → DriveAgrees old.drive o acts
      → DriveAgrees new.drive o (ResetDrive (reset_kind_number kind) ∷ acts)
  pub count : length new.slots ≡ slot_count
  pub count_outcomes : length new.outcomes ≡ slot_count
  pub slots : (t : ℕ) → t < slot_count → stage_at new.slots t ≡ stage_after_reset
      (stage_at old.slots t)
  pub outcomes : (t : ℕ) → t < slot_count → outcome_at new.outcomes t
      ≡ outcome_after_reset (is_pending (stage_at old.slots t)) (outcome_at old.outcomes t)
  pub failed : new.failed ≡ None
  pub memory : new.memory ≡ old.memory
  pub regs : new.regs ≡ reset_regs old.regs
  pub history : new.history ≡ old.history ++ entry_of (steps.Reset client kind) ∷ []
  pub audit : new.audit ≡ old.audit
  pub rule : new.rule ≡ old.rule

pub record IsTaken (old new : PortState) (client tag : ℕ) : Type 0 where
  pub drive : new.drive ≡ old.drive
  pub slots : new.slots ≡ slice_set old.slots tag Free
  pub outcomes : new.outcomes ≡ slice_set old.outcomes tag None
  pub failed : new.failed ≡ old.failed
  pub memory : new.memory ≡ old.memory
  pub regs : new.regs ≡ old.regs
  pub history : new.history
      ≡ old.history ++ taken_entry client tag old.memory (outcome_at old.outcomes tag) ∷ []
  pub audit : new.audit ≡ old.audit
  pub rule : new.rule ≡ old.rule

-- The drive holds a command under the tag, whose data the buffer has room for.
pub record IsReady (drive : DriveState) (tag : ℕ) : Type 0 where
  pub o : Origin
  pub acts : List Act
  pub stands : DriveAgrees drive o acts
  pub holds : held (log o acts) tag ≡ None → ⊥
  pub fits : expected (held_at drive.queue tag) ≤ buffer_size
