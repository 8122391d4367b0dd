-- What the lines of a port script do to their port, and what they print.
use Rattle.std.specs.Prelude.{◌≡◌, ℕ, ◌+◌, ◌*◌, false, if◌then◌else◌, List, [], ◌∷◌, length, replicate, Option, None, Some, Result, Ok, Err, unwrap_or}
use Rattle.std.specs.Str.{bytes_eq}
use Rattle.audit.specs.declared.reason.AuditLine.{AuditLine}
use Rattle.trusted_cmds.specs.Commands.{sector_size}
use Rattle.trusted_cmds.specs.declared.command.Command.{Command}
use Rattle.trusted_cmds.specs.declared.command.Command.TheVariants as commands
use Rattle.compacket.specs.Spelling.{frame_bytes}
use Rattle.history.specs.Opening.{Origin}
use Rattle.port_history.specs.Refusals.{refusal, refusal_number}
use Rattle.port_history.specs.Requests.{no_bytes}
use Rattle.port_history.specs.Stages.{put_at}
use Rattle.port_history.specs.Steps.{Effect as ActEffect, Moment, moment, trace, stage, answer, client_of}
use Rattle.port_history.specs.declared.error.PortError.{PortError}
use Rattle.port_history.specs.declared.error.PortError.TheVariants as errors
use Rattle.port_history.specs.declared.request.Answer.{Answer}
use Rattle.port_history.specs.declared.request.Answer.TheVariants as answers
use Rattle.port_history.specs.declared.request.Request.{Request}
use Rattle.port_history.specs.declared.request.Request.TheVariants as requests
use Rattle.port_history.specs.declared.stages.Put.{Put}
use Rattle.port_history.specs.declared.step.Step.{Step}
use Rattle.port_history.specs.declared.step.Step.TheVariants as steps
use Rattle.port.specs.Live.{LiveAgrees}
use Rattle.script_lines.specs.Texts.{Prints, done_text, data_text, hex_text, command_failure_text, refused_text, reset_text, audit_text, denial_lines}
use Rattle.script_lines.specs.Lines.{expected_text}
use Rattle.script_lines.specs.declared.port_line.PortLine as told
use Rattle.script_lines.specs.declared.port_line.PortLine.TheVariants as lines
use Rattle.script_lines.specs.declared.port_line.PutRequest.{PutRequest}
use Rattle.script_lines.specs.declared.port_line.PutRequest.TheVariants as asked
use Rattle.script_lines.specs.declared.report.Report.{Report}
use Rattle.drive_scripts.specs.Acts.{in_blocks, com_id_protocol, kind_named}
use Rattle.drive_scripts.specs.Effects.{shown_bytes}
use Rattle.drive_scripts.specs.declared.turn.Fault.TheVariants.{LateRange}
use Rattle.drive_scripts.specs.declared.turn.Turn.{Turn}
use Rattle.drive_scripts.specs.declared.turn.Turn.TheVariants.{Goes, ExpectationFailed, Bad}
use Rattle.port_scripts.specs.declared.port_phase.PortPhase.{PortPhase}

-- The steps so far, the newest first, and the lines that are printed.
pub record PortEffect : Type 0 where
  pub steps : List Step
  pub lines : List (List ℕ)

-- So many sectors whose bytes are all the same.
abbrev pub same_bytes : ℕ → ℕ → List ℕ
same_bytes count byte = replicate (sector_size * count) byte

-- The request that a `put` line asks: a count of 0 asks for no sector, which the port refuses.
abbrev pub request_of : PutRequest → Request
request_of (asked.Read lba count) = requests.Read lba count
request_of (asked.Write lba count byte) = requests.Write lba (same_bytes count byte)
request_of (asked.ReadDma lba count) = requests.ReadDma lba count
request_of (asked.WriteDma lba count byte) = requests.WriteDma lba (same_bytes count byte)
request_of (asked.Call com_id session tokens) =
    requests.Send com_id_protocol com_id (in_blocks (frame_bytes com_id session tokens))
request_of (asked.Send com_id packet) = requests.Send com_id_protocol com_id (in_blocks packet)
request_of (asked.Receive com_id blocks) = requests.Receive com_id_protocol com_id blocks
request_of (asked.SecurityIn protocol sp_specific blocks) =
    requests.Receive protocol sp_specific blocks
request_of (asked.SecurityOut protocol sp_specific payload) =
    requests.Send protocol sp_specific (in_blocks payload)
request_of asked.Identify = requests.Identify

-- A refusal is told by its number.
abbrev pub refused_lines : PortError → List (List ℕ)
refused_lines error = refused_text (refusal_number error) ∷ []

-- What is printed of the data of a command; of a slot without one, that it is done.
abbrev pub command_text : Command → List ℕ → List ℕ
command_text (commands.ReadQueued lba count) bytes = data_text bytes
command_text (commands.ReadDma lba count) bytes = data_text bytes
command_text (commands.Receive protocol com_id blocks dma) bytes =
    hex_text (shown_bytes protocol com_id bytes)
command_text commands.Identify bytes = hex_text bytes
command_text _ bytes = done_text

abbrev pub bytes_text : Option Put → List ℕ → List ℕ
bytes_text None bytes = done_text
bytes_text (Some put) bytes = command_text put.command bytes

-- What a client takes, by the command that was put.
abbrev pub taken_text : Option Put → Answer → List ℕ
taken_text put (answers.Done bytes) = bytes_text put bytes
taken_text put (answers.Failed status error) = command_failure_text status error
taken_text put answers.Reset = reset_text

-- What an acceptance prints behind its line: what denied the command, under the number of the step.
abbrev pub accepted_lines : ℕ → Option Put → Option ActEffect → List (List ℕ)
accepted_lines number served None = []
accepted_lines number served (Some e) = denial_lines number (client_of served) e.event.denied

-- What a step prints that is done.
abbrev pub step_lines : List Moment → Step → Moment → List (List ℕ)
step_lines before (steps.Take client tag) m =
    taken_text (put_at (stage before tag)) (unwrap_or (answer before tag) no_bytes) ∷ []
step_lines before (steps.Accept tag) m =
    done_text ∷ accepted_lines (1 + length before) m.served m.effect
step_lines before (steps.Put client tag request) m = done_text ∷ []
step_lines before (steps.Issue tag) m = done_text ∷ []
step_lines before (steps.Complete tag) m = done_text ∷ []
step_lines before steps.Recover m = done_text ∷ []
step_lines before (steps.Reset client kind) m = done_text ∷ []

-- A step that is refused changes nothing, and its refusal is printed.
abbrev pub stepped : Origin → List Step → Step → Option PortError → PortEffect
stepped o list step (Some error) = record {
  steps = list;
  lines = refused_lines error;
}
stepped o list step None = record {
  steps = step ∷ list;
  lines = step_lines (trace o list) step (moment o (trace o list) step);
}

abbrev pub step_effect : Origin → List Step → Step → PortEffect
step_effect o list step = stepped o list step (refusal (trace o list) step)

-- What a line does.
abbrev pub port_effect_of : Origin → List Step → told.PortLine → PortEffect
port_effect_of o list (lines.Put client tag request) =
    step_effect o list (steps.Put client tag (request_of request))
port_effect_of o list (lines.Issue tag) = step_effect o list (steps.Issue tag)
port_effect_of o list (lines.Accept tag) = step_effect o list (steps.Accept tag)
port_effect_of o list (lines.Complete tag) = step_effect o list (steps.Complete tag)
port_effect_of o list lines.Recover = step_effect o list steps.Recover
port_effect_of o list (lines.Reset client kind) =
    step_effect o list (steps.Reset client (kind_named kind))
port_effect_of o list (lines.Take client tag) = step_effect o list (steps.Take client tag)
port_effect_of o list lines.Expect = record { steps = list; lines = [] }
port_effect_of o list (lines.Range row) = record { steps = list; lines = [] }

-- The step that a line asks for, if it asks for one.
abbrev pub step_in : told.PortLine → Option Step
step_in (lines.Put client tag request) = Some (steps.Put client tag (request_of request))
step_in (lines.Issue tag) = Some (steps.Issue tag)
step_in (lines.Accept tag) = Some (steps.Accept tag)
step_in (lines.Complete tag) = Some (steps.Complete tag)
step_in lines.Recover = Some steps.Recover
step_in (lines.Reset client kind) = Some (steps.Reset client (kind_named kind))
step_in (lines.Take client tag) = Some (steps.Take client tag)
step_in lines.Expect = None
step_in (lines.Range row) = None

-- The port is as its origin and the steps leave it, and has made so many.
pub record PortRunsOn (phase : PortPhase) (o : Origin) (list : List Step) : Type 0 where
  pub stands : LiveAgrees phase.port o list
  pub made : phase.made ≡ length (trace o list)

-- A refusal is printed by its number, unless it is want of memory.
pub record PrintsError (error : PortError) (before after : Report) : Type 0 where
  pub told : error ≡ errors.OutOfMemory → ⊥
  pub prints : Prints before after (refused_lines error)

-- The line of the audit log that came, if one did.
abbrev pub audit_lines : Option AuditLine → List (List ℕ)
audit_lines None = []
audit_lines (Some line) = audit_text line ∷ []

-- A step that is done prints this one line.
abbrev pub PrintsStep : {A : Type 0} → (A → List ℕ) → Result A PortError → Report → Report
    → Type 0
PrintsStep text (Ok done) before after = Prints before after (text done ∷ [])
PrintsStep text (Err error) before after = PrintsError error before after

-- Why it was refused, if it was.
abbrev pub refusal_in : {A : Type 0} → Result A PortError → Option PortError
refusal_in (Ok done) = None
refusal_in (Err error) = Some error

-- How many steps were made behind one that answered its number.
abbrev pub made_by : ℕ → Result ℕ PortError → ℕ
made_by made (Ok number) = number
made_by made (Err error) = made

-- The port has done the steps, and the lines are printed.
pub record PortHas (new : PortPhase) (o : Origin) (before after : Report)
    (effect : PortEffect) : Type 0 where
  pub runs : PortRunsOn new o effect.steps
  pub prints : Prints before after effect.lines

-- A step is made, or refused by this rule, on whatever origin and steps the port stands; that is printed, and the reason
-- of a refusal is told.
abbrev pub PortMakes : (List Moment → Step → Option PortError) → Step → PortPhase → PortPhase
    → Report → Report → Option PortError → Type 0
PortMakes rule step old new before after reason =
    (o : Origin) (list : List Step) → PortRunsOn old o list
    → PortHas new o before after (stepped o list step (rule (trace o list) step))
    × (reason ≡ rule (trace o list) step)

-- How the script goes on behind a line that asks for no step: a range line comes too late, and an expectation is held against
-- the last printed line.
abbrev pub turn_without : told.PortLine → List ℕ → List ℕ → Turn
turn_without (lines.Range row) last text = Bad LateRange
turn_without line last text =
    if bytes_eq last (expected_text text) then Goes false else ExpectationFailed

-- What a line does, and how the script goes on. An expectation is held against the last printed
-- line; a range line comes too late.
abbrev pub PortDoes : told.PortLine → List ℕ → Turn → PortPhase → PortPhase → Origin → List Step
    → Report → Report → Type 0
PortDoes lines.Expect text turn old new o list before after =
    (new ≡ old) × (after ≡ before)
    × (turn
    ≡ (if bytes_eq before.last.items (expected_text text) then Goes false else ExpectationFailed))
PortDoes (lines.Range row) text turn old new o list before after =
    (new ≡ old) × (after ≡ before) × (turn ≡ Bad LateRange)
PortDoes line text turn old new o list before after =
    PortHas new o before after (port_effect_of o list line) × (turn ≡ Goes false)
