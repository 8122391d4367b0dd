-- What the lines of a script do to their drive, and what they print.
use Rattle.std.specs.Prelude.{◌≡◌, ℕ, ◌==◌, true, false, if◌then◌else◌, List, [], ◌∷◌, length, take, slice_range, ◌+◌, Option, None, Some, unwrap_or, is_some}
use Rattle.std.specs.Int.{w16, w32, from_be_bytes}
use Rattle.std.specs.Str.{bytes_eq}
use Rattle.fis.specs.H2d.{h2d_at}
use Rattle.trusted_cmds.specs.Commands.{reset_protocol, fis_of}
use Rattle.trusted_cmds.specs.declared.command.Command.{Command}
use Rattle.trusted_cmds.specs.declared.command.Command.TheVariants.{ReadDma, ReadPio, Receive, Identify, ReadLog10}
use Rattle.compacket.specs.Frames.{com_packet_size}
use Rattle.compacket.specs.Spelling.{frame_bytes}
use Rattle.history.specs.Opening.{Origin}
use Rattle.history.specs.Events.{Event}
use Rattle.history.specs.Facts.{facts}
use Rattle.history.specs.History.{Act, Accept, log, event}
use Rattle.history.specs.Readers.{held, failure}
use Rattle.history.specs.Answers.{errored as failed_status, status_of, is_holding, completed_data}
use Rattle.history.specs.Tcg.{answer_data}
use Rattle.history.specs.Decisions.{discovery_com_id}
use Rattle.drive.specs.State.{Agrees}
use Rattle.drive_scripts.specs.Explanations.{once_served}
use Rattle.drive.specs.Answers.{IsAnswer}
use Rattle.drive.specs.declared.answer.Accepted.{Accepted}
use Rattle.script_lines.specs.Texts.{Prints, done_text, data_text, hex_text, command_failure_text, denial_lines, refusal_lines}
use Rattle.script_lines.specs.Lines.{expected_text}
use Rattle.script_lines.specs.declared.line.Transfer.{Transfer}
use Rattle.script_lines.specs.declared.line.Reset.{Reset}
use Rattle.script_lines.specs.declared.report.Report.{Report}
use Rattle.script_lines.specs.declared.line.Line as told
use Rattle.script_lines.specs.declared.line.Line.TheVariants as lines
use Rattle.drive_scripts.specs.Acts.{accept_of, completion, step_of, read_of, write_of, read_dma_of, write_dma_of, write_bytes, com_id_protocol, block_count, in_blocks, sent_by, received_by, tper_reset, zero_block, act_of_reset}
use Rattle.drive_scripts.specs.declared.turn.Fault.TheVariants.{LateRange}
use Rattle.drive_scripts.specs.declared.turn.Turn.{Turn}
use Rattle.drive_scripts.specs.declared.turn.Turn.TheVariants.{Goes, ExpectationFailed, Bad}
use Rattle.drive_scripts.specs.declared.running.RunningPhase.{RunningPhase}

-- the acts so far, the newest first, and the lines that are printed
pub record LineEffect : Type 0 where
  pub acts : List Act
  pub lines : List (List ℕ)

-- the drive is as its origin and the acts leave it, and the acts are counted
abbrev pub RunsOn : RunningPhase → Origin → List Act → Type 0
RunsOn run o acts = Agrees run.drive o acts × (run.acts ≡ step_of acts)

-- there are an origin and acts that leave the drive so
abbrev pub IsReached : RunningPhase → Type 0
IsReached run = (o : Origin) × (acts : List Act) × RunsOn run o acts

-- the drive has done the acts, and the lines are printed
pub record Has (new : RunningPhase) (o : Origin) (before after : Report)
    (effect : LineEffect) : Type 0 where
  pub runs : RunsOn new o effect.acts
  pub prints : Prints before after effect.lines

-- an acceptance: one act more, and what the definitions answer to it
pub record Accepts (new : RunningPhase) (o : Origin) (acts : List Act) (command : Command) (tag : ℕ)
    (payload : List ℕ) (accepted : Accepted) : Type 0 where
  pub runs : RunsOn new o (accept_of command tag payload ∷ acts)
  pub answer : IsAnswer (facts o (log o acts)) (fis_of command tag)
      (event o (log o acts) (accept_of command tag payload)) accepted

-- what is held under a tag is completed, and its data are printed
abbrev pub completion_effect : Origin → List Act → ℕ → ℕ → LineEffect
completion_effect o acts tag byte = record {
  acts = completion (log o acts) tag byte ∷ acts;
  lines = data_text (completed_data (facts o (log o acts)) (held (log o acts) tag)) ∷ [];
}

-- a command failed: its failure is printed with what denied it, under the number of the act
abbrev pub failure_effect : List Act → ℕ → Event → LineEffect
failure_effect acts client made = record {
  acts = acts;
  lines =
      refusal_lines (step_of acts) client (status_of made.failed)
      (unwrap_or made.failed 0) made.denied;
}

-- a queued transfer is accepted, and completed where it is held
abbrev pub once_accepted : Origin → List Act → Transfer → ℕ → Event → LineEffect
once_accepted o acts transfer byte made =
    if is_holding made.deed then completion_effect o acts transfer.tag byte
    else failure_effect acts transfer.client made

abbrev pub transferred : Origin → List Act → Command → Transfer → ℕ → LineEffect
transferred o acts command transfer byte =
    once_accepted o (accept_of command transfer.tag [] ∷ acts) transfer byte
    (event o (log o acts) (accept_of command transfer.tag []))

-- the list of security protocols has its length in bytes 6 and 7, the high byte first (SPC-4)
abbrev pub protocol_list_size : List ℕ → ℕ
protocol_list_size bytes = 8 + from_be_bytes w16 (slice_range bytes 6 8)

-- certificate data have their length in bytes 2 and 3, the high byte first (SPC-4)
abbrev pub certificate_data_size : List ℕ → ℕ
certificate_data_size bytes = 4 + from_be_bytes w16 (slice_range bytes 2 4)

-- by security protocol 00h: SP Specific 0001h are the certificates, else it is the list
abbrev pub told_size : ℕ → List ℕ → ℕ
told_size sp_specific bytes =
    if sp_specific == 1 then certificate_data_size bytes else protocol_list_size bytes

-- Level 0 discovery has the length of what follows in its first four bytes, the highest byte first
-- (Core 2.01, section 3.3.6)
abbrev pub discovery_size : List ℕ → ℕ
discovery_size bytes = 4 + from_be_bytes w32 (slice_range bytes 0 4)

-- what is told of the stack of a ComID has its length in bytes 10 and 11, the high byte first (Core 2.01,
-- section 3.3.4.7)
abbrev pub stack_size : List ℕ → ℕ
stack_size bytes = 12 + from_be_bytes w16 (slice_range bytes 10 12)

-- what a receive shows: by security protocol 00h the list of protocols or the certificates, by 02h what
-- is told of the stack of a ComID, on the ComID of Level 0 discovery its bytes, else the header of the
-- ComPacket and the bytes that it counts
abbrev pub shown_bytes : ℕ → ℕ → List ℕ → List ℕ
shown_bytes protocol com_id bytes =
    if protocol == 0 then take (told_size com_id bytes) bytes
    else (if protocol == reset_protocol then take (stack_size bytes) bytes
    else (if com_id == discovery_com_id then take (discovery_size bytes) bytes
    else take (com_packet_size bytes) bytes))

-- what a command that was served prints of its data
abbrev pub served_text : Command → List ℕ → List ℕ
served_text (ReadDma lba count) bytes = data_text bytes
served_text (ReadPio lba count) bytes = data_text bytes
served_text (Receive protocol com_id blocks dma) bytes =
    hex_text (shown_bytes protocol com_id bytes)
served_text Identify bytes = hex_text bytes
served_text (ReadLog10 dma) bytes = hex_text bytes
served_text _ bytes = done_text

-- or that it failed
abbrev pub answer_text : Command → Option ℕ → List ℕ → List ℕ
answer_text command None bytes = served_text command bytes
answer_text command (Some error) bytes = command_failure_text (status_of (Some error)) error

-- the same by the fields of an answer
abbrev pub told_lines : ℕ → ℕ → Command → Accepted → List (List ℕ)
told_lines step client command accepted =
    (if accepted.status == failed_status then command_failure_text accepted.status accepted.error
    else served_text command accepted.bytes.items)
    ∷ denial_lines step client accepted.denied

-- an unqueued command is accepted, and what came of it is printed, with what denied it under the
-- number of the act
abbrev pub unqueued_effect : Origin → List Act → ℕ → Command → Act → Event → LineEffect
unqueued_effect o acts client command act made = record {
  acts = act ∷ acts;
  lines =
      answer_text command made.failed (answer_data (facts o (log o acts)) (fis_of command 0) made)
      ∷ denial_lines (step_of (act ∷ acts)) client made.denied;
}

abbrev pub command_effect : Origin → List Act → ℕ → Command → List ℕ → LineEffect
command_effect o acts client command payload =
    unqueued_effect o acts client command (accept_of command 0 payload)
    (event o (log o acts) (accept_of command 0 payload))

-- bytes are sent by a security protocol, or blocks are received by it
abbrev pub sends : Origin → List Act → ℕ → ℕ → ℕ → List ℕ → LineEffect
sends o acts client protocol sp_specific bytes =
    command_effect o acts client (sent_by protocol sp_specific (block_count (length bytes)))
    (in_blocks bytes)

abbrev pub receives : Origin → List Act → ℕ → ℕ → ℕ → ℕ → LineEffect
receives o acts client protocol sp_specific blocks =
    command_effect o acts client (received_by protocol sp_specific blocks) []

-- the drive is reset
abbrev pub reset_effect : List Act → Reset → LineEffect
reset_effect acts kind = record { acts = act_of_reset kind ∷ acts; lines = done_text ∷ [] }

-- what a line does
abbrev pub effect_of : Origin → List Act → told.Line → LineEffect
effect_of o acts (lines.Read transfer) = transferred o acts (read_of transfer) transfer 0
effect_of o acts (lines.Write transfer byte) = transferred o acts (write_of transfer) transfer byte
effect_of o acts (lines.ReadDma transfer) =
    command_effect o acts transfer.client (read_dma_of transfer) []
effect_of o acts (lines.WriteDma transfer byte) =
    command_effect o acts transfer.client (write_dma_of transfer) (write_bytes transfer byte)
effect_of o acts (lines.Call client com_id session tokens) =
    sends o acts client com_id_protocol com_id (frame_bytes com_id session tokens)
effect_of o acts (lines.Send client com_id packet) =
    sends o acts client com_id_protocol com_id packet
effect_of o acts (lines.Receive client com_id blocks) =
    receives o acts client com_id_protocol com_id blocks
effect_of o acts (lines.SecurityIn client protocol sp_specific blocks) =
    receives o acts client protocol sp_specific blocks
effect_of o acts (lines.SecurityOut client protocol sp_specific payload) =
    sends o acts client protocol sp_specific payload
effect_of o acts (lines.Identify client) = command_effect o acts client Identify []
effect_of o acts (lines.Log client) = command_effect o acts client (ReadLog10 true) []
effect_of o acts (lines.Reset client kind) = reset_effect acts kind
effect_of o acts (lines.TperReset client) = command_effect o acts client tper_reset zero_block
effect_of o acts lines.Expect = record { acts = acts; lines = [] }
effect_of o acts (lines.Range row) = record { acts = acts; lines = [] }

-- the FIS, the answer and the payload at hand are those of the command that these acts do: they are
-- its acceptance, and where it is held its completion
pub record Answered (run : RunningPhase) (o : Origin) (before after : List Act) : Type 0 where
  pub fis : List ℕ
  pub tag : ℕ
  pub bytes : List ℕ
  pub read : h2d_at fis ≡ run.header
  pub acts : after ≡ once_served run.completed fis run.payload.items tag bytes before
  pub denied : run.answer.denied
      ≡ (event o (log o before) (Accept fis run.payload.items)).denied
  pub rule : run.answer.rule ≡ (event o (log o before) (Accept fis run.payload.items)).rule

-- behind a command a script goes on; that the failed queue aborts it is told only where the queue
-- has failed
abbrev pub GoesTruly : Turn → List Event → Type 0
GoesTruly (Goes aborted) past = aborted ≡ true → is_some (failure past) ≡ true
GoesTruly ExpectationFailed past = ⊥
GoesTruly (Bad fault) past = ⊥

-- a command does this on whatever origin and acts the drive stands
abbrev pub Makes : (Origin → List Act → LineEffect) → RunningPhase → RunningPhase → Report → Report
    → Turn → Type 0
Makes effect old new before after turn =
    (o : Origin) (acts : List Act) → RunsOn old o acts → Has new o before after (effect o acts)
    × GoesTruly turn (log o acts) × Answered new o acts (effect o acts).acts

-- an expectation is held against the last printed line, and a range line comes too late; neither
-- acts or prints
abbrev pub Does : told.Line → List ℕ → Turn → RunningPhase → RunningPhase → Origin → List Act
    → Report → Report → Type 0
Does lines.Expect text turn old new o acts before after =
    (new ≡ old) × (after ≡ before)
    × (turn ≡
    (if bytes_eq before.last.items (expected_text text) then Goes false else ExpectationFailed))
Does (lines.Range row) text turn old new o acts before after = (new ≡ old) × (after ≡ before)
    × (turn ≡ Bad LateRange)
Does (lines.Reset client kind) text turn old new o acts before after =
    Has new o before after (reset_effect acts kind) × GoesTruly turn (log o acts)
Does line text turn old new o acts before after = Has new o before after (effect_of o acts line)
    × GoesTruly turn (log o acts) × Answered new o acts (effect_of o acts line).acts

-- what a line that was done has done: a reset its act, a command what its answer says
abbrev pub Acted : told.Line → RunningPhase → Origin → List Act → List Act → Type 0
Acted lines.Expect run o before after = after ≡ before
Acted (lines.Range row) run o before after = after ≡ before
Acted (lines.Reset client kind) run o before after = after ≡ act_of_reset kind ∷ before
Acted line run o before after = Answered run o before after
