-- What the drive decides on a command, before it does it. The order of the rules is the history's.
use Rattle.basics.specs.declared.profile.Profile.{Profile}
use Rattle.std.specs.Prelude.{◌≡◌, ◌<◌, ◌||◌, ◌==◌, ℕ, Bool, true, false, List, Option, Some, None, is_some, Result, Ok, Err, if◌then◌else◌}
use Rattle.fis.specs.Tags.{slot_count}
use Rattle.fis.specs.declared.h2d.RegH2d.{RegH2d}
use Rattle.audit.specs.declared.reason.Why.{Why}
use Rattle.audit.specs.declared.rules.rule.Rule.{Rule}
use Rattle.audit.specs.declared.rules.rule.Rule.TheVariants.{BeyondDrive, Protocol}
use Rattle.locking.specs.Range.{RangeRows}
use Rattle.locking.specs.Ranges.{ranges_in}
use Rattle.locking.specs.Verdict.{verdict_of, denial_why}
use Rattle.locking.specs.declared.ranges.Verdict.{Verdict}
use Rattle.locking.specs.declared.ranges.Verdict.TheVariants.{Serve, Shadow, Denied}
use Rattle.transactions.specs.Sights.{look_up, committed_sight}
use Rattle.trusted_cmds.specs.declared.command.Command.{Command}
use Rattle.trusted_cmds.specs.declared.command.Command.TheVariants.{Send, Receive, Identify, ReadLog10, Flush, SetFeatures, ReadLog, Trim, Control}
use Rattle.trusted_cmds.specs.Commands.{is_programmatic_reset, is_protocol_list}
use Rattle.trusted_cmds.specs.BlockSid.{is_block_sid, block_asked}
use Rattle.trusted_cmds.specs.Trims.{extents_in}
use Rattle.sp_cells.specs.Resets.{programmatic}
use Rattle.sessions.specs.Deeds.{StackTold}
use Rattle.history.specs.Events.{Deed, Nothing, InSession, Silent, OfQueue, QueueFailed, QueueMended, Wrote, WasReset, BlockedSid, Chose, Event, did}
use Rattle.history.specs.Facts.{Facts}
use Rattle.history.specs.Decisions.{was_read, control_deed, aborted, not_found, fails, holds, received, is_session_com_id, discovery_com_id, unreceived, asks_stack, trimmed}
use Rattle.history.specs.Tcg.{sent, stack_sent, command_read, unsent, unqueued}
use Rattle.tper.specs.Tper.{Tper}
use Rattle.drive.specs.Transfer.{by_op, queued_command, unqueued_command, CanGo, verdict_held, is_on_drive, StandsOnDrive}
use Rattle.drive.specs.State.{DriveState, kept_facts}
use Rattle.drive.specs.declared.decision.Decision.{Decision}
use Rattle.drive.specs.declared.decision.Decision.TheVariants.{Aborts, FailsQueue, Holds, Moves, Trims, Restarts, Blocks, AsksStack, Executes}
use Rattle.drive.specs.declared.decision.Cause.{Cause}
use Rattle.drive.specs.declared.decision.Cause.TheVariants as causes
use Rattle.drive.specs.declared.decision.Refusal.{Refusal}
use Rattle.drive.specs.declared.transfer.Transfer.{Transfer}
use Rattle.drive.specs.declared.transfer.Held.{Held}
use Rattle.drive.specs.declared.transfer.Way.{Way}

-- The ranges and the shadow that the rows in force describe.
abbrev pub ranges_of : Tper → RangeRows
ranges_of t = ranges_in t.store.config.mbr_sectors (look_up (committed_sight t.store))

-- The reason of a denial, of the transfer and what denies it; and the rule of what is refused without one.
abbrev pub reason : Cause → Option Why
reason (causes.Denial denied) =
    Some (denial_why denied.transfer.op denied.transfer.lba denied.transfer.count denied.by)
reason (causes.Rule rule) = None

abbrev pub ruling : Cause → Option Rule
ruling (causes.Denial denied) = None
ruling (causes.Rule rule) = Some rule

-- Why a transfer is refused: the error, and the reason of a denial, or the rule.
pub record Refused : Type 0 where
  pub error : ℕ
  pub denied : Option Why
  pub rule : Option Rule

abbrev pub told : Result Bool Refusal → Result Bool Refused
told (Ok is_shadowed) = Ok is_shadowed
told (Err refusal) = Err (record {
  error = refusal.error;
  denied = reason refusal.cause;
  rule = ruling refusal.cause;
})

-- Whether a transfer reads the shadow, or why it is refused: the addresses come before the policy.
abbrev pub by_verdict : Verdict → Result Bool Refused
by_verdict Serve = Ok false
by_verdict Shadow = Ok true
by_verdict (Denied why) = Err (record { error = aborted; denied = Some why; rule = None })

abbrev pub policy : ℕ → RangeRows → Transfer → Result Bool Refused
policy sectors ranges transfer =
    if is_on_drive sectors transfer
    then by_verdict (verdict_of ranges transfer.op transfer.lba transfer.count)
    else Err (record { error = not_found; denied = None; rule = Some BeyondDrive })

abbrev pub policy_on : DriveState → Transfer → Result Bool Refused
policy_on d transfer = policy d.tper.store.config.sectors (ranges_of d.tper) transfer

-- A permitted transfer, as it is to be moved.
abbrev pub FitsPolicy : DriveState → Transfer → Bool → Type 0
FitsPolicy d transfer is_shadowed =
    StandsOnDrive d.tper.store.config.sectors d.tper.store.config.mbr_sectors
    (record { transfer = transfer; is_shadowed = is_shadowed })

-- What an unqueued transfer does at once.
abbrev pub transfer_deed : Transfer → List ℕ → Deed
transfer_deed transfer payload = by_op transfer.op was_read (Wrote transfer.lba payload)

-- What the other commands do.
abbrev pub executed : Facts → List ℕ → Command → Event
executed f payload (Send protocol com_id blocks dma) = sent f com_id payload
executed f payload (Receive protocol com_id blocks dma) =
    received com_id blocks (f.waiting com_id)
executed f payload (ReadLog10 dma) =
    did (if is_some f.failure then OfQueue QueueMended else Nothing)
executed f payload (SetFeatures feature) = did (Chose feature)
executed f payload (Control control) = did (control_deed control)
executed f payload _ = did Nothing

-- What is for the stack of a ComID, and what that does.
abbrev pub is_for_stack : Profile → Command → Bool
is_for_stack profile (Send protocol com_id blocks dma) = asks_stack profile protocol com_id blocks
is_for_stack profile (Receive protocol com_id blocks dma) =
    asks_stack profile protocol com_id blocks
is_for_stack profile _ = false

abbrev pub asked_of_stack : Facts → List ℕ → Command → Event
asked_of_stack f payload (Send protocol com_id blocks dma) = stack_sent f com_id payload
asked_of_stack f payload (Receive protocol com_id blocks dma) =
    did (InSession (StackTold com_id) Silent)
asked_of_stack f payload _ = did Nothing

-- Why a trusted command is not taken, where responses wait on these ComIDs.
abbrev pub untaken : (ℕ → Bool) → Command → Rule
untaken waits (Send protocol com_id blocks dma) = unsent (waits com_id) protocol com_id blocks
untaken waits (Receive protocol com_id blocks dma) = unreceived protocol blocks
untaken waits _ = Protocol

-- The event of a decision.
abbrev pub decision_event : Facts → List ℕ → Decision → Event
decision_event f payload (Aborts error cause) = fails error (reason cause) (ruling cause)
decision_event f payload (FailsQueue failure cause) = record {
  failed = Some failure.error;
  deed = OfQueue (QueueFailed failure);
  denied = reason cause;
  rule = ruling cause;
}
decision_event f payload (Holds tag held) = holds tag (queued_command held.transfer)
    (verdict_held held)
decision_event f payload (Moves held way) = did (transfer_deed held.transfer payload)
decision_event f payload (Trims blocks) = trimmed f (extents_in payload)
decision_event f payload (Restarts command) = did (WasReset programmatic)
decision_event f payload (Blocks command) = did (BlockedSid (block_asked payload))
decision_event f payload (AsksStack command) = asked_of_stack f payload command
decision_event f payload (Executes command) = executed f payload command

-- What is decided on a command that is not queued is what it comes to, whatever else the past says.
abbrev pub DecidesUnqueued : DriveState → Command → Decision → Type 0
DecidesUnqueued d command decision =
    (f : Facts) (payload : List ℕ)
    → decision_event (kept_facts d f) payload decision ≡ unqueued (kept_facts d f) payload command

-- What a decision rests on: the slot, the FIS, and that what is to be done can be done.

pub record IsHeld (d : DriveState) (h : RegH2d) (tag : ℕ) (held : Held) : Type 0 where
  pub slot : tag < slot_count
  pub reads : command_read d.tper.store.config h ≡ Ok (queued_command held.transfer, Some tag)
  pub within : StandsOnDrive d.tper.store.config.sectors d.tper.store.config.mbr_sectors held

pub record IsMoved (d : DriveState) (h : RegH2d) (held : Held) (way : Way) : Type 0 where
  pub reads : command_read d.tper.store.config h ≡ Ok (unqueued_command way held.transfer, None)
  pub goes : CanGo way held.transfer.op
  pub verdict : verdict_of (ranges_of d.tper) held.transfer.op held.transfer.lba held.transfer.count
      ≡ verdict_held held
  pub within : StandsOnDrive d.tper.store.config.sectors d.tper.store.config.mbr_sectors held

abbrev pub IsTrustedCommand : Command → Type 0
IsTrustedCommand (Send protocol com_id blocks dma) = Unit {0}
IsTrustedCommand (Receive protocol com_id blocks dma) = Unit {0}
IsTrustedCommand _ = ⊥

abbrev pub CanExecute : Command → Type 0
CanExecute (Send protocol com_id blocks dma) = is_session_com_id com_id ≡ true
CanExecute (Receive protocol com_id blocks dma) =
    (is_protocol_list (Receive protocol com_id blocks dma)
    || (is_session_com_id com_id || com_id == discovery_com_id)) ≡ true
CanExecute Identify = Unit {0}
CanExecute (ReadLog10 dma) = Unit {0}
CanExecute Flush = Unit {0}
CanExecute (SetFeatures feature) = Unit {0}
CanExecute (ReadLog pages dma) = Unit {0}
CanExecute (Control control) = Unit {0}
CanExecute _ = ⊥

abbrev pub IsDue : DriveState → RegH2d → Decision → Type 0
IsDue d h (Aborts error cause) = Unit {0}
IsDue d h (FailsQueue failure cause) = Unit {0}
IsDue d h (Holds tag held) = IsHeld d h tag held
IsDue d h (Moves held way) = IsMoved d h held way
IsDue d h (Trims blocks) = command_read d.tper.store.config h ≡ Ok (Trim blocks, None)
IsDue d h (Restarts command) =
    (command_read d.tper.store.config h ≡ Ok (command, None))
    × (is_programmatic_reset command ≡ true)
IsDue d h (Blocks command) =
    (command_read d.tper.store.config h ≡ Ok (command, None))
    × (is_block_sid d.tper.store.config.profile command ≡ true)
IsDue d h (AsksStack command) =
    (command_read d.tper.store.config h ≡ Ok (command, None))
    × (is_for_stack d.tper.store.config.profile command ≡ true)
IsDue d h (Executes command) =
    (command_read d.tper.store.config h ≡ Ok (command, None))
    × CanExecute command
    × (is_for_stack d.tper.store.config.profile command ≡ false)
