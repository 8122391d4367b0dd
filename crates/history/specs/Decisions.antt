-- What an act does, by the facts (ACS-3, NCQ and trusted computing feature sets), whatever its items
-- do. The order of the rules stands here once.
use Rattle.basics.specs.declared.profile.Profile.TheVariants.{Base, Field, Opal}
use Rattle.basics.specs.declared.profile.Profile.{Profile}
use Rattle.basics.specs.Profiles.{has_opal}
use Rattle.std.specs.Prelude.{ℕ, zero, suc, ◌+◌, ◌-◌, ◌*◌, ◌==◌, Bool, true, false, not, ◌&&◌, ◌||◌, nat_le, nat_lt, List, [], ◌∷◌, length, slice_index, Option, Some, None, is_some, Result, Ok, Err, if◌then◌else◌}
use Rattle.std.specs.List.{list_all}
use Rattle.fis.specs.Types.{h2d_type}
use Rattle.fis.specs.Tags.{slot_count}
use Rattle.fis.specs.H2d.{h2d_at}
use Rattle.fis.specs.declared.h2d.RegH2d.{RegH2d}
use Rattle.sp_cells.specs.declared.names.Sp.TheVariants.{Admin}
use Rattle.sp_cells.specs.Flat.{LookUp}
use Rattle.sp_cells.specs.Names.{tper_info}
use Rattle.sp_cells.specs.ColumnNames.{programmatic_reset_enable_column}
use Rattle.sp_cells.specs.Ranges.{number}
use Rattle.sp_cells.specs.Resets.{programmatic}
use Rattle.locking.specs.declared.range.Op.{Op}
use Rattle.locking.specs.declared.range.Op.TheVariants.{Read, Write}
use Rattle.trusted_cmds.specs.Commands.{is_queued, tag_of, sector_size, reset_protocol, is_programmatic_reset, is_protocol_list, is_certificate_data}
use Rattle.audit.specs.declared.reason.Why.{Why}
use Rattle.audit.specs.declared.rules.rule.Rule.{Rule}
use Rattle.audit.specs.declared.rules.rule.Rule.TheVariants.{NoCommand, Unreadable, QueueFailed, Mixed, TagHeld, BeyondDrive, Protocol, ComId}
use Rattle.trusted_cmds.specs.declared.command.Command.{Command}
use Rattle.trusted_cmds.specs.declared.command.Command.TheVariants.{ReadQueued, WriteQueued, ReadDma, WriteDma, Send, Receive, Identify, ReadLog10, Flush, SetFeatures, ReadLog, ReadPio, WritePio, Verify, Trim, Control}
use Rattle.trusted_cmds.specs.declared.control.Control as controls
use Rattle.trusted_cmds.specs.declared.control.Control.TheVariants.{Idle, Standby}
use Rattle.trusted_cmds.specs.declared.command.CommandError.{CommandError}
use Rattle.trusted_cmds.specs.declared.trim.Extent.{Extent}
use Rattle.trusted_cmds.specs.Trims.{extents_in}
use Rattle.device_data.specs.Discovery.{first_com_id, com_ids}
use Rattle.device_data.specs.ErrorLog.{failure_by}
use Rattle.locking.specs.declared.ranges.Verdict.{Verdict}
use Rattle.locking.specs.declared.ranges.Verdict.TheVariants.{Serve, Shadow, Denied}
use Rattle.locking.specs.Range.{RangeRows}
use Rattle.locking.specs.Ranges.{ranges_in}
use Rattle.locking.specs.Verdict.{verdict_of}
use Rattle.sessions.specs.Deeds.{StackTold}
use Rattle.history.specs.Events.{InSession, Silent, HeldCommand, Held, Completed, CompletedWrite, QueueFailed, QueueMended, Deed, Nothing, OfQueue, Wrote, Trimmed, Took, WasReset, Chose, PowerSet, Event, did, or_else}
use Rattle.history.specs.Facts.{Facts}
use Rattle.history.specs.Items.{Items}

-- The Error field of a command that is aborted or denied, and of one whose sectors are not all on
-- the drive (ACS-3, ABRT and IDNF).
abbrev pub aborted : ℕ
aborted = 0x04

abbrev pub not_found : ℕ
not_found = 0x10

abbrev pub fails : ℕ → Option Why → Option Rule → Event
fails error denied rule = record {
  failed = Some error;
  deed = Nothing;
  denied = denied;
  rule = rule;
}

-- Aborted, by a rule.
abbrev pub refuses : Rule → Event
refuses rule = fails aborted None (Some rule)

-- The queue fails with the command of a FIS: its error, what denied it, or which rule refused it (ACS-3,
-- NCQ feature set and NCQ Command Error log).
abbrev pub fails_queue : Option ℕ → ℕ → RegH2d → Option Why → Option Rule → Event
fails_queue tag error h denied rule = record {
  failed = Some error;
  deed = OfQueue (QueueFailed (failure_by tag error h));
  denied = denied;
  rule = rule;
}

-- Transfers. The addresses (ACS-3, IDNF) come before the policy (Opal SSC 2.01, section 4.3.5).

abbrev pub on_drive : Facts → ℕ → ℕ → Bool
on_drive f lba count = nat_le (lba + count) f.config.sectors

-- The ranges and the shadow that the rows in force describe.
abbrev pub ranges_in_force : Facts → RangeRows
ranges_in_force f = ranges_in f.config.mbr_sectors f.rows

abbrev pub verdict_on : Facts → Op → ℕ → ℕ → Verdict
verdict_on f op lba count = verdict_of (ranges_in_force f) op lba count

abbrev pub holds : ℕ → Command → Verdict → Event
holds tag command v = did (OfQueue (Held tag (record { command = command; verdict = v })))

abbrev pub queued_by : RegH2d → ℕ → Command → Verdict → Event
queued_by h tag command (Denied why) = fails_queue (Some tag) aborted h (Some why) None
queued_by h tag command Serve = holds tag command Serve
queued_by h tag command Shadow = holds tag command Shadow

abbrev pub queued_transfer : Facts → RegH2d → ℕ → Command → Op → ℕ → ℕ → Event
queued_transfer f h tag command op lba count =
    if on_drive f lba count
    then queued_by h tag command (verdict_on f op lba count)
    else fails_queue (Some tag) not_found h None (Some BeyondDrive)

-- A tag that is held fails the queue (ACS-3, READ FPDMA QUEUED, NCQ Tag).
abbrev pub admitted : Facts → RegH2d → ℕ → Command → Bool → Event
admitted f h tag command true = fails_queue (Some tag) aborted h None (Some TagHeld)
admitted f h tag (ReadQueued lba count) false =
    queued_transfer f h tag (ReadQueued lba count) Read lba count
admitted f h tag (WriteQueued lba count) false =
    queued_transfer f h tag (WriteQueued lba count) Write lba count
admitted f h tag _ false = refuses NoCommand

-- A transfer that is not queued is executed whole: a write moves its data here (ACS-3, READ DMA EXT
-- and WRITE DMA EXT).
abbrev pub unqueued_by : Deed → Verdict → Event
unqueued_by deed (Denied why) = fails aborted (Some why) None
unqueued_by deed Serve = did deed
unqueued_by deed Shadow = did deed

abbrev pub unqueued_transfer : Facts → Deed → Op → ℕ → ℕ → Event
unqueued_transfer f deed op lba count =
    if on_drive f lba count
    then unqueued_by deed (verdict_on f op lba count) else fails not_found None (Some BeyondDrive)

-- What a TRIM names is judged as writes are, each extent by itself; all of it is trimmed, or nothing (ACS-3, DATA SET
-- MANAGEMENT; SIIS 1.05, commands of a locked range).
abbrev pub denial_in : Verdict → Option Why
denial_in Serve = None
denial_in Shadow = None
denial_in (Denied why) = Some why

abbrev pub are_on_drive : ℕ → List Extent → Bool
are_on_drive sectors extents =
    list_all (λ (extent : Extent). nat_le (extent.lba + extent.count) sectors) extents

-- The first of the extents that is denied says why.
unfoldable pub first_denial : RangeRows → List Extent → Option Why
first_denial ranges [] = None
first_denial ranges (extent ∷ extents) =
    or_else (denial_in (verdict_of ranges Write extent.lba extent.count))
    (first_denial ranges extents)

abbrev pub trimmed_by : List Extent → Option Why → Event
trimmed_by extents None = did (Trimmed extents)
trimmed_by extents (Some why) = fails aborted (Some why) None

abbrev pub trimmed : Facts → List Extent → Event
trimmed f extents =
    if are_on_drive f.config.sectors extents
    then trimmed_by extents (first_denial (ranges_in_force f) extents)
    else fails not_found None (Some BeyondDrive)

-- Trusted commands (ACS-3, TRUSTED SEND and TRUSTED RECEIVE; Opal SSC 2.01, section 3.1.1).

abbrev pub last_com_id : ℕ
last_com_id = first_com_id + com_ids - 1

abbrev pub is_session_com_id : ℕ → Bool
is_session_com_id com_id = nat_le first_com_id com_id && nat_le com_id last_com_id

abbrev pub discovery_com_id : ℕ
discovery_com_id = 1

-- Security protocol 01h, with one block at least.
abbrev pub is_trusted : ℕ → ℕ → Bool
is_trusted protocol blocks = protocol == 1 && nat_lt 0 blocks

-- What is sent to the stack of a ComID, and received of it, under the opal profile: security protocol 02h, with one block at least
-- (Opal SSC 2.01, section 3.2.2; Core 2.01, section 3.3.4.7.5).
abbrev pub asks_stack : Profile → ℕ → ℕ → ℕ → Bool
asks_stack profile protocol com_id blocks =
    has_opal profile
    && (protocol == reset_protocol && (is_session_com_id com_id && nat_lt 0 blocks))

-- A command resets the drive where the rows let it (Opal SSC 2.01, section 4.2, table TPerInfo).
abbrev pub lets_reset : LookUp → Bool
lets_reset rows = number rows Admin tper_info programmatic_reset_enable_column == 1

abbrev pub resets : LookUp → Command → Bool
resets rows command = is_programmatic_reset command && lets_reset rows

-- The waiting response is taken where the transfer has room for it (Core 2.01, section 3.3.10).
abbrev pub received : ℕ → ℕ → Option (List ℕ) → Event
received com_id blocks None = did Nothing
received com_id blocks (Some response) =
    if nat_le (length response) (sector_size * blocks) then did (Took com_id) else did Nothing

-- The field profile tells the list of security protocols too (SPC-4, SECURITY PROTOCOL IN), and the
-- opal profile the certificates beside it: on their ComIDs, 0000h and 0001h, nothing waits.
abbrev pub asks_certificates : Profile → Command → Bool
asks_certificates Base command = false
asks_certificates Field command = false
asks_certificates Opal command = is_certificate_data command

abbrev pub tells_protocols : Profile → Command → Bool
tells_protocols Base command = false
tells_protocols Field command = is_protocol_list command
tells_protocols Opal command = is_protocol_list command || is_certificate_data command

abbrev pub is_received : Facts → ℕ → ℕ → ℕ → Bool
is_received f protocol com_id blocks =
    tells_protocols f.config.profile (Receive protocol com_id blocks true)
    || (is_trusted protocol blocks && (is_session_com_id com_id || com_id == discovery_com_id))

-- Why a receive is refused: its ComID, or else its protocol and its blocks.
abbrev pub unreceived : ℕ → ℕ → Rule
unreceived protocol blocks = if is_trusted protocol blocks then ComId else Protocol

abbrev pub receive_other : Facts → ℕ → ℕ → ℕ → Event
receive_other f protocol com_id blocks =
    if is_received f protocol com_id blocks
    then received com_id blocks (f.waiting com_id) else refuses (unreceived protocol blocks)

-- What is received of a stack is told once.
abbrev pub receive : Facts → ℕ → ℕ → ℕ → Event
receive f protocol com_id blocks =
    if asks_stack f.config.profile protocol com_id blocks
    then did (InSession (StackTold com_id) Silent) else receive_other f protocol com_id blocks

-- Commands, by what an item does. A transfer by PIO is judged whole, as one by DMA, and a verification as the read that it is
-- (SIIS 1.05, commands of a locked range; ACS-3, READ VERIFY SECTOR(S)).

-- Where sectors are read, the drive is active, and it goes to standby where it is told to (ACS-3, Power Management feature set).
abbrev pub was_read : Deed
was_read = PowerSet false

abbrev pub control_deed : controls.Control → Deed
control_deed Standby = PowerSet true
control_deed Idle = PowerSet false
control_deed _ = Nothing

abbrev pub unqueued_of : Items → Facts → List ℕ → Command → Event
unqueued_of items f payload (ReadDma lba count) = unqueued_transfer f was_read Read lba count
unqueued_of items f payload (WriteDma lba count) =
    unqueued_transfer f (Wrote lba payload) Write lba count
unqueued_of items f payload (Send protocol com_id blocks dma) =
    if resets f.rows (Send protocol com_id blocks dma) then did (WasReset programmatic)
    else items.sends f protocol com_id blocks payload
unqueued_of items f payload (Receive protocol com_id blocks dma) = receive f protocol com_id blocks
unqueued_of items f payload Identify = did Nothing
unqueued_of items f payload (ReadLog10 dma) = did Nothing
unqueued_of items f payload Flush = did Nothing
unqueued_of items f payload (SetFeatures feature) = did (Chose feature)
unqueued_of items f payload (ReadLog pages dma) = did Nothing
unqueued_of items f payload (ReadPio lba count) = unqueued_transfer f was_read Read lba count
unqueued_of items f payload (WritePio lba count) =
    unqueued_transfer f (Wrote lba payload) Write lba count
unqueued_of items f payload (Verify lba count) = unqueued_transfer f was_read Read lba count
unqueued_of items f payload (Trim blocks) = trimmed f (extents_in payload)
unqueued_of items f payload (Control control) = did (control_deed control)
unqueued_of items f payload (ReadQueued lba count) = refuses NoCommand
unqueued_of items f payload (WriteQueued lba count) = refuses NoCommand

-- A command that the mixing of queues does not refuse. A queued one whose FIS has a fault fails the
-- queue (ACS-3, READ FPDMA QUEUED, Device and Error Outputs).
abbrev pub known_of : Items → Facts → RegH2d → List ℕ → Result (Command × Option ℕ) CommandError
    → Event
known_of items f h payload (Err e) =
    if is_queued h.command
    then fails_queue (Some (tag_of h)) aborted h None (Some (Unreadable e))
    else refuses (Unreadable e)
known_of items f h payload (Ok (command, Some tag)) =
    admitted f h tag command (is_some (f.held tag))
known_of items f h payload (Ok (command, None)) = unqueued_of items f payload command

-- While the queue has failed: log page 10h is read, which ends it (ACS-3, NCQ feature set, error
-- handling, and READ LOG EXT).
abbrev pub while_failed : Result (Command × Option ℕ) CommandError → Event
while_failed (Ok (ReadLog10 dma, tag)) = did (OfQueue QueueMended)
while_failed _ = refuses QueueFailed

-- Some number below n passes.
unfoldable pub any_below : (ℕ → Bool) → ℕ → Bool
any_below p zero = false
any_below p (suc n) = p n || any_below p n

abbrev pub is_busy : Facts → Bool
is_busy f = any_below (λ tag. is_some (f.held tag)) slot_count

-- No command changes nothing (Serial ATA, Register - Host to Device, bit C); one that is not queued,
-- beside a held one, fails the queue (ACS-3, NCQ feature set).
abbrev pub commanded_of : Items → Facts → RegH2d → List ℕ → Event
commanded_of items f h payload =
    if not h.is_command then refuses NoCommand
    else (if is_some f.failure then while_failed (items.reads f.config h)
    else (if is_busy f && not (is_queued h.command) then fails_queue None aborted h None (Some Mixed)
    else known_of items f h payload (items.reads f.config h)))

abbrev pub accepted_of : Items → Facts → List ℕ → List ℕ → Event
accepted_of items f fis payload =
    if slice_index fis 0 == h2d_type then commanded_of items f (h2d_at fis) payload else refuses NoCommand

-- A completion moves the data of what is held (Serial ATA, DMA Setup and Set Device Bits).
abbrev pub completed_by : ℕ → List ℕ → Command → Event
completed_by tag payload (WriteQueued lba count) = did (OfQueue (CompletedWrite tag lba payload))
completed_by tag payload _ = did (OfQueue (Completed tag))

abbrev pub completed : ℕ → List ℕ → Option HeldCommand → Event
completed tag payload None = did Nothing
completed tag payload (Some h) = completed_by tag payload h.command
