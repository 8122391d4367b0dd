-- What the drive does by the FISes that the port sends, and what it gives.
use Rattle.std.proofs.Common.{◌≡◌, ◌∙◌, ℕ, ◌*◌, ◌≤◌, ◌<◌, ◌==◌, ◌&&◌, ◌||◌, not, nat_le, Bool, true, false, List, [], ◌∷◌, length, cond, if◌then◌else◌, Option, Some, None, refl, sym, ap, arith}
use Rattle.std.specs.Prelude.{is_some, unwrap_or, Result, Ok, Err}
use Rattle.fis.specs.H2d.{h2d_at}
use Rattle.fis.specs.declared.any.Fis.{Fis}
use Rattle.fis.specs.declared.h2d.RegH2d.{RegH2d}
use Rattle.audit.specs.declared.reason.Why.{Why}
use Rattle.device_data.specs.ErrorLog.{error_log}
use Rattle.device_data.specs.declared.log_page.Failure.{Failure}
use Rattle.locking.specs.declared.range.Op.{Op}
use Rattle.locking.specs.declared.range.Op.TheVariants.{Read, Write}
use Rattle.locking.specs.declared.ranges.Verdict.{Verdict}
use Rattle.locking.specs.declared.ranges.Verdict.TheVariants.{Serve, Shadow, Denied}
use Rattle.trusted_cmds.specs.declared.command.Command.{Command}
use Rattle.trusted_cmds.specs.declared.control.Control.TheVariants.{SetMultiple, Idle, Standby, CheckPowerMode, Diagnose}
use Rattle.trusted_cmds.specs.declared.command.Command.TheVariants.{ReadQueued, WriteQueued, ReadDma, WriteDma, Send, Receive, Identify, ReadLog10, Flush, SetFeatures, ReadLog, ReadPio, WritePio, Verify, Trim, Control}
use Rattle.trusted_cmds.specs.declared.command.CommandError.{CommandError}
use Rattle.trusted_cmds.specs.Commands.{fis_of, tag_with, sector_size, is_queued as is_queued_code}
use Rattle.device_data.specs.declared.settings.Settings.{Settings}
use Rattle.history.specs.Opening.{Origin}
use Rattle.history.specs.Events.{QueueMended, Deed, Nothing, InSession, Silent, OfQueue, Wrote, Trimmed, Took, BlockedSid, Chose, PowerSet, WasReset, Event, did, or_else, latest}
use Rattle.sessions.specs.Deeds.{StackTold}
use Rattle.history.specs.Readers.{holding, held, failing, failure}
use Rattle.history.specs.Items.{Items}
use Rattle.history.specs.Quiet.{is_quiet}
use Rattle.history.proofs.QuietProofs.{tcg_quiet}
use Rattle.history.proofs.TrimProofs.{trimmed-has}
use Rattle.trusted_cmds.specs.Trims.{extents_in}
use Rattle.history.specs.Facts.{Facts, facts}
use Rattle.history.specs.Decisions.{not_found, aborted, fails, refuses, fails_queue, on_drive, verdict_on, holds, queued_by, admitted, unqueued_by, is_trusted, is_session_com_id, discovery_com_id, received, is_busy, resets, unqueued_of, known_of, commanded_of, while_failed, is_received, unreceived, asks_stack, receive_other, was_read}
use Rattle.history.specs.Tcg.{data_read, command_read, tcg}
use Rattle.history.specs.Answers.{answer_fis, pio_fis, ready, errored, is_holding, answer_fises_of, fises_read, answer_data_of, data_read_of}
use Rattle.history.specs.History.{Accept as AcceptFis, event_by, event_in}
use Rattle.port_history.specs.Requests.{command_fis, log_fis, blocks_moved, bytes_moved}
use Rattle.port_history.specs.Stages.{is_queued_command}
use Rattle.port_history.specs.Steps.{Effect, effect_by, effect_in}
use Rattle.port_history.specs.Laws.{IsSized, IsForPorts, read_as, is_of_request}
use Rattle.port_history.proofs.Fises.{fis_back, reads}
use Rattle.sp_cells.specs.Config.{Config}
use Rattle.trusted_cmds.proofs.Spellings.{ok-reads}
use Rattle.port_history.proofs.Sizes.{sector_length, data-fits}
use Rattle.sp_cells.specs.Resets.{programmatic}
use Rattle.audit.specs.declared.rules.rule.Rule.TheVariants.{NoCommand, Mixed, BeyondDrive}
use Rattle.audit.specs.declared.rules.rule.Rule.{Rule}

-- the FISes
pub commands_of : (command : Command) (tag : ℕ) → (fis_of command tag).is_command ≡ true
commands_of (ReadQueued lba count) tag = refl
commands_of (WriteQueued lba count) tag = refl
commands_of (ReadDma lba count) tag = refl
commands_of (WriteDma lba count) tag = refl
commands_of (Send protocol com_id blocks dma) tag = refl
commands_of (Receive protocol com_id blocks dma) tag = refl
commands_of Identify tag = refl
commands_of (ReadLog10 dma) tag = refl
commands_of Flush tag = refl
commands_of (SetFeatures feature) tag = refl
commands_of (ReadLog page dma) tag = refl
commands_of (ReadPio lba count) tag = refl
commands_of (WritePio lba count) tag = refl
commands_of (Verify lba count) tag = refl
commands_of (Trim blocks) tag = refl
commands_of (Control control) tag = refl

code_of : (command : Command) (tag : ℕ)
    → is_queued_code (fis_of command tag).command ≡ is_queued_command command
code_of (ReadQueued lba count) tag = refl
code_of (WriteQueued lba count) tag = refl
code_of (ReadDma lba count) tag = refl
code_of (WriteDma lba count) tag = refl
code_of (Send protocol com_id blocks true) tag = refl
code_of (Send protocol com_id blocks false) tag = refl
code_of (Receive protocol com_id blocks true) tag = refl
code_of (Receive protocol com_id blocks false) tag = refl
code_of Identify tag = refl
code_of (ReadLog10 true) tag = refl
code_of (ReadLog10 false) tag = refl
code_of Flush tag = refl
code_of (SetFeatures feature) tag = refl
code_of (ReadLog page true) tag = refl
code_of (ReadLog page false) tag = refl
code_of (ReadPio lba count) tag = refl
code_of (WritePio lba count) tag = refl
code_of (Verify lba count) tag = refl
code_of (Trim blocks) tag = refl
code_of (Control SetMultiple) tag = refl
code_of (Control Idle) tag = refl
code_of (Control Standby) tag = refl
code_of (Control CheckPowerMode) tag = refl
code_of (Control Diagnose) tag = refl

-- the drive reads the command from the bytes
pub reads_bytes : (items : Items) (still : IsForPorts items) (config : Config) (command : Command) (tag : ℕ)
    → tag < 32 → IsSized command
    → items.reads config (h2d_at (command_fis command tag)) ≡ Ok (read_as command, tag_with command tag)
reads_bytes items still config command tag lt sized =
    ap (items.reads config) (fis_back command tag) ∙ still.reads config command tag lt sized

comes-to : (items : Items) (f : Facts) (h : RegH2d) (payload : List ℕ) → h.is_command ≡ true
    → f.failure ≡ None → (is_busy f && not (is_queued_code h.command)) ≡ false
    → commanded_of items f h payload ≡ known_of items f h payload (items.reads f.config h)
comes-to items f h payload commands mended unmixed =
    ap
    (λ (b : Bool). if not b then refuses NoCommand
    else (if is_some f.failure then while_failed (items.reads f.config h)
    else (if is_busy f && not (is_queued_code h.command) then fails_queue None aborted h None (Some Mixed)
    else known_of items f h payload (items.reads f.config h))))
    commands
    ∙ ap
    (λ (x : Option Failure). if is_some x then while_failed
    (items.reads f.config h) else (if is_busy f && not (is_queued_code h.command)
    then fails_queue None aborted h None (Some Mixed) else known_of items f h payload (items.reads f.config h)))
    mended
    ∙ ap
    (λ (b : Bool). if b then fails_queue None aborted h None (Some Mixed) else known_of items f h payload (items.reads f.config h))
    unmixed

-- A FIS of the port comes to its command: past the failure of the queue and the mixing of queues.
pub event_is : (items : Items) (still : IsForPorts items) (o : Origin) (past : List Event) (command : Command) (tag : ℕ) (bytes : List ℕ)
    → tag < 32 → IsSized command → failure past ≡ None
    → (is_busy (facts o past) && not (is_queued_command command)) ≡ false
    → event_in items (facts o past) (AcceptFis (command_fis command tag) bytes)
    ≡ known_of items (facts o past) (fis_of command tag) bytes
    (Ok (read_as command, tag_with command tag))
event_is items still o past command tag bytes lt sized mended unmixed =
    let f : Facts = facts o past in
    ap (λ (h : RegH2d). commanded_of items f h bytes) (fis_back command tag)
    ∙ comes-to items f (fis_of command tag) bytes (commands_of command tag) mended
    (ap (λ (b : Bool). is_busy f && not b) (code_of command tag) ∙ unmixed)
    ∙ ap (known_of items f (fis_of command tag) bytes) (still.reads f.config command tag lt sized)

effect-of : (items : Items) (f : Facts) (fis bytes : List ℕ) (e : Event) → event_in items f (AcceptFis fis bytes) ≡ e
    → effect_in items f (AcceptFis fis bytes)
    ≡ record {
      event = e;
      fises = answer_fises_of items f (h2d_at fis) e;
      bytes = answer_data_of items f
          (h2d_at fis) e;
    }
effect-of items f fis bytes e is =
    ap
    (λ (x : Event). record {
      event = x;
      fises = answer_fises_of items f (h2d_at fis) x;
      bytes = answer_data_of items f
          (h2d_at fis) x;
    })
    is

-- Queued commands.

-- A queued command is held.
abbrev pub held_effect : ℕ → Command → Verdict → Effect
held_effect tag command v = record {
  event = holds tag command v;
  fises = answer_fis false ready 0 ∷ [];
  bytes = [];
}

-- Or it fails the queue, which its tag names.
abbrev pub failed_effect : ℕ → Command → ℕ → Option Why × Option Rule → Effect
failed_effect tag command error denied = record {
  event = fails_queue (Some tag) error (fis_of command tag) denied.0 denied.1;
  fises = answer_fis true errored error ∷ [];
  bytes = [];
}

pub data IsHeldOrFailed (tag : ℕ) (command : Command) (e : Effect) : Type 0 where
  IsHeld : (v : Verdict) → e ≡ held_effect tag command v → IsHeldOrFailed tag command e
  IsFailed : (error : ℕ) (denied : Option Why × Option Rule) → e ≡ failed_effect tag command error denied
      → IsHeldOrFailed tag command e

data IsEither (tag : ℕ) (command : Command) (h : RegH2d) (e : Event) : Type 0 where
  EventHeld : (v : Verdict) → e ≡ holds tag command v → IsEither tag command h e
  EventFailed : (error : ℕ) (denied : Option Why × Option Rule) → e ≡ fails_queue (Some tag) error h denied.0 denied.1
      → IsEither tag command h e

queued_by-either : (h : RegH2d) (tag : ℕ) (command : Command) (v : Verdict)
    → IsEither tag command h (queued_by h tag command v)
queued_by-either h tag command Serve = EventHeld Serve refl
queued_by-either h tag command Shadow = EventHeld Shadow refl
queued_by-either h tag command (Denied why) = EventFailed aborted (Some why, None) refl

placed-either : (h : RegH2d) (tag : ℕ) (command : Command) (v : Verdict) (on : Bool)
    → IsEither tag command h
    (if on then queued_by h tag command v else fails_queue (Some tag) not_found h None (Some BeyondDrive))
placed-either h tag command v true = queued_by-either h tag command v
placed-either h tag command v false = EventFailed not_found (None, Some BeyondDrive) refl

known-either : (items : Items) (f : Facts) (h : RegH2d) (bytes : List ℕ) (command : Command) (tag : ℕ)
    → is_queued_command command ≡ true → f.held tag ≡ None
    → IsEither tag command h (known_of items f h bytes (Ok (read_as command, tag_with command tag)))
known-either items f h bytes (ReadQueued lba count) tag queued free =
    rw (free) (placed-either h tag (ReadQueued lba count) (verdict_on f Read lba count)
    (on_drive f lba count))
known-either items f h bytes (WriteQueued lba count) tag queued free =
    rw (free) (placed-either h tag (WriteQueued lba count) (verdict_on f Write lba count)
    (on_drive f lba count))
known-either items f h bytes (ReadDma lba count) tag queued free = absurd cc
known-either items f h bytes (WriteDma lba count) tag queued free = absurd cc
known-either items f h bytes (Send protocol com_id blocks dma) tag queued free = absurd cc
known-either items f h bytes (Receive protocol com_id blocks dma) tag queued free = absurd cc
known-either items f h bytes Identify tag queued free = absurd cc
known-either items f h bytes (ReadLog10 dma) tag queued free = absurd cc
known-either items f h bytes Flush tag queued free = absurd cc
known-either items f h bytes (SetFeatures feature) tag queued free = absurd cc
known-either items f h bytes (ReadLog page dma) tag queued free = absurd cc
known-either items f h bytes (ReadPio lba count) tag queued free = absurd cc
known-either items f h bytes (WritePio lba count) tag queued free = absurd cc
known-either items f h bytes (Verify lba count) tag queued free = absurd cc
known-either items f h bytes (Trim blocks) tag queued free = absurd cc
known-either items f h bytes (Control control) tag queued free = absurd cc

-- no data come with a tag
no-data : (items : Items) (f : Facts) (command : Command) (tag : ℕ) → is_queued_command command ≡ true
    → data_read_of items f (Ok (read_as command, tag_with command tag)) ≡ []
no-data items f (ReadQueued lba count) tag queued = refl
no-data items f (WriteQueued lba count) tag queued = refl
no-data items f (ReadDma lba count) tag queued = absurd cc
no-data items f (WriteDma lba count) tag queued = absurd cc
no-data items f (Send protocol com_id blocks dma) tag queued = absurd cc
no-data items f (Receive protocol com_id blocks dma) tag queued = absurd cc
no-data items f Identify tag queued = absurd cc
no-data items f (ReadLog10 dma) tag queued = absurd cc
no-data items f Flush tag queued = absurd cc
no-data items f (SetFeatures feature) tag queued = absurd cc
no-data items f (ReadLog page dma) tag queued = absurd cc
no-data items f (ReadPio lba count) tag queued = absurd cc
no-data items f (WritePio lba count) tag queued = absurd cc
no-data items f (Verify lba count) tag queued = absurd cc
no-data items f (Trim blocks) tag queued = absurd cc
no-data items f (Control control) tag queued = absurd cc

-- The FIS of a queued command, on a free tag.
pub queued_effect : (items : Items) (still : IsForPorts items) (o : Origin) (past : List Event) (command : Command) (tag : ℕ) (bytes : List ℕ)
    → tag < 32 → IsSized command → is_queued_command command ≡ true → failure past ≡ None
    → held past tag ≡ None
    → IsHeldOrFailed tag command
    (effect_in items (facts o past) (AcceptFis (command_fis command tag) bytes))
queued_effect items still o past command tag bytes lt sized queued mended free =
    by_event _ refl
    (known-either items (facts o past) (fis_of command tag) bytes command tag queued free)
  where
    f : Facts
    f = facts o past

    fis : List ℕ
    fis = command_fis command tag

    unmixed : (is_busy f && not (is_queued_command command)) ≡ false
    unmixed = ap (λ (b : Bool). is_busy f && not b) queued ∙ and-false (is_busy f)
      where
        and-false : (b : Bool) → (b && false) ≡ false
        and-false true = refl
        and-false false = refl

    is : event_in items f (AcceptFis fis bytes) ≡ known_of items f (fis_of command tag) bytes
        (Ok (read_as command, tag_with command tag))
    is = event_is items still o past command tag bytes lt sized mended unmixed

    none : answer_data_of items f (h2d_at fis) (did Nothing) ≡ []
    none = ap (data_read_of items f) (reads_bytes items still f.config command tag lt sized) ∙ no-data items f command tag queued

    by_event : (e : Event)
        → known_of items f (fis_of command tag) bytes (Ok (read_as command, tag_with command tag)) ≡ e
        → IsEither tag command (fis_of command tag) e
        → IsHeldOrFailed tag command (effect_in items f (AcceptFis fis bytes))
    by_event e same (EventHeld v made) =
        IsHeld v
        (effect-of items f fis bytes (holds tag command v) (is ∙ same ∙ made)
        ∙ ap (λ (xs : List ℕ). record {
          event = holds tag command v;
          fises = answer_fis false ready
              0 ∷ [];
          bytes = xs;
        }) none)
    by_event e same (EventFailed error denied made) =
        IsFailed error denied
        (effect-of items f fis bytes (fails_queue (Some tag) error (fis_of command tag) denied.0 denied.1) (is ∙ same
        ∙ made))

-- Unqueued commands.

-- A deed that changes nothing of a queue in which nothing is held and that has not failed.
abbrev pub is_of_queue : Deed → Bool
is_of_queue Nothing = false
is_of_queue (InSession deed response) = false
is_of_queue (OfQueue deed) = true
is_of_queue (Wrote lba bytes) = false
is_of_queue (Trimmed extents) = false
is_of_queue (Took com_id) = false
is_of_queue (BlockedSid block) = false
is_of_queue (Chose feature) = false
is_of_queue (PowerSet in_standby) = false
is_of_queue (WasReset kind) = false

abbrev pub executed_fis : Command → Option ℕ → Fis
executed_fis command (Some error) = answer_fis true errored error
executed_fis Identify None = pio_fis true ready
executed_fis command None = answer_fis true ready 0

-- A command that is not queued is executed whole: it changes nothing of the queue, and is answered
-- by one FIS.
pub record IsExecuted (past : List Event) (command : Command) (e : Effect) : Type 0 where
  pub still_held : (tag : ℕ) → held (e.event ∷ past) tag ≡ held past tag
  pub still_failing : failure (e.event ∷ past) ≡ failure past
  pub fises : e.fises ≡ executed_fis command e.event.failed ∷ []

quiet-if : (b : Bool) (x y : Event) → is_of_queue x.deed ≡ false → is_of_queue y.deed ≡ false
    → is_of_queue (cond b x y).deed ≡ false
quiet-if true x y h g = h
quiet-if false x y h g = g

unqueued_by-quiet : (d : Deed) (v : Verdict) → is_of_queue d ≡ false
    → is_of_queue (unqueued_by d v).deed ≡ false
unqueued_by-quiet d Serve h = h
unqueued_by-quiet d Shadow h = h
unqueued_by-quiet d (Denied why) h = refl

transfer-quiet : (f : Facts) (d : Deed) (op : Op) (lba count : ℕ) → is_of_queue d ≡ false
    → is_of_queue (Rattle.history.specs.Decisions.unqueued_transfer f d op lba count).deed ≡ false
transfer-quiet f d op lba count h =
    quiet-if (on_drive f lba count) (unqueued_by d (verdict_on f op lba count))
    (fails not_found None (Some BeyondDrive))
    (unqueued_by-quiet d (verdict_on f op lba count) h) refl

of-items : (d : Deed) → is_quiet d ≡ true → is_of_queue d ≡ false
of-items Nothing h = refl
of-items (InSession deed response) h = refl
of-items (OfQueue deed) h = absurd cc
of-items (Wrote lba bytes) h = refl
of-items (Trimmed extents) h = refl
of-items (Took com_id) h = refl
of-items (BlockedSid block) h = refl
of-items (Chose feature) h = refl
of-items (PowerSet in_standby) h = refl
of-items (WasReset kind) h = refl

received-quiet : (com_id blocks : ℕ) (x : Option (List ℕ))
    → is_of_queue (received com_id blocks x).deed ≡ false
received-quiet com_id blocks None = refl
received-quiet com_id blocks (Some response) =
    quiet-if (nat_le (length response) (sector_size * blocks)) (did (Took com_id)) (did Nothing)
    refl refl

unqueued-quiet : (items : Items) (still : IsForPorts items) (f : Facts) (payload : List ℕ) (command : Command)
    → is_of_queue (unqueued_of items f payload command).deed ≡ false
unqueued-quiet items still f payload (ReadDma lba count) = transfer-quiet f was_read Read lba count refl
unqueued-quiet items still f payload (WriteDma lba count) =
    transfer-quiet f (Wrote lba payload) Write lba count refl
unqueued-quiet items still f payload (Send protocol com_id blocks dma) =
    quiet-if (resets f.rows (Send protocol com_id blocks dma)) (did (WasReset programmatic))
    (items.sends f protocol com_id blocks payload) refl
    (of-items (items.sends f protocol com_id blocks payload).deed
    (still.quiet f protocol com_id blocks payload))
unqueued-quiet items still f payload (Receive protocol com_id blocks dma) =
    quiet-if (asks_stack f.config.profile protocol com_id blocks)
    (did (InSession (StackTold com_id) Silent)) (receive_other f protocol com_id blocks) refl
    (quiet-if (is_received f protocol com_id blocks)
    (received com_id blocks (f.waiting com_id)) (refuses (unreceived protocol blocks))
    (received-quiet com_id blocks (f.waiting com_id)) refl)
unqueued-quiet items still f payload Identify = refl
unqueued-quiet items still f payload (ReadLog10 dma) = refl
unqueued-quiet items still f payload Flush = refl
unqueued-quiet items still f payload (SetFeatures feature) = refl
unqueued-quiet items still f payload (ReadLog page dma) = refl
unqueued-quiet items still f payload (ReadPio lba count) = transfer-quiet f was_read Read lba count refl
unqueued-quiet items still f payload (WritePio lba count) =
    transfer-quiet f (Wrote lba payload) Write lba count refl
unqueued-quiet items still f payload (Verify lba count) = transfer-quiet f was_read Read lba count refl
unqueued-quiet items still f payload (Trim blocks) =
    trimmed-has (λ e. is_of_queue e.deed ≡ false) f (extents_in payload) refl (λ why. refl) refl
unqueued-quiet items still f payload (Control SetMultiple) = refl
unqueued-quiet items still f payload (Control Idle) = refl
unqueued-quiet items still f payload (Control Standby) = refl
unqueued-quiet items still f payload (Control CheckPowerMode) = refl
unqueued-quiet items still f payload (Control Diagnose) = refl
unqueued-quiet items still f payload (ReadQueued lba count) = refl
unqueued-quiet items still f payload (WriteQueued lba count) = refl

-- it holds nothing
pub holds_nothing : (d : Deed) → is_of_queue d ≡ false → is_holding d ≡ false
holds_nothing Nothing quiet = refl
holds_nothing (InSession deed response) quiet = refl
holds_nothing (OfQueue deed) quiet = absurd cc
holds_nothing (Wrote lba bytes) quiet = refl
holds_nothing (Trimmed extents) quiet = refl
holds_nothing (Took com_id) quiet = refl
holds_nothing (BlockedSid block) quiet = refl
holds_nothing (Chose feature) quiet = refl
holds_nothing (PowerSet in_standby) quiet = refl
holds_nothing (WasReset kind) quiet = refl

-- the queue is as before
held_stays : (d : Deed) (past : List Event) (tag : ℕ) → is_of_queue d ≡ false
    → held past tag ≡ None
    → unwrap_or (or_else (holding tag d) (latest (holding tag) past)) None ≡ held past tag
held_stays Nothing past tag quiet none = refl
held_stays (InSession deed response) past tag quiet none = refl
held_stays (OfQueue deed) past tag quiet none = absurd cc
held_stays (Wrote lba bytes) past tag quiet none = refl
held_stays (Trimmed extents) past tag quiet none = refl
held_stays (Took com_id) past tag quiet none = refl
held_stays (BlockedSid block) past tag quiet none = refl
held_stays (Chose feature) past tag quiet none = refl
held_stays (PowerSet in_standby) past tag quiet none = refl
held_stays (WasReset kind) past tag quiet none = sym none

failure_stays : (d : Deed) (past : List Event) → is_of_queue d ≡ false → failure past ≡ None
    → unwrap_or (or_else (failing d) (latest failing past)) None ≡ failure past
failure_stays Nothing past quiet none = refl
failure_stays (InSession deed response) past quiet none = refl
failure_stays (OfQueue deed) past quiet none = absurd cc
failure_stays (Wrote lba bytes) past quiet none = refl
failure_stays (Trimmed extents) past quiet none = refl
failure_stays (Took com_id) past quiet none = refl
failure_stays (BlockedSid block) past quiet none = refl
failure_stays (Chose feature) past quiet none = refl
failure_stays (PowerSet in_standby) past quiet none = refl
failure_stays (WasReset kind) past quiet none = sym none

known-unqueued : (items : Items) (f : Facts) (h : RegH2d) (bytes : List ℕ) (command : Command) (tag : ℕ)
    → is_queued_command command ≡ false
    → known_of items f h bytes (Ok (read_as command, tag_with command tag))
    ≡ unqueued_of items f bytes (read_as command)
known-unqueued items f h bytes (ReadQueued lba count) tag unqueued = absurd cc
known-unqueued items f h bytes (WriteQueued lba count) tag unqueued = absurd cc
known-unqueued items f h bytes (ReadDma lba count) tag unqueued = refl
known-unqueued items f h bytes (WriteDma lba count) tag unqueued = refl
known-unqueued items f h bytes (Send protocol com_id blocks dma) tag unqueued = refl
known-unqueued items f h bytes (Receive protocol com_id blocks dma) tag unqueued = refl
known-unqueued items f h bytes Identify tag unqueued = refl
known-unqueued items f h bytes (ReadLog10 dma) tag unqueued = refl
known-unqueued items f h bytes Flush tag unqueued = refl
known-unqueued items f h bytes (SetFeatures feature) tag unqueued = refl
known-unqueued items f h bytes (ReadLog page dma) tag unqueued = refl
known-unqueued items f h bytes (ReadPio lba count) tag unqueued = refl
known-unqueued items f h bytes (WritePio lba count) tag unqueued = refl
known-unqueued items f h bytes (Verify lba count) tag unqueued = refl
known-unqueued items f h bytes (Trim blocks) tag unqueued = refl
known-unqueued items f h bytes (Control control) tag unqueued = refl

served-fis : (settings : Settings) (command : Command) (tag : ℕ) → is_queued_command command ≡ false → is_of_request command ≡ true
    → fises_read settings (Ok (read_as command, tag_with command tag)) ≡ executed_fis command None ∷ []
served-fis settings (ReadQueued lba count) tag unqueued asked = absurd cc
served-fis settings (WriteQueued lba count) tag unqueued asked = absurd cc
served-fis settings (ReadDma lba count) tag unqueued asked = refl
served-fis settings (WriteDma lba count) tag unqueued asked = refl
served-fis settings (Send protocol com_id blocks true) tag unqueued asked = refl
served-fis settings (Send protocol com_id blocks false) tag unqueued asked = absurd cc
served-fis settings (Receive protocol com_id blocks true) tag unqueued asked = refl
served-fis settings (Receive protocol com_id blocks false) tag unqueued asked = absurd cc
served-fis settings Identify tag unqueued asked = refl
served-fis settings (ReadLog10 dma) tag unqueued asked = absurd cc
served-fis settings Flush tag unqueued asked = refl
served-fis settings (SetFeatures feature) tag unqueued asked = absurd cc
served-fis settings (ReadLog page dma) tag unqueued asked = absurd cc
served-fis settings (ReadPio lba count) tag unqueued asked = absurd cc
served-fis settings (WritePio lba count) tag unqueued asked = absurd cc
served-fis settings (Verify lba count) tag unqueued asked = absurd cc
served-fis settings (Trim blocks) tag unqueued asked = absurd cc
served-fis settings (Control control) tag unqueued asked = absurd cc

failed-fis : (command : Command) (error : ℕ)
    → answer_fis true errored error ∷ [] ≡ executed_fis command (Some error) ∷ []
failed-fis (ReadQueued lba count) error = refl
failed-fis (WriteQueued lba count) error = refl
failed-fis (ReadDma lba count) error = refl
failed-fis (WriteDma lba count) error = refl
failed-fis (Send protocol com_id blocks dma) error = refl
failed-fis (Receive protocol com_id blocks dma) error = refl
failed-fis Identify error = refl
failed-fis (ReadLog10 dma) error = refl
failed-fis Flush error = refl
failed-fis (SetFeatures feature) error = refl
failed-fis (ReadLog page dma) error = refl
failed-fis (ReadPio lba count) error = refl
failed-fis (WritePio lba count) error = refl
failed-fis (Verify lba count) error = refl
failed-fis (Trim blocks) error = refl
failed-fis (Control control) error = refl

read-data : (f : Facts) (command : Command) (tag : ℕ) → is_queued_command command ≡ false
    → ((s : ℕ) → length (f.sector s) ≡ 512)
    → length (data_read f (Ok (read_as command, tag_with command tag))) ≤ bytes_moved command
read-data f (ReadQueued lba count) tag unqueued whole = absurd cc
read-data f (WriteQueued lba count) tag unqueued whole = absurd cc
read-data f (ReadDma lba count) tag unqueued whole = data-fits f (ReadDma lba count) whole
read-data f (WriteDma lba count) tag unqueued whole = data-fits f (WriteDma lba count) whole
read-data f (Send protocol com_id blocks dma) tag unqueued whole =
    data-fits f (read_as (Send protocol com_id blocks dma)) whole
read-data f (Receive protocol com_id blocks dma) tag unqueued whole =
    data-fits f (read_as (Receive protocol com_id blocks dma)) whole
read-data f Identify tag unqueued whole = data-fits f Identify whole
read-data f (ReadLog10 dma) tag unqueued whole = data-fits f (ReadLog10 dma) whole
read-data f Flush tag unqueued whole = data-fits f Flush whole
read-data f (SetFeatures feature) tag unqueued whole = data-fits f (SetFeatures feature) whole
read-data f (ReadLog page dma) tag unqueued whole = data-fits f (ReadLog page dma) whole
read-data f (ReadPio lba count) tag unqueued whole = data-fits f (ReadPio lba count) whole
read-data f (WritePio lba count) tag unqueued whole = data-fits f (WritePio lba count) whole
read-data f (Verify lba count) tag unqueued whole = data-fits f (Verify lba count) whole
read-data f (Trim blocks) tag unqueued whole = data-fits f (Trim blocks) whole
read-data f (Control control) tag unqueued whole = data-fits f (Control control) whole

fises-by : (command : Command) (fis : List ℕ) (read : List Fis) (d : Deed) (e : Option ℕ)
    → is_holding d ≡ false → read ≡ executed_fis command None ∷ []
    → (if is_some e then answer_fis true errored (unwrap_or e 0) ∷ []
    else (if is_holding d then answer_fis false ready 0 ∷ [] else read))
    ≡ executed_fis command e ∷ []
fises-by command fis read d (Some error) quiet is = failed-fis command error
fises-by command fis read d None quiet is =
    ap (λ (b : Bool). if b then answer_fis false ready 0 ∷ [] else read) quiet ∙ is

bytes-by : (read : List ℕ) (n : ℕ) (e : Option ℕ) → length read ≤ n
    → length (if is_some e then [] else read) ≤ n
bytes-by read n (Some error) le = omega arith
bytes-by read n None le = le

-- The FIS of a command that is not queued, while nothing is held.
pub executed_effect : (items : Items) (still : IsForPorts items) (o : Origin) (past : List Event) (command : Command) (tag : ℕ)
    (bytes : List ℕ) → tag < 32 → IsSized command → is_queued_command command ≡ false
    → failure past ≡ None → is_busy (facts o past) ≡ false
    → ((t : ℕ) → held past t ≡ None)
    → IsExecuted past command (effect_in items (facts o past) (AcceptFis (command_fis command tag) bytes))
executed_effect items still o past command tag bytes lt sized unqueued_is mended idle none = record {
  still_held = λ t. held_stays (event_in items f (AcceptFis fis bytes)).deed past t quiet (none t);
  still_failing = failure_stays (event_in items f (AcceptFis fis bytes)).deed past quiet mended;
  fises =
      fises-by command fis (fises_read f.settings (items.reads f.config (h2d_at fis)))
      (event_in items f (AcceptFis fis bytes)).deed (event_in items f (AcceptFis fis bytes)).failed
      (holds_nothing _ quiet)
      (ap (fises_read f.settings) (reads_bytes items still f.config command tag lt sized)
      ∙ served-fis f.settings command tag unqueued_is sized.asked);
}
  where
    f : Facts
    f = facts o past

    fis : List ℕ
    fis = command_fis command tag

    is : event_in items f (AcceptFis fis bytes) ≡ unqueued_of items f bytes (read_as command)
    is =
        event_is items still o past command tag bytes lt sized mended
        (ap (λ (b : Bool). b && not (is_queued_command command)) idle)
        ∙ known-unqueued items f (fis_of command tag) bytes command tag unqueued_is

    quiet : is_of_queue (event_in items f (AcceptFis fis bytes)).deed ≡ false
    quiet = ap (λ (x : Event). is_of_queue x.deed) is ∙ unqueued-quiet items still f bytes (read_as command)

-- The items of this drive.
pub tcg_for_ports : IsForPorts tcg
tcg_for_ports = record {
  quiet = tcg_quiet;
  reads = λ config command tag lt sized. ok-reads config.profile (fis_of command tag) (reads command tag lt sized);
  recovers = λ config. ok-reads config.profile (fis_of (ReadLog10 true) 0) refl;
}

-- By the items of this drive it gives no more data than it asks for.
pub executed_bytes : (o : Origin) (past : List Event) (command : Command) (tag : ℕ)
    (bytes : List ℕ) → tag < 32 → IsSized command → is_queued_command command ≡ false
    → length (effect_by (facts o past) (AcceptFis (command_fis command tag) bytes)).bytes
    ≤ bytes_moved command
executed_bytes o past command tag bytes lt sized unqueued_is =
    bytes-by (data_read f (command_read f.config (h2d_at fis))) (bytes_moved command)
    (event_by f (AcceptFis fis bytes)).failed
    (rw (reads_bytes tcg tcg_for_ports f.config command tag lt sized) (read-data f command tag unqueued_is
    (sector_length past)))
  where
    f : Facts
    f = facts o past

    fis : List ℕ
    fis = command_fis command tag

-- The read of the log.
abbrev pub mended_effect : Option Failure → Effect
mended_effect failing = record {
  event = did (OfQueue QueueMended);
  fises = answer_fis true ready 0 ∷ [];
  bytes = error_log failing;
}

pub mends : (items : Items) (still : IsForPorts items) (o : Origin) (past : List Event) (found : Failure) → failure past ≡ Some found
    → effect_in items (facts o past) (AcceptFis log_fis []) ≡ mended_effect (Some found)
mends items still o past found is =
    ap
    (λ (x : Option Failure). effect_in items (record (facts o past) { failure = x })
    (AcceptFis log_fis []))
    is
    ∙ ap
    (λ (r : Result (Command × Option ℕ) CommandError). record {
      event = while_failed r;
      fises = if is_some (while_failed r).failed then answer_fis true errored (unwrap_or (while_failed r).failed 0) ∷ []
          else (if is_holding (while_failed r).deed then answer_fis false ready 0 ∷ []
          else fises_read (facts o past).settings r);
      bytes = if is_some (while_failed r).failed then []
          else data_read_of items (record (facts o past) { failure = Some found }) r;
    })
    (still.recovers (facts o past).config)
