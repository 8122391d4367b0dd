-- A response is left on the ComID of its send, and so on none that is not one for sessions.
use Rattle.std.proofs.Common.{◌≡◌, ℕ, ◌*◌, ◌==◌, Bool, true, false, ◌&&◌, ◌||◌, not, List, [], ◌∷◌, Option, Some, None, refl, sym, ◌∙◌, ap, cond, eqb-true}
use Rattle.std.specs.Prelude.{is_some, nat_le, slice_index, length, Result, Ok, Err, unwrap_or}
use Rattle.fis.specs.Types.{h2d_type}
use Rattle.fis.specs.H2d.{h2d_at}
use Rattle.fis.specs.declared.h2d.RegH2d.{RegH2d}
use Rattle.locking.specs.declared.range.Op.{Op}
use Rattle.locking.specs.declared.range.Op.TheVariants.{Read, Write}
use Rattle.trusted_cmds.specs.Commands.{is_queued, tag_of, sector_size}
use Rattle.compacket.specs.declared.session.Session.{Session}
use Rattle.compacket.specs.declared.error.FrameError.{FrameError}
use Rattle.compacket.specs.Frames.{Frame, reading as frame_in}
use Rattle.tcg_tokens.specs.Reading.{reading as message_in}
use Rattle.trusted_cmds.specs.declared.command.Command.{Command}
use Rattle.trusted_cmds.specs.declared.command.Command.TheVariants.{ReadQueued, WriteQueued, ReadDma, WriteDma, Send, Receive, ReadLog10, ReadPio, WritePio, Verify, Trim, Control}
use Rattle.trusted_cmds.specs.declared.control.Control.TheVariants.{SetMultiple, Idle, Standby, CheckPowerMode, Diagnose}
use Rattle.trusted_cmds.specs.declared.command.CommandError.{CommandError}
use Rattle.locking.specs.declared.ranges.Verdict.{Verdict}
use Rattle.locking.specs.declared.ranges.Verdict.TheVariants.{Serve, Shadow, Denied}
use Rattle.sessions.specs.Deeds.{Begun, StackTold}
use Rattle.trusted_cmds.specs.BlockSid.{is_block_sid, block_asked, is_blocked}
use Rattle.device_data.specs.Discovery.{has_owner}
use Rattle.history.proofs.TrimProofs.{trimmed-has}
use Rattle.trusted_cmds.specs.Trims.{extents_in}
use Rattle.history.specs.Events.{did, HeldCommand, Deed, Nothing, InSession, Left, Silent, Wrote, Trimmed, Event, or_else, OfQueue, Took, BlockedSid, Chose, PowerSet, WasReset, latest, ignores, Dropped}
use Rattle.history.specs.Facts.{Facts, facts, session_named}
use Rattle.history.specs.Decisions.{aborted, not_found, fails, refuses, fails_queue, on_drive, verdict_on, queued_by, queued_transfer, admitted, unqueued_by, unqueued_transfer, is_trusted, is_session_com_id, discovery_com_id, received, while_failed, is_busy, completed_by, completed, resets, is_received, unreceived, asks_stack, was_read}
use Rattle.history.specs.Tcg.{answers, to_manager, in_session, item_in, breaks_off, broken_off, is_discarded, manager_event, is_manager, to_session, framed, sent, unqueued, known, commanded, command_read, blocks_sid, unsent, is_sent, is_free_for, unframed, unframed_in, broken_of, sent_by, stack_reset, stack_kept, stack_sent}
use Rattle.history.specs.History.{Act, Accept, Complete, Reset, SoftwareReset, event_by, event, log}
use Rattle.history.specs.Readers.{waits, waiting}
use Rattle.history.specs.Bounds.{ResponseLaw}
use Rattle.sp_cells.specs.Resets.{programmatic}
use Rattle.audit.specs.declared.rules.rule.Rule.TheVariants.{NoCommand, Unreadable, Mixed, BeyondDrive, SidKept, NoFrame, Discarded, BrokenOff}
use Rattle.compacket.specs.declared.session.Named.{Named}
use Rattle.device_data.specs.StackReset.{is_stack_reset}

abbrev on_session : Deed → Bool
on_session (InSession deed (Left its bytes)) = is_session_com_id its
on_session (InSession deed Silent) = true
on_session (InSession deed (Dropped its)) = true
on_session _ = true

either : (b : Bool) (e g : Event) → (b ≡ true → on_session e.deed ≡ true) → on_session g.deed ≡ true → on_session (cond b e g).deed ≡ true
either true e g h k = h refl
either false e g h k = k

to_session-on : (f : Facts) (com_id : ℕ) (named : Session) (payload : List ℕ) (s : Option Begun) → is_session_com_id com_id ≡ true → on_session (to_session f com_id named payload s).deed ≡ true
to_session-on f com_id named payload None h = refl
to_session-on f com_id named payload (Some s) h = either (breaks_off f.config.profile (item_in f.config.profile payload)) (broken_off BrokenOff s.sp) (answers com_id named (in_session f s (item_in f.config.profile payload))) (λ is. refl) h

framed-on : (f : Facts) (com_id : ℕ) (frame : Frame) → is_session_com_id com_id ≡ true → on_session (framed f com_id frame).deed ≡ true
framed-on f com_id frame h =
    either (is_manager frame.session) (manager_event f com_id frame.session (message_in frame.payload)) _
    (λ is. either (is_discarded f.config.profile (message_in frame.payload)) (ignores Discarded) (answers com_id frame.session (to_manager f com_id (message_in frame.payload))) (λ of. refl) h) (to_session-on f com_id frame.session frame.payload (session_named f com_id frame.session) h)

unframed-on : (f : Facts) (com_id : ℕ) (broken : Option Named) → on_session (unframed f com_id broken).deed ≡ true
unframed-on f com_id None = refl
unframed-on f com_id (Some named) = either (named.com_id == com_id) (unframed_in (session_named f com_id named.session)) (ignores NoFrame) (λ is. by_session (session_named f com_id named.session)) refl
  where
    by_session : (x : Option Begun) → on_session (unframed_in x).deed ≡ true
    by_session None = refl
    by_session (Some s) = refl

sent-on : (f : Facts) (com_id : ℕ) (broken : Option Named) (r : Result Frame FrameError) → is_session_com_id com_id ≡ true → on_session (sent_by f com_id broken r).deed ≡ true
sent-on f com_id broken (Err e) h = unframed-on f com_id broken
sent-on f com_id broken (Ok frame) h = either (frame.com_id == com_id) (framed f com_id frame) (ignores NoFrame) (λ is. framed-on f com_id frame h) refl

middle : (a b c : Bool) → (a && b && c) ≡ true → b ≡ true
middle true true c h = refl
middle true false c h = cc
middle false b c h = cc

received-on : (com_id blocks : ℕ) (w : Option (List ℕ)) → on_session (received com_id blocks w).deed ≡ true
received-on com_id blocks None = refl
received-on com_id blocks (Some r) = either (nat_le (length r) (sector_size * blocks)) (did (Took com_id)) (did Nothing) (λ is. refl) refl

unqueued_by-on : (d : Deed) (v : Verdict) → on_session d ≡ true → on_session (unqueued_by d v).deed ≡ true
unqueued_by-on d (Denied why) h = refl
unqueued_by-on d Serve h = h
unqueued_by-on d Shadow h = h

transfer-on : (f : Facts) (d : Deed) (op : Op) (lba count : ℕ) → on_session d ≡ true → on_session (unqueued_transfer f d op lba count).deed ≡ true
transfer-on f d op lba count h = either (on_drive f lba count) _ (fails not_found None (Some BeyondDrive)) (λ is. unqueued_by-on d (verdict_on f op lba count) h) refl

unqueued-on : (f : Facts) (payload : List ℕ) (c : Command) → on_session (unqueued f payload c).deed ≡ true
unqueued-on f payload (ReadDma lba count) = transfer-on f was_read Read lba count refl
unqueued-on f payload (WriteDma lba count) = transfer-on f (Wrote lba payload) Write lba count refl
unqueued-on f payload (Send protocol com_id blocks dma) =
    either (resets f.rows (Send protocol com_id blocks dma)) (did (WasReset programmatic)) _ (λ is. refl)
    (either (is_block_sid f.config.profile (Send protocol com_id blocks true)) (blocks_sid f payload) _
    (λ is. either (has_owner f.rows || is_blocked f.beside.block) (refuses SidKept) (did (BlockedSid (block_asked payload))) (λ is. refl) refl)
    (either (asks_stack f.config.profile protocol com_id blocks) (stack_sent f com_id payload) _ (λ is. either (is_stack_reset com_id payload) (stack_reset f com_id) (stack_kept com_id) (λ is. refl) refl)
    (either (is_sent f protocol com_id blocks) _ (refuses (unsent (is_some (f.waiting com_id)) protocol com_id blocks))
    (λ is. sent-on f com_id (broken_of f.config.profile payload) (frame_in payload) (middle (is_trusted protocol blocks) (is_session_com_id com_id) (is_free_for f com_id blocks) is)) refl)))
unqueued-on f payload (Receive protocol com_id blocks dma) =
    either (asks_stack f.config.profile protocol com_id blocks) (did (InSession (StackTold com_id) Silent)) _ (λ is. refl)
    (either (is_received f protocol com_id blocks) _ (refuses (unreceived protocol blocks)) (λ is. received-on com_id blocks (f.waiting com_id)) refl)
unqueued-on f payload (ReadPio lba count) = transfer-on f was_read Read lba count refl
unqueued-on f payload (WritePio lba count) = transfer-on f (Wrote lba payload) Write lba count refl
unqueued-on f payload (Verify lba count) = transfer-on f was_read Read lba count refl
unqueued-on f payload (Trim blocks) = trimmed-has (λ e. on_session e.deed ≡ true) f (extents_in payload) refl (λ why. refl) refl
unqueued-on f payload (Control SetMultiple) = refl
unqueued-on f payload (Control Idle) = refl
unqueued-on f payload (Control Standby) = refl
unqueued-on f payload (Control CheckPowerMode) = refl
unqueued-on f payload (Control Diagnose) = refl
unqueued-on f payload _ = refl

queued_by-on : (h : RegH2d) (tag : ℕ) (c : Command) (v : Verdict) → on_session (queued_by h tag c v).deed ≡ true
queued_by-on h tag c (Denied why) = refl
queued_by-on h tag c Serve = refl
queued_by-on h tag c Shadow = refl

queued-on : (f : Facts) (h : RegH2d) (tag : ℕ) (c : Command) (op : Op) (lba count : ℕ) → on_session (queued_transfer f h tag c op lba count).deed ≡ true
queued-on f h tag c op lba count = either (on_drive f lba count) _ (fails_queue (Some tag) not_found h None (Some BeyondDrive)) (λ is. queued_by-on h tag c (verdict_on f op lba count)) refl

admitted-on : (f : Facts) (h : RegH2d) (tag : ℕ) (c : Command) (b : Bool) → on_session (admitted f h tag c b).deed ≡ true
admitted-on f h tag c true = refl
admitted-on f h tag (ReadQueued lba count) false = queued-on f h tag (ReadQueued lba count) Read lba count
admitted-on f h tag (WriteQueued lba count) false = queued-on f h tag (WriteQueued lba count) Write lba count
admitted-on f h tag _ false = refl

known-on : (f : Facts) (h : RegH2d) (payload : List ℕ) (r : Result (Command × Option ℕ) CommandError) → on_session (known f h payload r).deed ≡ true
known-on f h payload (Err e) = either (is_queued h.command) (fails_queue (Some (tag_of h)) aborted h None (Some (Unreadable e))) (refuses (Unreadable e)) (λ is. refl) refl
known-on f h payload (Ok (c, Some tag)) = admitted-on f h tag c (is_some (f.held tag))
known-on f h payload (Ok (c, None)) = unqueued-on f payload c

while_failed-on : (r : Result (Command × Option ℕ) CommandError) → on_session (while_failed r).deed ≡ true
while_failed-on (Ok (ReadLog10 dma, tag)) = refl
while_failed-on _ = refl

commanded-on : (f : Facts) (h : RegH2d) (payload : List ℕ) → on_session (commanded f h payload).deed ≡ true
commanded-on f h payload =
    either (not h.is_command) (refuses NoCommand) _ (λ is. refl)
    (either (is_some f.failure) (while_failed (command_read f.config h)) _ (λ is. while_failed-on (command_read f.config h))
    (either (is_busy f && not (is_queued h.command)) (fails_queue None aborted h None (Some Mixed)) (known f h payload (command_read f.config h)) (λ is. refl) (known-on f h payload (command_read f.config h))))

completed_by-on : (tag : ℕ) (payload : List ℕ) (c : Command) → on_session (completed_by tag payload c).deed ≡ true
completed_by-on tag payload (WriteQueued lba count) = refl
completed_by-on tag payload _ = refl

completed-on : (tag : ℕ) (payload : List ℕ) (h : Option HeldCommand) → on_session (completed tag payload h).deed ≡ true
completed-on tag payload None = refl
completed-on tag payload (Some h) = completed_by-on tag payload h.command

event-on : (f : Facts) (act : Act) → on_session (event_by f act).deed ≡ true
event-on f (Accept fis payload) = either (slice_index fis 0 == h2d_type) (commanded f (h2d_at fis) payload) (refuses NoCommand) (λ is. commanded-on f (h2d_at fis) payload) refl
event-on f (Complete tag payload) = completed-on tag payload (f.held tag)
event-on f (Reset kind) = refl
event-on f SoftwareReset = refl

-- and so none waits elsewhere
true-false : true ≡ false → ⊥
true-false h = cc

apart : (com_id its : ℕ) → is_session_com_id com_id ≡ false → is_session_com_id its ≡ true → (its == com_id) ≡ false
apart com_id its other one = by_test (its == com_id) refl
  where
    by_test : (b : Bool) → (its == com_id) ≡ b → b ≡ false
    by_test false is = refl
    by_test true is = absurd (true-false (sym one ∙ ap is_session_com_id (eqb-true its com_id is) ∙ other))

abbrev left : ℕ → Option (Option (List ℕ)) → List Event → Option (List ℕ)
left com_id here past = unwrap_or (or_else here (latest (waits com_id) past)) None

taken : (com_id its : ℕ) (past : List Event) (b : Bool) → waiting past com_id ≡ None → left com_id (cond b (Some None) None) past ≡ None
taken com_id its past true h = refl
taken com_id its past false h = h

left-none : (com_id : ℕ) (d : Deed) (past : List Event) → is_session_com_id com_id ≡ false → on_session d ≡ true → waiting past com_id ≡ None → left com_id (waits com_id d) past ≡ None
left-none com_id (InSession deed (Left its bytes)) past other on h = ap (λ b. left com_id (cond b (Some (Some bytes)) None) past) (apart com_id its other on) ∙ h
left-none com_id (InSession deed Silent) past other on h = h
left-none com_id (InSession deed (Dropped its)) past other on h = taken com_id its past (its == com_id) h
left-none com_id (Took its) past other on h = taken com_id its past (its == com_id) h
left-none com_id (BlockedSid block) past other on h = h
left-none com_id (Chose feature) past other on h = h
left-none com_id (PowerSet in_standby) past other on h = h
left-none com_id (WasReset kind) past other on h = refl
left-none com_id Nothing past other on h = h
left-none com_id (OfQueue d) past other on h = h
left-none com_id (Wrote lba bytes) past other on h = h
left-none com_id (Trimmed extents) past other on h = h

pub response_law : ResponseLaw
response_law o [] com_id other = refl
response_law o (act ∷ acts) com_id other = left-none com_id (event o (log o acts) act).deed (log o acts) other (event-on (facts o (log o acts)) act) (response_law o acts com_id other)
