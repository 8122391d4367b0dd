-- Where the deed of an item comes from: the session manager, or a live session.
use Rattle.std.proofs.Common.{◌≡◌, ℕ, ◌*◌, ◌==◌, Bool, true, false, ◌&&◌, ◌||◌, not, List, Option, Some, None, refl, sym, ◌∙◌, ap, cond, ◌⊎◌, inl, inr}
use Rattle.std.specs.Prelude.{is_some, nat_le, slice_index, length, Result, Ok, Err}
use Rattle.fis.specs.Types.{h2d_type}
use Rattle.fis.specs.H2d.{h2d_at}
use Rattle.fis.specs.declared.h2d.RegH2d.{RegH2d}
use Rattle.sp_cells.specs.declared.names.Sp.{Sp}
use Rattle.sp_cells.specs.declared.names.Sp.TheVariants.{Admin, Locking}
use Rattle.locking.specs.declared.range.Op.{Op}
use Rattle.locking.specs.declared.range.Op.TheVariants.{Read, Write}
use Rattle.trusted_cmds.specs.Commands.{is_queued, tag_of, sector_size}
use Rattle.compacket.specs.declared.session.Session.{Session}
use Rattle.compacket.specs.declared.session.Named.{Named}
use Rattle.compacket.specs.declared.error.FrameError.{FrameError}
use Rattle.compacket.specs.Frames.{Frame, reading as frame_in}
use Rattle.tcg_tokens.specs.declared.error.TokenError.{TokenError}
use Rattle.tcg_tokens.specs.Message.{Message, end_session}
use Rattle.tcg_tokens.specs.Reading.{reading as message_in}
use Rattle.trusted_cmds.specs.declared.command.Command.{Command}
use Rattle.trusted_cmds.specs.declared.command.Command.TheVariants.{ReadQueued, WriteQueued, ReadDma, WriteDma, Send, Receive, ReadLog10, ReadPio, WritePio, Verify, Trim, Control}
use Rattle.trusted_cmds.specs.declared.control.Control.TheVariants.{SetMultiple, Idle, Standby, CheckPowerMode, Diagnose}
use Rattle.trusted_cmds.specs.declared.command.CommandError.{CommandError}
use Rattle.locking.specs.declared.ranges.Verdict.{Verdict}
use Rattle.locking.specs.declared.ranges.Verdict.TheVariants.{Serve, Shadow, Denied}
use Rattle.sessions.specs.Deeds.{Begun, SessionDeed, StackReset, StackTold}
use Rattle.trusted_cmds.specs.BlockSid.{is_block_sid, block_asked, is_blocked}
use Rattle.device_data.specs.Discovery.{has_owner}
use Rattle.history.proofs.TrimProofs.{trimmed-has}
use Rattle.trusted_cmds.specs.Trims.{extents_in}
use Rattle.history.specs.Events.{Response, Silent, Dropped, HeldCommand, Deed, Nothing, InSession, Wrote, Event, or_else, WasReset, did, ignores, BlockedSid}
use Rattle.history.specs.Facts.{Facts, is_named, if_named, session_named, is_on_com_id}
use Rattle.history.specs.Decisions.{aborted, not_found, fails, refuses, fails_queue, on_drive, verdict_on, queued_by, queued_transfer, admitted, unqueued_by, unqueued_transfer, is_trusted, is_session_com_id, discovery_com_id, received, while_failed, is_busy, completed_by, completed, resets, asks_stack, is_received, unreceived, was_read}
use Rattle.history.specs.Tcg.{answers, to_manager, in_session, is_manager, breaks_off, broken_off, is_discarded, to_session, framed, unframed_in, unframed, broken_of, sent_by, stack_reset, stack_kept, stack_sent, unqueued, known, commanded, command_read, item_in, blocks_sid, unsent, is_sent}
use Rattle.history.specs.History.{Act, Accept, Complete, Reset, SoftwareReset, event_by}
use Rattle.sp_cells.specs.Resets.{programmatic}
use Rattle.audit.specs.declared.rules.rule.Rule.TheVariants.{NoCommand, Unreadable, Mixed, BeyondDrive, SidKept, Discarded, BrokenOff, NoSubpacket}
use Rattle.audit.specs.declared.rules.rule.Rule.{Rule}
use Rattle.device_data.specs.StackReset.{is_stack_reset}

pub record OfManager (f : Facts) (deed : SessionDeed) : Type 0 where
  pub com_id : ℕ
  pub read : Result Message TokenError
  pub does : deed ≡ (to_manager f com_id read).deed

pub record OfSession (f : Facts) (deed : SessionDeed) : Type 0 where
  pub sp : Sp
  pub session : Begun
  pub lives : f.session_on sp ≡ Some session
  pub read : Result Message TokenError
  pub does : deed ≡ (in_session f session read).deed

-- The stack of a ComID: it is reset, or it is told that nothing is to be told any more.
abbrev pub stack_deed : Facts → ℕ → Bool → SessionDeed
stack_deed f com_id true = StackReset com_id (λ sp. is_on_com_id com_id (f.session_on sp))
stack_deed f com_id false = StackTold com_id

pub record OfStack (f : Facts) (deed : SessionDeed) : Type 0 where
  pub com_id : ℕ
  pub is_reset : Bool
  pub does : deed ≡ stack_deed f com_id is_reset

record Comes (f : Facts) (e : Event) : Type 0 where
  from : (deed : SessionDeed) (response : Response) → e.deed ≡ InSession deed response → OfManager f deed ⊎ (OfSession f deed ⊎ OfStack f deed)

abbrev is_item : Deed → Bool
is_item (InSession deed response) = true
is_item _ = false

no_item : {f : Facts} {e : Event} → is_item e.deed ≡ false → Comes f e
no_item {f} {e} h = record { from = λ d r is. absurd (clash (sym h ∙ ap is_item is)) }
  where
    clash : false ≡ true → ⊥
    clash g = cc

either : (f : Facts) (b : Bool) (e g : Event) → Comes f e → Comes f g → Comes f (cond b e g)
either f true e g h k = h
either f false e g h k = k

deed-same : {d d' : SessionDeed} {r r' : Response} → InSession d r ≡ InSession d' r' → d' ≡ d
deed-same h = cc

of_manager : (f : Facts) (com_id : ℕ) (session : Session) (read : Result Message TokenError) → Comes f (answers com_id session (to_manager f com_id read))
of_manager f com_id session read = record { from = λ d r is. inl (record { com_id = com_id; read = read; does = deed-same is }) }

of_session : (f : Facts) (com_id : ℕ) (named : Session) (sp : Sp) (session : Begun) (read : Result Message TokenError) → f.session_on sp ≡ Some session → Comes f (answers com_id named (in_session f session read))
of_session f com_id named sp session read lives = record { from = λ d r is. inr (inl (record { sp = sp; session = session; lives = lives; read = read; does = deed-same is })) }

-- what ends a session without a word does what the item does that ends it
off_session : (f : Facts) (sp : Sp) (session : Begun) → f.session_on sp ≡ Some session → (rule : Rule) → Comes f (broken_off rule session.sp)
off_session f sp session lives rule = record { from = λ d r is. inr (inl (record { sp = sp; session = session; lives = lives; read = Ok end_session; does = deed-same is })) }

-- the stack of a ComID
of_stack : (f : Facts) (com_id : ℕ) (b : Bool) (e : Event) (r : Response) → e.deed ≡ InSession (stack_deed f com_id b) r → Comes f e
of_stack f com_id b e r does = record { from = λ d r' is. inr (inr (record { com_id = com_id; is_reset = b; does = deed-same (sym does ∙ is) })) }

-- the session that a packet names lives
if_named-is : (com_id : ℕ) (named : Session) (x : Option Begun) (s : Begun) → if_named com_id named x ≡ Some s → x ≡ Some s
if_named-is com_id named None s h = cc
if_named-is com_id named (Some t) s h = by_name (is_named com_id named t) h
  where
    by_name : (b : Bool) → cond b (Some t) None ≡ Some s → Some t ≡ Some s
    by_name true g = g
    by_name false g = cc

first-or : (x y : Option Begun) (s : Begun) → or_else x y ≡ Some s → (x ≡ Some s) ⊎ (y ≡ Some s)
first-or (Some t) y s h = inl h
first-or None y s h = inr h

pub named-lives : (f : Facts) (com_id : ℕ) (named : Session) (s : Begun) → session_named f com_id named ≡ Some s → (sp : Sp) × (f.session_on sp ≡ Some s)
named-lives f com_id named s h = elim (first-or (if_named com_id named (f.session_on Admin)) (if_named com_id named (f.session_on Locking)) s h) [
  | inl x ↦ (Admin, if_named-is com_id named (f.session_on Admin) s x)
  | inr x ↦ (Locking, if_named-is com_id named (f.session_on Locking) s x)
]

to_session-comes : (f : Facts) (com_id : ℕ) (named : Session) (payload : List ℕ) (s : Option Begun) → session_named f com_id named ≡ s → Comes f (to_session f com_id named payload s)
to_session-comes f com_id named payload None h = no_item refl
to_session-comes f com_id named payload (Some s) h =
    let x = named-lives f com_id named s h in
    let item = item_in f.config.profile payload in
    either f (breaks_off f.config.profile item) (broken_off BrokenOff s.sp) (answers com_id named (in_session f s item)) (off_session f x.0 s x.1 BrokenOff) (of_session f com_id named x.0 s item x.1)

framed-comes : (f : Facts) (com_id : ℕ) (frame : Frame) → Comes f (framed f com_id frame)
framed-comes f com_id frame = either f (is_manager frame.session) _ _ (either f (is_discarded f.config.profile (message_in frame.payload)) (ignores Discarded) _ (no_item refl) (of_manager f com_id frame.session (message_in frame.payload))) (to_session-comes f com_id frame.session frame.payload (session_named f com_id frame.session) refl)

unframed-comes : (f : Facts) (com_id : ℕ) (broken : Option Named) → Comes f (unframed f com_id broken)
unframed-comes f com_id None = no_item refl
unframed-comes f com_id (Some named) = either f (named.com_id == com_id) _ _ (by_session (session_named f com_id named.session) refl) (no_item refl)
  where
    by_session : (s : Option Begun) → session_named f com_id named.session ≡ s → Comes f (unframed_in s)
    by_session None h = no_item refl
    by_session (Some s) h = let x = named-lives f com_id named.session s h in off_session f x.0 s x.1 NoSubpacket

sent-comes : (f : Facts) (com_id : ℕ) (broken : Option Named) (r : Result Frame FrameError) → Comes f (sent_by f com_id broken r)
sent-comes f com_id broken (Err e) = unframed-comes f com_id broken
sent-comes f com_id broken (Ok frame) = either f (frame.com_id == com_id) _ _ (framed-comes f com_id frame) (no_item refl)

received-comes : (f : Facts) (com_id blocks : ℕ) (w : Option (List ℕ)) → Comes f (received com_id blocks w)
received-comes f com_id blocks None = no_item refl
received-comes f com_id blocks (Some r) = either f (nat_le (length r) (sector_size * blocks)) _ _ (no_item refl) (no_item refl)

unqueued_by-comes : (f : Facts) (d : Deed) (v : Verdict) → is_item d ≡ false → Comes f (unqueued_by d v)
unqueued_by-comes f d (Denied why) h = no_item refl
unqueued_by-comes f d Serve h = no_item h
unqueued_by-comes f d Shadow h = no_item h

transfer-comes : (f : Facts) (d : Deed) (op : Op) (lba count : ℕ) → is_item d ≡ false → Comes f (unqueued_transfer f d op lba count)
transfer-comes f d op lba count h = either f (on_drive f lba count) _ (fails not_found None (Some BeyondDrive)) (unqueued_by-comes f d (verdict_on f op lba count) h) (no_item refl)

unqueued-comes : (f : Facts) (payload : List ℕ) (c : Command) → Comes f (unqueued f payload c)
unqueued-comes f payload (ReadDma lba count) = transfer-comes f was_read Read lba count refl
unqueued-comes f payload (WriteDma lba count) = transfer-comes f (Wrote lba payload) Write lba count refl
unqueued-comes f payload (Send protocol com_id blocks dma) =
    either f (resets f.rows (Send protocol com_id blocks dma)) (did (WasReset programmatic)) _ (no_item refl)
    (either f (is_block_sid f.config.profile (Send protocol com_id blocks true)) (blocks_sid f payload) _
    (either f (has_owner f.rows || is_blocked f.beside.block) (refuses SidKept) (did (BlockedSid (block_asked payload))) (no_item refl) (no_item refl))
    (either f (asks_stack f.config.profile protocol com_id blocks) (stack_sent f com_id payload) _
    (either f (is_stack_reset com_id payload) (stack_reset f com_id) (stack_kept com_id) (of_stack f com_id true _ (Dropped com_id) refl) (of_stack f com_id false _ Silent refl))
    (either f (is_sent f protocol com_id blocks) _ (refuses (unsent (is_some (f.waiting com_id)) protocol com_id blocks)) (sent-comes f com_id (broken_of f.config.profile payload) (frame_in payload)) (no_item refl))))
unqueued-comes f payload (Receive protocol com_id blocks dma) =
    either f (asks_stack f.config.profile protocol com_id blocks) (did (InSession (StackTold com_id) Silent)) _ (of_stack f com_id false _ Silent refl)
    (either f (is_received f protocol com_id blocks) _ (refuses (unreceived protocol blocks)) (received-comes f com_id blocks (f.waiting com_id)) (no_item refl))
unqueued-comes f payload (ReadPio lba count) = transfer-comes f was_read Read lba count refl
unqueued-comes f payload (WritePio lba count) = transfer-comes f (Wrote lba payload) Write lba count refl
unqueued-comes f payload (Verify lba count) = transfer-comes f was_read Read lba count refl
unqueued-comes f payload (Trim blocks) = trimmed-has (Comes f) f (extents_in payload) (no_item refl) (λ why. no_item refl) (no_item refl)
unqueued-comes f payload (Control SetMultiple) = no_item refl
unqueued-comes f payload (Control Idle) = no_item refl
unqueued-comes f payload (Control Standby) = no_item refl
unqueued-comes f payload (Control CheckPowerMode) = no_item refl
unqueued-comes f payload (Control Diagnose) = no_item refl
unqueued-comes f payload _ = no_item refl

queued_by-comes : (f : Facts) (h : RegH2d) (tag : ℕ) (c : Command) (v : Verdict) → Comes f (queued_by h tag c v)
queued_by-comes f h tag c (Denied why) = no_item refl
queued_by-comes f h tag c Serve = no_item refl
queued_by-comes f h tag c Shadow = no_item refl

queued-comes : (f : Facts) (h : RegH2d) (tag : ℕ) (c : Command) (op : Op) (lba count : ℕ) → Comes f (queued_transfer f h tag c op lba count)
queued-comes f h tag c op lba count = either f (on_drive f lba count) _ (fails_queue (Some tag) not_found h None (Some BeyondDrive)) (queued_by-comes f h tag c (verdict_on f op lba count)) (no_item refl)

admitted-comes : (f : Facts) (h : RegH2d) (tag : ℕ) (c : Command) (b : Bool) → Comes f (admitted f h tag c b)
admitted-comes f h tag c true = no_item refl
admitted-comes f h tag (ReadQueued lba count) false = queued-comes f h tag (ReadQueued lba count) Read lba count
admitted-comes f h tag (WriteQueued lba count) false = queued-comes f h tag (WriteQueued lba count) Write lba count
admitted-comes f h tag _ false = no_item refl

known-comes : (f : Facts) (h : RegH2d) (payload : List ℕ) (r : Result (Command × Option ℕ) CommandError) → Comes f (known f h payload r)
known-comes f h payload (Err e) = either f (is_queued h.command) (fails_queue (Some (tag_of h)) aborted h None (Some (Unreadable e))) (refuses (Unreadable e)) (no_item refl) (no_item refl)
known-comes f h payload (Ok (c, Some tag)) = admitted-comes f h tag c (is_some (f.held tag))
known-comes f h payload (Ok (c, None)) = unqueued-comes f payload c

while_failed-comes : (f : Facts) (r : Result (Command × Option ℕ) CommandError) → Comes f (while_failed r)
while_failed-comes f (Ok (ReadLog10 dma, tag)) = no_item refl
while_failed-comes f _ = no_item refl

commanded-comes : (f : Facts) (h : RegH2d) (payload : List ℕ) → Comes f (commanded f h payload)
commanded-comes f h payload =
    either f (not h.is_command) (refuses NoCommand) _ (no_item refl)
    (either f (is_some f.failure) (while_failed (command_read f.config h)) _ (while_failed-comes f (command_read f.config h))
    (either f (is_busy f && not (is_queued h.command)) (fails_queue None aborted h None (Some Mixed)) (known f h payload (command_read f.config h)) (no_item refl) (known-comes f h payload (command_read f.config h))))

completed_by-comes : (f : Facts) (tag : ℕ) (payload : List ℕ) (c : Command) → Comes f (completed_by tag payload c)
completed_by-comes f tag payload (WriteQueued lba count) = no_item refl
completed_by-comes f tag payload _ = no_item refl

completed-comes : (f : Facts) (tag : ℕ) (payload : List ℕ) (h : Option HeldCommand) → Comes f (completed tag payload h)
completed-comes f tag payload None = no_item refl
completed-comes f tag payload (Some h) = completed_by-comes f tag payload h.command

event-comes : (f : Facts) (act : Act) → Comes f (event_by f act)
event-comes f (Accept fis payload) = either f (slice_index fis 0 == h2d_type) (commanded f (h2d_at fis) payload) (refuses NoCommand) (commanded-comes f (h2d_at fis) payload) (no_item refl)
event-comes f (Complete tag payload) = completed-comes f tag payload (f.held tag)
event-comes f (Reset kind) = no_item refl
event-comes f SoftwareReset = no_item refl

-- an item's deed comes from the session manager, from a live session, or from the stack of a ComID
pub item-from : (f : Facts) (act : Act) (deed : SessionDeed) (response : Response) → (event_by f act).deed ≡ InSession deed response → OfManager f deed ⊎ (OfSession f deed ⊎ OfStack f deed)
item-from f act deed response is = (event-comes f act).from deed response is
