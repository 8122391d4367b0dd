-- What moves data lies on the drive, and so sectors behind the last one stay zeros.
use Rattle.trusted_cmds.specs.Profiles.{payload_length_in}
use Rattle.std.proofs.Common.{◌≡◌, ℕ, ◌*◌, ◌==◌, Bool, true, false, ◌&&◌, ◌||◌, not, List, [], ◌∷◌, Option, Some, None, refl, sym, ◌∙◌, ap, cond, ◌+◌, ◌≤◌, ◌/◌, subst, arith}
use Rattle.std.specs.Prelude.{is_some, nat_le, slice_index, length, Result, Ok, Err, unwrap_or, nat_lt, take, drop, ◌-◌}
use Rattle.std.specs.List.{list_any}
use Rattle.fis.specs.Types.{h2d_type}
use Rattle.fis.specs.H2d.{h2d_at}
use Rattle.fis.specs.declared.h2d.RegH2d.{RegH2d}
use Rattle.locking.specs.declared.range.Op.{Op}
use Rattle.locking.specs.declared.range.Op.TheVariants.{Read, Write}
use Rattle.trusted_cmds.specs.Commands.{is_queued, tag_of, sector_size}
use Rattle.compacket.specs.declared.session.Session.{Session}
use Rattle.compacket.specs.declared.error.FrameError.{FrameError}
use Rattle.compacket.specs.Frames.{Frame, reading as frame_in}
use Rattle.tcg_tokens.specs.Reading.{reading as message_in}
use Rattle.trusted_cmds.specs.declared.command.Command.{Command}
use Rattle.trusted_cmds.specs.declared.command.Command.TheVariants.{ReadQueued, WriteQueued, ReadDma, WriteDma, Send, Receive, ReadLog10, Identify, Flush, SetFeatures, ReadLog, ReadPio, WritePio, Verify, Trim, Control}
use Rattle.trusted_cmds.specs.declared.control.Control.TheVariants.{SetMultiple, Idle, Standby, CheckPowerMode, Diagnose}
use Rattle.trusted_cmds.specs.declared.command.CommandError.{CommandError}
use Rattle.locking.specs.declared.ranges.Verdict.{Verdict}
use Rattle.locking.specs.declared.ranges.Verdict.TheVariants.{Serve, Shadow, Denied}
use Rattle.sessions.specs.Deeds.{Begun, StackTold}
use Rattle.trusted_cmds.specs.BlockSid.{is_block_sid, block_asked, is_blocked}
use Rattle.device_data.specs.Discovery.{has_owner}
use Rattle.history.specs.Opening.{Origin}
use Rattle.history.proofs.TrimProofs.{trimmed-has}
use Rattle.trusted_cmds.specs.Trims.{extents_in, has_sector}
use Rattle.history.specs.Events.{did, HeldCommand, Deed, Nothing, InSession, Wrote, Trimmed, Event, or_else, OfQueue, Took, BlockedSid, Chose, PowerSet, WasReset, latest, CompletedWrite, Completed, Held, QueueFailed, QueueMended, QueueEnded, ignores, Silent}
use Rattle.history.specs.Facts.{Facts, facts, session_named}
use Rattle.history.specs.Decisions.{aborted, not_found, fails, refuses, fails_queue, on_drive, verdict_on, queued_by, queued_transfer, admitted, unqueued_by, unqueued_transfer, is_trusted, is_session_com_id, discovery_com_id, received, while_failed, is_busy, completed_by, completed, resets, is_received, unreceived, asks_stack, receive_other, was_read}
use Rattle.history.specs.Tcg.{answers, to_manager, in_session, item_in, breaks_off, broken_off, is_discarded, manager_event, is_manager, to_session, framed, sent, unqueued, known, commanded, tcg, command_read, blocks_sid, unsent, is_sent, is_free_for, sent_by, broken_of, unframed, unframed_in, stack_sent, stack_reset, stack_kept}
use Rattle.history.specs.History.{Act, Accept, Complete, Reset, SoftwareReset, event_by, log}
use Rattle.shadow_mbr.specs.Erasure.{is_erased}
use Rattle.sessions.specs.Deeds.{erased_by}
use Rattle.history.specs.Readers.{part_of, writing, sector}
use Rattle.history.specs.Bounds.{IsFed, SectorLaw}
use Rattle.std.proofs.lemmas.Bool.Decides.{nat_tests}
use Rattle.shadow_mbr.specs.Stored.{zeros}
use Rattle.history.specs.Answers.{expected}
use Rattle.history.specs.DenialLaws.{Reaches, read_queued as reaches_read_queued, write_queued as reaches_write_queued, read_dma as reaches_read_dma, write_dma as reaches_write_dma, read_pio as reaches_read_pio, write_pio as reaches_write_pio, verify as reaches_verify}
use Rattle.history.specs.TransferLaws.{Writes, WasAccepted}
use Rattle.history.proofs.QuietProofs.{tcg_quiet}
use Rattle.history.proofs.HeldProofs.{held_law}
use Rattle.history.proofs.WriteProofs.{write_law}
use Rattle.history.proofs.Payloads.{payload-of-command}
use Rattle.history.proofs.WriteSizes.{size-of-write}
use Rattle.sp_cells.specs.Resets.{programmatic}
use Rattle.audit.specs.declared.rules.rule.Rule.TheVariants.{NoCommand, Unreadable, Mixed, BeyondDrive, SidKept, NoFrame, Discarded, BrokenOff}
use Rattle.compacket.specs.declared.session.Named.{Named}
use Rattle.device_data.specs.StackReset.{is_stack_reset}

-- no accepted command completes a write
abbrev quiet : Deed → Bool
quiet (OfQueue (CompletedWrite tag lba bytes)) = false
quiet _ = true

either : (b : Bool) (e g : Event) → (b ≡ true → quiet e.deed ≡ true) → quiet g.deed ≡ true → quiet (cond b e g).deed ≡ true
either true e g h k = h refl
either false e g h k = k

to_session-quiet : (f : Facts) (com_id : ℕ) (named : Session) (payload : List ℕ) (s : Option Begun) → is_session_com_id com_id ≡ true → quiet (to_session f com_id named payload s).deed ≡ true
to_session-quiet f com_id named payload None h = refl
to_session-quiet f com_id named payload (Some s) h = either (breaks_off f.config.profile (item_in f.config.profile payload)) (broken_off BrokenOff s.sp) (answers com_id named (in_session f s (item_in f.config.profile payload))) (λ is. refl) refl

framed-quiet : (f : Facts) (com_id : ℕ) (frame : Frame) → is_session_com_id com_id ≡ true → quiet (framed f com_id frame).deed ≡ true
framed-quiet f com_id frame h =
    either (is_manager frame.session) (manager_event f com_id frame.session (message_in frame.payload)) _ (λ is. either (is_discarded f.config.profile (message_in frame.payload)) (ignores Discarded) (answers com_id frame.session (to_manager f com_id (message_in frame.payload))) (λ of. refl) refl) (to_session-quiet f com_id frame.session frame.payload (session_named f com_id frame.session) h)

unframed-quiet : (f : Facts) (com_id : ℕ) (broken : Option Named) → quiet (unframed f com_id broken).deed ≡ true
unframed-quiet f com_id None = refl
unframed-quiet f com_id (Some named) = either (named.com_id == com_id) (unframed_in (session_named f com_id named.session)) (ignores NoFrame) (λ is. by_session (session_named f com_id named.session)) refl
  where
    by_session : (x : Option Begun) → quiet (unframed_in x).deed ≡ true
    by_session None = refl
    by_session (Some s) = refl

sent-quiet : (f : Facts) (com_id : ℕ) (broken : Option Named) (r : Result Frame FrameError) → is_session_com_id com_id ≡ true → quiet (sent_by f com_id broken r).deed ≡ true
sent-quiet f com_id broken (Err e) h = unframed-quiet f com_id broken
sent-quiet f com_id broken (Ok frame) h = either (frame.com_id == com_id) (framed f com_id frame) (ignores NoFrame) (λ is. framed-quiet f com_id frame h) refl

middle : (a b c : Bool) → (a && b && c) ≡ true → b ≡ true
middle true true c h = refl
middle true false c h = cc
middle false b c h = cc

received-quiet : (com_id blocks : ℕ) (w : Option (List ℕ)) → quiet (received com_id blocks w).deed ≡ true
received-quiet com_id blocks None = refl
received-quiet com_id blocks (Some r) = either (nat_le (length r) (sector_size * blocks)) (did (Took com_id)) (did Nothing) (λ is. refl) refl

unqueued_by-quiet : (d : Deed) (v : Verdict) → quiet d ≡ true → quiet (unqueued_by d v).deed ≡ true
unqueued_by-quiet d (Denied why) h = refl
unqueued_by-quiet d Serve h = h
unqueued_by-quiet d Shadow h = h

transfer-quiet : (f : Facts) (d : Deed) (op : Op) (lba count : ℕ) → quiet d ≡ true → quiet (unqueued_transfer f d op lba count).deed ≡ true
transfer-quiet f d op lba count h = either (on_drive f lba count) _ (fails not_found None (Some BeyondDrive)) (λ is. unqueued_by-quiet d (verdict_on f op lba count) h) refl

unqueued-quiet : (f : Facts) (payload : List ℕ) (c : Command) → quiet (unqueued f payload c).deed ≡ true
unqueued-quiet f payload (ReadDma lba count) = transfer-quiet f was_read Read lba count refl
unqueued-quiet f payload (WriteDma lba count) = transfer-quiet f (Wrote lba payload) Write lba count refl
unqueued-quiet f payload (Send protocol com_id blocks dma) =
    either (resets f.rows (Send protocol com_id blocks dma)) (did (WasReset programmatic)) _ (λ is. refl)
    (either (is_block_sid f.config.profile (Send protocol com_id blocks true)) (blocks_sid f payload) _
    (λ is. either (has_owner f.rows || is_blocked f.beside.block) (refuses SidKept) (did (BlockedSid (block_asked payload))) (λ is. refl) refl)
    (either (asks_stack f.config.profile protocol com_id blocks) (stack_sent f com_id payload) _ (λ is. either (is_stack_reset com_id payload) (stack_reset f com_id) (stack_kept com_id) (λ is. refl) refl)
    (either (is_sent f protocol com_id blocks) _ (refuses (unsent (is_some (f.waiting com_id)) protocol com_id blocks))
    (λ is. sent-quiet f com_id (broken_of f.config.profile payload) (frame_in payload) (middle (is_trusted protocol blocks) (is_session_com_id com_id) (is_free_for f com_id blocks) is)) refl)))
unqueued-quiet f payload (Receive protocol com_id blocks dma) = either (asks_stack f.config.profile protocol com_id blocks) (did (InSession (StackTold com_id) Silent)) (receive_other f protocol com_id blocks) (λ is. refl) (either (is_received f protocol com_id blocks) _ (refuses (unreceived protocol blocks)) (λ is. received-quiet com_id blocks (f.waiting com_id)) refl)
unqueued-quiet f payload (ReadPio lba count) = transfer-quiet f was_read Read lba count refl
unqueued-quiet f payload (WritePio lba count) = transfer-quiet f (Wrote lba payload) Write lba count refl
unqueued-quiet f payload (Verify lba count) = transfer-quiet f was_read Read lba count refl
unqueued-quiet f payload (Trim blocks) = trimmed-has (λ e. quiet e.deed ≡ true) f (extents_in payload) refl (λ why. refl) refl
unqueued-quiet f payload (Control SetMultiple) = refl
unqueued-quiet f payload (Control Idle) = refl
unqueued-quiet f payload (Control Standby) = refl
unqueued-quiet f payload (Control CheckPowerMode) = refl
unqueued-quiet f payload (Control Diagnose) = refl
unqueued-quiet f payload _ = refl

queued_by-quiet : (h : RegH2d) (tag : ℕ) (c : Command) (v : Verdict) → quiet (queued_by h tag c v).deed ≡ true
queued_by-quiet h tag c (Denied why) = refl
queued_by-quiet h tag c Serve = refl
queued_by-quiet h tag c Shadow = refl

queued-quiet : (f : Facts) (h : RegH2d) (tag : ℕ) (c : Command) (op : Op) (lba count : ℕ) → quiet (queued_transfer f h tag c op lba count).deed ≡ true
queued-quiet f h tag c op lba count = either (on_drive f lba count) _ (fails_queue (Some tag) not_found h None (Some BeyondDrive)) (λ is. queued_by-quiet h tag c (verdict_on f op lba count)) refl

admitted-quiet : (f : Facts) (h : RegH2d) (tag : ℕ) (c : Command) (b : Bool) → quiet (admitted f h tag c b).deed ≡ true
admitted-quiet f h tag c true = refl
admitted-quiet f h tag (ReadQueued lba count) false = queued-quiet f h tag (ReadQueued lba count) Read lba count
admitted-quiet f h tag (WriteQueued lba count) false = queued-quiet f h tag (WriteQueued lba count) Write lba count
admitted-quiet f h tag _ false = refl

known-quiet : (f : Facts) (h : RegH2d) (payload : List ℕ) (r : Result (Command × Option ℕ) CommandError) → quiet (known f h payload r).deed ≡ true
known-quiet f h payload (Err e) = either (is_queued h.command) (fails_queue (Some (tag_of h)) aborted h None (Some (Unreadable e))) (refuses (Unreadable e)) (λ is. refl) refl
known-quiet f h payload (Ok (c, Some tag)) = admitted-quiet f h tag c (is_some (f.held tag))
known-quiet f h payload (Ok (c, None)) = unqueued-quiet f payload c

while_failed-quiet : (r : Result (Command × Option ℕ) CommandError) → quiet (while_failed r).deed ≡ true
while_failed-quiet (Ok (ReadLog10 dma, tag)) = refl
while_failed-quiet _ = refl

commanded-quiet : (f : Facts) (h : RegH2d) (payload : List ℕ) → quiet (commanded f h payload).deed ≡ true
commanded-quiet f h payload =
    either (not h.is_command) (refuses NoCommand) _ (λ is. refl)
    (either (is_some f.failure) (while_failed (command_read f.config h)) _ (λ is. while_failed-quiet (command_read f.config h))
    (either (is_busy f && not (is_queued h.command)) (fails_queue None aborted h None (Some Mixed)) (known f h payload (command_read f.config h)) (λ is. refl) (known-quiet f h payload (command_read f.config h))))

-- bytes that end on the drive have no part behind it
behind : (place lba n sectors_on : ℕ) → lba + n ≤ sectors_on → sectors_on ≤ place → nat_lt place (lba + n) ≡ false
behind place lba n sectors_on on le = grind (arith, nat_tests)

and-false : (b : Bool) → (b && false) ≡ false
and-false true = refl
and-false false = refl

le-of : (a b : ℕ) → nat_le a b ≡ true → a ≤ b
le-of a b h = grind (arith, nat_tests)

no-part : (place lba count sectors_on : ℕ) (bytes : List ℕ) → length bytes ≡ 512 * count → nat_le (lba + count) sectors_on ≡ true → sectors_on ≤ place → part_of place lba bytes ≡ None
no-part place lba count sectors_on bytes size on le =
    let whole : length bytes / 512 ≡ count = omega (arith, size) in
    let off : nat_lt place (lba + length bytes / 512) ≡ false = behind place lba (length bytes / 512) sectors_on (omega (arith, whole, le-of (lba + count) sectors_on on)) le in
    ap (λ b. cond (nat_le lba place && b) (Some (take 512 (drop (512 * (place - lba)) bytes))) None) off
    ∙ ap (λ b. cond b (Some (take 512 (drop (512 * (place - lba)) bytes))) None) (and-false (nat_le lba place))

wrote-none : (f : Facts) (act : Act) (place lba : ℕ) (bytes : List ℕ) → IsFed f act → f.config.sectors ≤ place → (event_by f act).deed ≡ Wrote lba bytes → part_of place lba bytes ≡ None
wrote-none f act place lba bytes fed le g =
    let w : Writes tcg f act lba bytes = write_law tcg tcg_quiet f act lba bytes g in
    let size : length w.looked.payload ≡ payload_length_in f.config.profile (h2d_at w.looked.fis) =
    subst (IsFed f) w.looked.accepts fed ∙ payload-of-command f.config w.looked.fis w.looked.kind in
    no-part place lba w.count f.config.sectors bytes (ap length w.payload ∙ size ∙ size-of-write f.config.profile (h2d_at w.looked.fis) w.command lba w.count w.writes w.looked.reads) w.on_drive le

-- the transfer of a held write
record Is (l n lba count : ℕ) : Type 0 where
  first : lba ≡ l
  size : count ≡ n

moved-same : (l n : ℕ) (c : Command) (t : Option ℕ) (op : Op) (lba count : ℕ) → Reaches c t op lba count → c ≡ WriteQueued l n → Is l n lba count
moved-same l n c t op lba count (reaches_read_queued {lba = x} {count = y} {tag = z}) g = cc
moved-same l n c t op lba count (reaches_write_queued {lba = x} {count = y} {tag = z}) g = record { first = cc; size = cc }
moved-same l n c t op lba count (reaches_read_dma {lba = x} {count = y}) g = cc
moved-same l n c t op lba count (reaches_write_dma {lba = x} {count = y}) g = cc
moved-same l n c t op lba count (reaches_read_pio {lba = x} {count = y}) g = cc
moved-same l n c t op lba count (reaches_write_pio {lba = x} {count = y}) g = cc
moved-same l n c t op lba count (reaches_verify {lba = x} {count = y}) g = cc

held-fits : (o : Origin) (acts : List Act) (tag l n : ℕ) (h : HeldCommand) → (facts o (log o acts)).held tag ≡ Some h → h.command ≡ WriteQueued l n → nat_le (l + n) o.tables.config.sectors ≡ true
held-fits o acts tag l n h is command =
    let w : WasAccepted tcg o acts tag h = held_law tcg tcg_quiet o acts tag h is in
    let same = moved-same l n h.command (Some tag) w.op w.lba w.count w.moves command in
    ap (λ x. nat_le (x + n) o.tables.config.sectors) (sym same.first) ∙ ap (λ x. nat_le (w.lba + x) o.tables.config.sectors) (sym same.size) ∙ w.on_drive

abbrev left : ℕ → Option (List ℕ) → List Event → List ℕ
left place here past = unwrap_or (or_else here (latest (writing place) past)) zeros

left-none : (place : ℕ) (past : List Event) (x : Option (List ℕ)) → x ≡ None → sector past place ≡ zeros → left place x past ≡ zeros
left-none place past x is rest = ap (λ y. left place y past) is ∙ rest

erased-left : (place : ℕ) (past : List Event) (b : Bool) → sector past place ≡ zeros → left place (cond b (Some zeros) None) past ≡ zeros
erased-left place past true rest = refl
erased-left place past false rest = rest

true-false : true ≡ false → ⊥
true-false h = cc

queue-left : (place : ℕ) (past : List Event) (d : _) → quiet (OfQueue d) ≡ true → sector past place ≡ zeros → left place (writing place (OfQueue d)) past ≡ zeros
queue-left place past (CompletedWrite t l bytes) h rest = absurd (true-false (sym h))
queue-left place past (Completed t) h rest = rest
queue-left place past (Held t x) h rest = rest
queue-left place past (QueueFailed x) h rest = rest
queue-left place past QueueMended h rest = rest
queue-left place past QueueEnded h rest = rest

deed-left : (f : Facts) (act : Act) (place : ℕ) (past : List Event) (d : Deed) → IsFed f act → f.config.sectors ≤ place → (event_by f act).deed ≡ d → quiet d ≡ true → sector past place ≡ zeros → left place (writing place d) past ≡ zeros
deed-left f act place past (Wrote lba bytes) fed le is h rest = left-none place past (part_of place lba bytes) (wrote-none f act place lba bytes fed le is) rest
deed-left f act place past (Trimmed extents) fed le is h rest = erased-left place past (list_any (has_sector place) extents) rest
deed-left f act place past (OfQueue d) fed le is h rest = queue-left place past d h rest
deed-left f act place past (InSession d r) fed le is h rest = erased-left place past (is_erased (erased_by d) place) rest
deed-left f act place past Nothing fed le is h rest = rest
deed-left f act place past (Took c) fed le is h rest = rest
deed-left f act place past (BlockedSid block) fed le is h rest = rest
deed-left f act place past (Chose feature) fed le is h rest = rest
deed-left f act place past (PowerSet in_standby) fed le is h rest = rest
deed-left f act place past (WasReset kind) fed le is h rest = rest

completed-left : (o : Origin) (acts : List Act) (tag place : ℕ) (payload : List ℕ) (x : Option HeldCommand) → (facts o (log o acts)).held tag ≡ x → length payload ≡ expected x → o.tables.config.sectors ≤ place → sector (log o acts) place ≡ zeros
    → left place (writing place (completed tag payload x).deed) (log o acts) ≡ zeros
completed-left o acts tag place payload None is size le rest = rest
completed-left o acts tag place payload (Some h) is size le rest = by_command h.command refl
  where
    by_command : (c : Command) → h.command ≡ c → left place (writing place (completed_by tag payload c).deed) (log o acts) ≡ zeros
    by_command (WriteQueued l n) command =
        left-none place (log o acts) (part_of place l payload) (no-part place l n o.tables.config.sectors payload (size ∙ ap (λ c. expected (Some (record { command = c; verdict = h.verdict }))) command) (held-fits o acts tag l n h is command) le) rest
    by_command (ReadQueued l n) command = rest
    by_command (ReadDma l n) command = rest
    by_command (WriteDma l n) command = rest
    by_command (Send p c b d) command = rest
    by_command (Receive p c b d) command = rest
    by_command Identify command = rest
    by_command (ReadLog10 d) command = rest
    by_command Flush command = rest
    by_command (SetFeatures feature) command = rest
    by_command (ReadLog page dma) command = rest
    by_command (ReadPio l n) command = rest
    by_command (WritePio l n) command = rest
    by_command (Verify l n) command = rest
    by_command (Trim blocks) command = rest
    by_command (Control control) command = rest

accept-quiet : (f : Facts) (fis payload : List ℕ) → quiet (event_by f (Accept fis payload)).deed ≡ true
accept-quiet f fis payload = either (slice_index fis 0 == h2d_type) (commanded f (h2d_at fis) payload) (refuses NoCommand) (λ is. commanded-quiet f (h2d_at fis) payload) refl

pub sector_law : SectorLaw
sector_law o [] place fed le = refl
sector_law o (Accept fis payload ∷ acts) place fed le =
    deed-left (facts o (log o acts)) (Accept fis payload) place (log o acts) (event_by (facts o (log o acts)) (Accept fis payload)).deed fed.0 le refl (accept-quiet (facts o (log o acts)) fis payload) (sector_law o acts place fed.1 le)
sector_law o (Complete tag payload ∷ acts) place fed le = completed-left o acts tag place payload ((facts o (log o acts)).held tag) refl fed.0 le (sector_law o acts place fed.1 le)
sector_law o (Reset kind ∷ acts) place fed le = sector_law o acts place fed.1 le
sector_law o (SoftwareReset ∷ acts) place fed le = sector_law o acts place fed.1 le
