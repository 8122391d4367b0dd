-- What moves data is on the drive, and permitted.
use Rattle.std.proofs.Common.{◌≡◌, ℕ, ◌==◌, ◌*◌, Bool, true, false, ◌&&◌, ◌||◌, not, List, [], Option, Some, None, refl, sym, subst, ◌∙◌, ap, cond, eqb-true}
use Rattle.std.specs.Prelude.{is_some, slice_index, nat_le, length, Result, Ok, Err}
use Rattle.fis.specs.Types.{h2d_type}
use Rattle.fis.specs.H2d.{h2d_at}
use Rattle.fis.specs.declared.h2d.RegH2d.{RegH2d}
use Rattle.locking.specs.declared.range.Op.TheVariants.{Read, Write}
use Rattle.trusted_cmds.specs.Commands.{is_queued, tag_of, sector_size}
use Rattle.trusted_cmds.specs.declared.command.Command.{Command}
use Rattle.trusted_cmds.specs.declared.command.Command.TheVariants.{ReadQueued, WriteQueued, ReadDma, WriteDma, Send, Receive, Identify, ReadLog10, Flush, SetFeatures, ReadLog, ReadPio, WritePio, Verify, Trim, Control}
use Rattle.trusted_cmds.specs.declared.control.Control.TheVariants.{SetMultiple, Idle, Standby, CheckPowerMode, Diagnose}
use Rattle.trusted_cmds.specs.declared.command.CommandError.{CommandError}
use Rattle.locking.specs.declared.ranges.Verdict.{Verdict}
use Rattle.locking.specs.declared.ranges.Verdict.TheVariants.{Serve, Shadow, Denied}
use Rattle.device_data.specs.declared.log_page.Failure.{Failure}
use Rattle.history.specs.Events.{HeldCommand, Deed, Nothing, InSession, OfQueue, Wrote, Trimmed, Took, BlockedSid, Chose, PowerSet, Event, did, WasReset, Silent}
use Rattle.history.specs.Facts.{Facts}
use Rattle.history.specs.Decisions.{not_found, aborted, fails, refuses, fails_queue, on_drive, ranges_in_force, verdict_on, queued_by, admitted, unqueued_by, is_trusted, is_session_com_id, discovery_com_id, received, while_failed, is_busy, completed_by, completed, resets, unqueued_of, known_of, commanded_of, is_received, unreceived, asks_stack, receive_other, was_read}
use Rattle.history.specs.Items.{Items}
use Rattle.history.specs.Quiet.{is_quiet, IsQuiet}
use Rattle.history.specs.History.{Act, Accept, Complete, Reset, SoftwareReset, event_in}
use Rattle.history.specs.Looked.{IsLookedAtBy}
use Rattle.history.specs.DenialLaws.{Reaches, write_dma, write_pio}
use Rattle.history.specs.TransferLaws.{IsPermitted, is_denied, Writes, WriteLaw}
use Rattle.history.proofs.TransferProofs.{verdict_law}
use Rattle.history.proofs.TrimProofs.{trimmed-has}
use Rattle.trusted_cmds.specs.Trims.{extents_in}
use Rattle.sp_cells.specs.Resets.{programmatic}
use Rattle.audit.specs.declared.rules.rule.Rule.TheVariants.{NoCommand, Unreadable, Mixed, BeyondDrive}
use Rattle.sessions.specs.Deeds.{StackTold}

abbrev is_write : Deed → Bool
is_write (Wrote lba bytes) = true
is_write _ = false

false-true : false ≡ true → ⊥
false-true h = cc

not-write : {d : Deed} {lba : ℕ} {bytes : List ℕ} → is_write d ≡ false → d ≡ Wrote lba bytes → ⊥
not-write g is = false-true (sym g ∙ ap is_write is)

none-if : (b : Bool) (x y : Event) → is_write x.deed ≡ false → is_write y.deed ≡ false → is_write (cond b x y).deed ≡ false
none-if true x y h g = h
none-if false x y h g = g

unqueued_by-none : (d : Deed) (v : Verdict) → is_write d ≡ false → is_write (unqueued_by d v).deed ≡ false
unqueued_by-none d Serve h = h
unqueued_by-none d Shadow h = h
unqueued_by-none d (Denied why) h = refl

quiet-none : (d : Deed) → is_quiet d ≡ true → is_write d ≡ false
quiet-none Nothing h = refl
quiet-none (InSession deed response) h = refl
quiet-none (OfQueue deed) h = refl
quiet-none (Wrote lba bytes) h = cc
quiet-none (Trimmed extents) h = cc
quiet-none (Took com_id) h = refl
quiet-none (BlockedSid block) h = refl
quiet-none (Chose feature) h = refl
quiet-none (PowerSet in_standby) h = refl
quiet-none (WasReset kind) h = refl

received-none : (com_id blocks : ℕ) (x : Option (List ℕ)) → is_write (received com_id blocks x).deed ≡ false
received-none com_id blocks None = refl
received-none com_id blocks (Some r) = none-if (nat_le (length r) (sector_size * blocks)) (did (Took com_id)) (did Nothing) refl refl

-- a served write
abbrev moved : Deed → ℕ × List ℕ
moved (Wrote lba bytes) = (lba, bytes)
moved _ = (0, [])

written-as : (items : Items) (f : Facts) (act : Act) (l lba n : ℕ) (bytes : List ℕ) (c : Command) → Reaches c None Write l n → (looked : IsLookedAtBy items f act c None) → on_drive f l n ≡ true → IsPermitted (ranges_in_force f) Write l n → Wrote l looked.payload ≡ Wrote lba bytes → Writes items f act lba bytes
written-as items f act l lba n bytes c writes looked drive may same =
    let is_lba : l ≡ lba = ap (λ (p : ℕ × List ℕ). p.0) (ap moved same) in
    let made : Writes items f act l looked.payload = record { count = n; command = c; writes = writes; looked = looked; payload = refl; on_drive = drive; permitted = may } in
    subst (λ x. Writes items f act x bytes) is_lba (subst (Writes items f act l) (ap (λ (p : ℕ × List ℕ). p.1) (ap moved same)) made)

served-is : (items : Items) (f : Facts) (act : Act) (l n lba : ℕ) (bytes : List ℕ) (c : Command) → Reaches c None Write l n → (looked : IsLookedAtBy items f act c None) → (b : Bool) (v : Verdict) → on_drive f l n ≡ b → verdict_on f Write l n ≡ v → (cond b (unqueued_by (Wrote l looked.payload) v) (fails not_found None (Some BeyondDrive))).deed ≡ Wrote lba bytes → Writes items f act lba bytes
served-is items f act l n lba bytes c writes looked false v drive is g = absurd (not-write refl g)
served-is items f act l n lba bytes c writes looked true (Denied why) drive is g = absurd (not-write refl g)
served-is items f act l n lba bytes c writes looked true Serve drive is g = written-as items f act l lba n bytes c writes looked drive ((verdict_law (ranges_in_force f) Write l n).served.0 (ap is_denied is)) g
served-is items f act l n lba bytes c writes looked true Shadow drive is g = written-as items f act l lba n bytes c writes looked drive ((verdict_law (ranges_in_force f) Write l n).served.0 (ap is_denied is)) g

unqueued-is : (items : Items) (still : IsQuiet items) (f : Facts) (act : Act) (lba : ℕ) (bytes : List ℕ) (c : Command) (looked : IsLookedAtBy items f act c None) → (unqueued_of items f looked.payload c).deed ≡ Wrote lba bytes → Writes items f act lba bytes
unqueued-is items still f act lba bytes (WriteDma l n) looked g = served-is items f act l n lba bytes (WriteDma l n) write_dma looked (on_drive f l n) (verdict_on f Write l n) refl refl g
unqueued-is items still f act lba bytes (ReadDma l n) looked g = absurd (not-write (none-if (on_drive f l n) (unqueued_by was_read (verdict_on f Read l n)) (fails not_found None (Some BeyondDrive)) (unqueued_by-none was_read (verdict_on f Read l n) refl) refl) g)
unqueued-is items still f act lba bytes (Send p c b d) looked g =
    absurd (not-write (none-if (resets f.rows (Send p c b d)) (did (WasReset programmatic)) (items.sends f p c b looked.payload) refl
    (quiet-none (items.sends f p c b looked.payload).deed (still f p c b looked.payload))) g)
unqueued-is items still f act lba bytes (Receive p c b d) looked g = absurd (not-write (none-if (asks_stack f.config.profile p c b) (did (InSession (StackTold c) Silent)) (receive_other f p c b) refl (none-if (is_received f p c b) (received c b (f.waiting c)) (refuses (unreceived p b)) (received-none c b (f.waiting c)) refl)) g)
unqueued-is items still f act lba bytes (ReadQueued l n) looked g = absurd (not-write refl g)
unqueued-is items still f act lba bytes (WriteQueued l n) looked g = absurd (not-write refl g)
unqueued-is items still f act lba bytes Identify looked g = absurd (not-write refl g)
unqueued-is items still f act lba bytes (ReadLog10 d) looked g = absurd (not-write refl g)
unqueued-is items still f act lba bytes Flush looked g = absurd (not-write refl g)
unqueued-is items still f act lba bytes (SetFeatures feature) looked g = absurd (not-write refl g)
unqueued-is items still f act lba bytes (ReadLog page dma) looked g = absurd (not-write refl g)
unqueued-is items still f act lba bytes (ReadPio l n) looked g = absurd (not-write (none-if (on_drive f l n) (unqueued_by was_read (verdict_on f Read l n)) (fails not_found None (Some BeyondDrive)) (unqueued_by-none was_read (verdict_on f Read l n) refl) refl) g)
unqueued-is items still f act lba bytes (WritePio l n) looked g = served-is items f act l n lba bytes (WritePio l n) write_pio looked (on_drive f l n) (verdict_on f Write l n) refl refl g
unqueued-is items still f act lba bytes (Verify l n) looked g = absurd (not-write (none-if (on_drive f l n) (unqueued_by was_read (verdict_on f Read l n)) (fails not_found None (Some BeyondDrive)) (unqueued_by-none was_read (verdict_on f Read l n) refl) refl) g)
unqueued-is items still f act lba bytes (Trim blocks) looked g =
    absurd (not-write (trimmed-has (λ e. is_write e.deed ≡ false) f (extents_in looked.payload) refl (λ why. refl) refl) g)
unqueued-is items still f act lba bytes (Control SetMultiple) looked g = absurd (not-write refl g)
unqueued-is items still f act lba bytes (Control Idle) looked g = absurd (not-write refl g)
unqueued-is items still f act lba bytes (Control Standby) looked g = absurd (not-write refl g)
unqueued-is items still f act lba bytes (Control CheckPowerMode) looked g = absurd (not-write refl g)
unqueued-is items still f act lba bytes (Control Diagnose) looked g = absurd (not-write refl g)

queued-none : (h : RegH2d) (tag : ℕ) (c : Command) (b : Bool) (v : Verdict) → is_write (cond b (queued_by h tag c v) (fails_queue (Some tag) not_found h None (Some BeyondDrive))).deed ≡ false
queued-none h tag c false v = refl
queued-none h tag c true (Denied why) = refl
queued-none h tag c true Serve = refl
queued-none h tag c true Shadow = refl

admitted-none : (f : Facts) (h : RegH2d) (tag : ℕ) (c : Command) (b : Bool) → is_write (admitted f h tag c b).deed ≡ false
admitted-none f h tag c true = refl
admitted-none f h tag (ReadQueued l n) false = queued-none h tag (ReadQueued l n) (on_drive f l n) (verdict_on f Read l n)
admitted-none f h tag (WriteQueued l n) false = queued-none h tag (WriteQueued l n) (on_drive f l n) (verdict_on f Write l n)
admitted-none f h tag _ false = refl

while_failed-none : (r : Result (Command × Option ℕ) CommandError) → is_write (while_failed r).deed ≡ false
while_failed-none (Ok (ReadLog10 dma, tag)) = refl
while_failed-none _ = refl

accept-is : (items : Items) (still : IsQuiet items) (f : Facts) (fis payload : List ℕ) (lba : ℕ) (bytes : List ℕ) → (event_in items f (Accept fis payload)).deed ≡ Wrote lba bytes → Writes items f (Accept fis payload) lba bytes
accept-is items still f fis payload lba bytes g = by_kind (slice_index fis 0 == h2d_type) refl g
  where
    c : RegH2d
    c = h2d_at fis

    by_reading : (slice_index fis 0 == h2d_type) ≡ true → c.is_command ≡ true → f.failure ≡ None → (is_busy f && not (is_queued c.command)) ≡ false → (r : Result (Command × Option ℕ) CommandError) → items.reads f.config c ≡ r → (known_of items f c payload r).deed ≡ Wrote lba bytes → Writes items f (Accept fis payload) lba bytes
    by_reading kind commands mended unmixed (Err e) is k = absurd (not-write (none-if (is_queued c.command) (fails_queue (Some (tag_of c)) aborted c None (Some (Unreadable e))) (refuses (Unreadable e)) refl refl) k)
    by_reading kind commands mended unmixed (Ok (command, Some t)) is k = absurd (not-write (admitted-none f c t command (is_some (f.held t))) k)
    by_reading kind commands mended unmixed (Ok (command, None)) is k =
        unqueued-is items still f (Accept fis payload) lba bytes command (record { fis = fis; payload = payload; accepts = refl; kind = eqb-true (slice_index fis 0) h2d_type kind; commands = commands; mended = mended; unmixed = unmixed; reads = is }) k

    by_mix : (slice_index fis 0 == h2d_type) ≡ true → c.is_command ≡ true → f.failure ≡ None → (b : Bool) → (is_busy f && not (is_queued c.command)) ≡ b → (cond b (fails_queue None aborted c None (Some Mixed)) (known_of items f c payload (items.reads f.config c))).deed ≡ Wrote lba bytes → Writes items f (Accept fis payload) lba bytes
    by_mix kind commands mended true is k = absurd (not-write refl k)
    by_mix kind commands mended false is k = by_reading kind commands mended is (items.reads f.config c) refl k

    by_failure : (slice_index fis 0 == h2d_type) ≡ true → c.is_command ≡ true → (x : Option Failure) → f.failure ≡ x → (cond (is_some x) (while_failed (items.reads f.config c)) (cond (is_busy f && not (is_queued c.command)) (fails_queue None aborted c None (Some Mixed)) (known_of items f c payload (items.reads f.config c)))).deed ≡ Wrote lba bytes → Writes items f (Accept fis payload) lba bytes
    by_failure kind commands (Some x) is k = absurd (not-write (while_failed-none (items.reads f.config c)) k)
    by_failure kind commands None is k = by_mix kind commands is (is_busy f && not (is_queued c.command)) refl k

    by_command : (slice_index fis 0 == h2d_type) ≡ true → (b : Bool) → c.is_command ≡ b → (cond (not b) (refuses NoCommand) (cond (is_some f.failure) (while_failed (items.reads f.config c)) (cond (is_busy f && not (is_queued c.command)) (fails_queue None aborted c None (Some Mixed)) (known_of items f c payload (items.reads f.config c))))).deed ≡ Wrote lba bytes → Writes items f (Accept fis payload) lba bytes
    by_command kind false is k = absurd (not-write refl k)
    by_command kind true is k = by_failure kind is f.failure refl k

    by_kind : (b : Bool) → (slice_index fis 0 == h2d_type) ≡ b → (cond b (commanded_of items f c payload) (refuses NoCommand)).deed ≡ Wrote lba bytes → Writes items f (Accept fis payload) lba bytes
    by_kind false is k = absurd (not-write refl k)
    by_kind true is k = by_command is c.is_command refl k

completed-none : (tag : ℕ) (payload : List ℕ) (x : Option HeldCommand) → is_write (completed tag payload x).deed ≡ false
completed-none tag payload None = refl
completed-none tag payload (Some h) = by_command h.command
  where
    by_command : (c : Command) → is_write (completed_by tag payload c).deed ≡ false
    by_command (WriteQueued l n) = refl
    by_command _ = refl

pub write_law : WriteLaw
write_law items still f (Accept fis payload) lba bytes g = accept-is items still f fis payload lba bytes g
write_law items still f (Complete tag payload) lba bytes g = absurd (not-write (completed-none tag payload (f.held tag)) g)
write_law items still f (Reset kind) lba bytes g = absurd (not-write refl g)
write_law items still f SoftwareReset lba bytes g = absurd (not-write refl g)
