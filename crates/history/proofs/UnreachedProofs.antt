-- A command that reaches no data leaves media, and gives nothing of them.
use Rattle.std.proofs.Common.{◌≡◌, ℕ, ◌*◌, ◌==◌, Bool, true, false, ◌&&◌, not, List, [], Option, Some, None, refl, sym, ◌∙◌, ap, cond, inl, inr}
use Rattle.std.specs.Prelude.{is_some, nat_le, length, slice_index, Result, Ok, Err, ◌⊎◌}
use Rattle.fis.specs.Types.{h2d_type}
use Rattle.fis.specs.H2d.{h2d_at}
use Rattle.fis.specs.declared.h2d.RegH2d.{RegH2d}
use Rattle.locking.specs.declared.range.Op.TheVariants.{Read, Write}
use Rattle.locking.specs.declared.ranges.Verdict.{Verdict}
use Rattle.locking.specs.declared.ranges.Verdict.TheVariants.{Serve, Shadow, Denied}
use Rattle.trusted_cmds.specs.Commands.{is_queued, sector_size, is_protocol_list}
use Rattle.trusted_cmds.specs.declared.command.Command.{Command}
use Rattle.trusted_cmds.specs.declared.command.Command.TheVariants.{ReadQueued, WriteQueued, ReadDma, WriteDma, Send, Receive, Identify, ReadLog10, Flush, SetFeatures, ReadLog, ReadPio, WritePio, Verify, Trim, Control}
use Rattle.trusted_cmds.specs.declared.control.Control.TheVariants.{SetMultiple, Idle, Standby, CheckPowerMode, Diagnose}
use Rattle.trusted_cmds.specs.declared.command.CommandError.{CommandError}
use Rattle.device_data.specs.ErrorLog.{sized}
use Rattle.device_data.specs.Protocols.{protocol_list}
use Rattle.shadow_mbr.specs.Erasure.{is_erased}
use Rattle.shadow_mbr.specs.Stored.{zeros}
use Rattle.sessions.specs.Deeds.{StackTold, erased_by}
use Rattle.history.specs.Events.{QueueDeed, Held, Completed, CompletedWrite, QueueFailed, QueueMended, QueueEnded, Deed, Nothing, InSession, Silent, OfQueue, Wrote, Trimmed, Took, BlockedSid, Chose, PowerSet, WasReset, Event, did}
use Rattle.history.specs.Readers.{writing}
use Rattle.history.specs.Facts.{Facts}
use Rattle.history.specs.Decisions.{not_found, refuses, fails_queue, on_drive, verdict_on, queued_by, admitted, received, is_busy, resets, unqueued_of, while_failed, is_received, unreceived, asks_stack, asks_certificates, receive_other}
use Rattle.history.specs.Answers.{data_read_of, block_of}
use Rattle.history.specs.Items.{Items}
use Rattle.history.specs.Quiet.{is_quiet, IsQuiet}
use Rattle.history.specs.Tcg.{tcg, unqueued, known, command_read, certificates_or, stack_or}
use Rattle.history.specs.History.{Act, Accept, Complete, Reset, SoftwareReset, event_in, event_by}
use Rattle.history.specs.DenialLaws.{read_dma, write_dma, read_pio, write_pio, verify}
use Rattle.history.specs.TransferLaws.{ReachesNone, LeavesMedia, with_sectors, UnwrittenLaw, UngivenLaw, UnreachedLaw}
use Rattle.history.proofs.MethodProofs.{looked_event, looked_law}
use Rattle.sp_cells.specs.Resets.{programmatic}
use Rattle.audit.specs.declared.rules.rule.Rule.TheVariants.{NoCommand, Mixed, BeyondDrive}

-- the deeds that move bytes to media
abbrev is_write : Deed → Bool
is_write (Wrote lba bytes) = true
is_write (OfQueue (CompletedWrite tag lba bytes)) = true
is_write (Trimmed extents) = true
is_write _ = false

true-false : true ≡ false → ⊥
true-false h = cc

-- all others leave them
leaves : (deed : Deed) → is_write deed ≡ false → LeavesMedia deed
leaves deed none = record {
  unwritten = λ lba bytes is. true-false (sym (ap is_write is) ∙ none);
  untrimmed = λ extents is. true-false (sym (ap is_write is) ∙ none);
  left = λ place. left deed none place;
}
  where
    erased : (b : Bool) → (◌≡◌ {A = Option (List ℕ)} (cond b (Some zeros) None) None) ⊎ (cond b (Some zeros) None ≡ Some zeros)
    erased true = inr refl
    erased false = inl refl

    of-queue : (d : QueueDeed) → is_write (OfQueue d) ≡ false → (place : ℕ) → (writing place (OfQueue d) ≡ None) ⊎ (writing place (OfQueue d) ≡ Some zeros)
    of-queue (CompletedWrite t l bytes) h place = absurd (true-false h)
    of-queue (Completed t) h place = inl refl
    of-queue (Held t x) h place = inl refl
    of-queue (QueueFailed x) h place = inl refl
    of-queue QueueMended h place = inl refl
    of-queue QueueEnded h place = inl refl

    left : (d : Deed) → is_write d ≡ false → (place : ℕ) → (writing place d ≡ None) ⊎ (writing place d ≡ Some zeros)
    left (Wrote lba bytes) h place = absurd (true-false h)
    left (Trimmed extents) h place = absurd (true-false h)
    left (OfQueue d) h place = of-queue d h place
    left (InSession d response) h place = erased (is_erased (erased_by d) place)
    left Nothing h place = inl refl
    left (Took com_id) h place = inl refl
    left (BlockedSid block) h place = inl refl
    left (Chose feature) h place = inl refl
    left (PowerSet in_standby) h place = inl refl
    left (WasReset kind) h place = inl refl

none-if : (b : Bool) (x y : Event) → is_write x.deed ≡ false → is_write y.deed ≡ false → is_write (cond b x y).deed ≡ false
none-if true x y h g = h
none-if false x y h g = g

quiet-none : (d : Deed) → is_quiet d ≡ true → is_write d ≡ false
quiet-none Nothing h = refl
quiet-none (InSession deed response) h = refl
quiet-none (OfQueue deed) h = cc
quiet-none (Wrote lba bytes) h = cc
quiet-none (Trimmed extents) h = cc
quiet-none (Took com_id) h = refl
quiet-none (BlockedSid block) h = refl
quiet-none (Chose feature) h = refl
quiet-none (PowerSet in_standby) h = refl
quiet-none (WasReset kind) h = refl

received-none : (com_id blocks : ℕ) (x : Option (List ℕ)) → is_write (received com_id blocks x).deed ≡ false
received-none com_id blocks None = refl
received-none com_id blocks (Some r) = none-if (nat_le (length r) (sector_size * blocks)) (did (Took com_id)) (did Nothing) refl refl

unqueued-none : (items : Items) (still : IsQuiet items) (f : Facts) (payload : List ℕ) (c : Command) → ReachesNone c None → is_write (unqueued_of items f payload c).deed ≡ false
unqueued-none items still f payload (ReadDma l n) none = absurd (none.reached Read l n read_dma)
unqueued-none items still f payload (WriteDma l n) none = absurd (none.reached Write l n write_dma)
unqueued-none items still f payload (ReadPio l n) none = absurd (none.reached Read l n read_pio)
unqueued-none items still f payload (WritePio l n) none = absurd (none.reached Write l n write_pio)
unqueued-none items still f payload (Verify l n) none = absurd (none.reached Read l n verify)
unqueued-none items still f payload (Send p c b d) none =
    none-if (resets f.rows (Send p c b d)) (did (WasReset programmatic)) (items.sends f p c b payload) refl
    (quiet-none (items.sends f p c b payload).deed (still f p c b payload))
unqueued-none items still f payload (Receive p c b d) none =
    none-if (asks_stack f.config.profile p c b) (did (InSession (StackTold c) Silent)) (receive_other f p c b) refl
    (none-if (is_received f p c b) (received c b (f.waiting c)) (refuses (unreceived p b)) (received-none c b (f.waiting c)) refl)
unqueued-none items still f payload (ReadQueued l n) none = refl
unqueued-none items still f payload (WriteQueued l n) none = refl
unqueued-none items still f payload Identify none = refl
unqueued-none items still f payload (ReadLog10 d) none = refl
unqueued-none items still f payload Flush none = refl
unqueued-none items still f payload (SetFeatures feature) none = refl
unqueued-none items still f payload (ReadLog page dma) none = refl
unqueued-none items still f payload (Trim blocks) none = absurd (true-false none.trims_none)
unqueued-none items still f payload (Control SetMultiple) none = refl
unqueued-none items still f payload (Control Idle) none = refl
unqueued-none items still f payload (Control Standby) none = refl
unqueued-none items still f payload (Control CheckPowerMode) none = refl
unqueued-none items still f payload (Control Diagnose) none = refl

queued-none : (h : RegH2d) (tag : ℕ) (c : Command) (b : Bool) (v : Verdict) → is_write (cond b (queued_by h tag c v) (fails_queue (Some tag) not_found h None (Some BeyondDrive))).deed ≡ false
queued-none h tag c false v = refl
queued-none h tag c true (Denied why) = refl
queued-none h tag c true Serve = refl
queued-none h tag c true Shadow = refl

admitted-none : (f : Facts) (h : RegH2d) (tag : ℕ) (c : Command) (b : Bool) → is_write (admitted f h tag c b).deed ≡ false
admitted-none f h tag c true = refl
admitted-none f h tag (ReadQueued l n) false = queued-none h tag (ReadQueued l n) (on_drive f l n) (verdict_on f Read l n)
admitted-none f h tag (WriteQueued l n) false = queued-none h tag (WriteQueued l n) (on_drive f l n) (verdict_on f Write l n)
admitted-none f h tag _ false = refl

looked-none : (items : Items) (still : IsQuiet items) (f : Facts) (h : RegH2d) (payload : List ℕ) (c : Command) (tag : Option ℕ) → ReachesNone c tag → is_write (looked_event items f h payload c tag).deed ≡ false
looked-none items still f h payload c None none = unqueued-none items still f payload c none
looked-none items still f h payload c (Some tag) none = admitted-none f h tag c (is_some (f.held tag))

unwritten_law : UnwrittenLaw
unwritten_law items still f act command tag looked none =
    leaves (event_in items f act).deed
    (ap (λ (e : Event). is_write e.deed) (looked_law items f act command tag looked)
    ∙ looked-none items still f (h2d_at looked.fis) looked.payload command tag none)

-- no event rests on what media hold
unqueued-same : (f : Facts) (m : ℕ → List ℕ) (payload : List ℕ) (c : Command) → unqueued (with_sectors f m) payload c ≡ unqueued f payload c
unqueued-same f m payload (Send p c k d) = refl
unqueued-same f m payload (ReadQueued l k) = refl
unqueued-same f m payload (WriteQueued l k) = refl
unqueued-same f m payload (ReadDma l k) = refl
unqueued-same f m payload (WriteDma l k) = refl
unqueued-same f m payload (Receive p c k d) = refl
unqueued-same f m payload Identify = refl
unqueued-same f m payload (ReadLog10 d) = refl
unqueued-same f m payload Flush = refl
unqueued-same f m payload (SetFeatures feature) = refl
unqueued-same f m payload (ReadLog page dma) = refl
unqueued-same f m payload (ReadPio l k) = refl
unqueued-same f m payload (WritePio l k) = refl
unqueued-same f m payload (Verify l k) = refl
unqueued-same f m payload (Trim blocks) = refl
unqueued-same f m payload (Control control) = refl

known-same : (f : Facts) (m : ℕ → List ℕ) (r : RegH2d) (payload : List ℕ) (x : Result (Command × Option ℕ) CommandError) → known (with_sectors f m) r payload x ≡ known f r payload x
known-same f m r payload (Err e) = refl
known-same f m r payload (Ok (c, Some tag)) = refl
known-same f m r payload (Ok (c, None)) = unqueued-same f m payload c

event-same : (f : Facts) (m : ℕ → List ℕ) (act : Act) → event_by (with_sectors f m) act ≡ event_by f act
event-same f m (Accept fis payload) =
    let r : RegH2d = h2d_at fis in
    ap (λ e. cond (slice_index fis 0 == h2d_type) (cond (not r.is_command) (refuses NoCommand) (cond (is_some f.failure) (while_failed (command_read f.config r)) (cond (is_busy f && not (is_queued r.command)) (fails_queue None 0x04 r None (Some Mixed)) e))) (refuses NoCommand))
    (known-same f m r payload (command_read f.config r))
event-same f m (Complete tag payload) = refl
event-same f m (Reset kind) = refl
event-same f m SoftwareReset = refl

-- nor what such a command gives
certificates-same : (f : Facts) (m : ℕ → List ℕ) (b : Bool) (com_id room : ℕ) → certificates_or b (with_sectors f m) com_id room ≡ certificates_or b f com_id room
certificates-same f m true com_id room = refl
certificates-same f m false com_id room = refl

stack-same : (f : Facts) (m : ℕ → List ℕ) (b : Bool) (c : Command) (com_id room : ℕ) → stack_or b (with_sectors f m) c com_id room ≡ stack_or b f c com_id room
stack-same f m true c com_id room = refl
stack-same f m false c com_id room = certificates-same f m (asks_certificates f.config.profile c) com_id room

block-same : (f : Facts) (m : ℕ → List ℕ) (c : Command) → ReachesNone c None → block_of tcg (with_sectors f m) c ≡ block_of tcg f c
block-same f m (ReadDma l n) none = absurd (none.reached Read l n read_dma)
block-same f m (ReadPio l n) none = absurd (none.reached Read l n read_pio)
block-same f m (Send p c k d) none = refl
block-same f m (ReadQueued l k) none = refl
block-same f m (WriteQueued l k) none = refl
block-same f m (WriteDma l k) none = refl
block-same f m (Receive p c k d) none =
    ap (λ x. cond (is_protocol_list (Receive p c k d)) (sized (sector_size * k) protocol_list) x)
    (stack-same f m (asks_stack f.config.profile p c k) (Receive p c k d) c (sector_size * k))
block-same f m Identify none = refl
block-same f m (ReadLog10 d) none = refl
block-same f m Flush none = refl
block-same f m (SetFeatures feature) none = refl
block-same f m (ReadLog page dma) none = refl
block-same f m (WritePio l k) none = refl
block-same f m (Verify l k) none = refl
block-same f m (Trim blocks) none = refl
block-same f m (Control control) none = refl

read-same : (f : Facts) (m : ℕ → List ℕ) (c : Command) (tag : Option ℕ) → ReachesNone c tag → data_read_of tcg (with_sectors f m) (Ok (c, tag)) ≡ data_read_of tcg f (Ok (c, tag))
read-same f m c None none = block-same f m c none
read-same f m c (Some tag) none = refl

ungiven_law : UngivenLaw
ungiven_law f act command tag looked none =
    record {
      done = λ m. event-same f m act;
      given = λ m.
          ap (λ x. cond (is_some (event_by f act).failed) [] (data_read_of tcg (with_sectors f m) x)) looked.reads
          ∙ ap (λ x. cond (is_some (event_by f act).failed) [] x) (read-same f m command tag none)
          ∙ sym (ap (λ x. cond (is_some (event_by f act).failed) [] (data_read_of tcg f x)) looked.reads);
      told = λ m. refl;
    }

pub unreached_law : UnreachedLaw
unreached_law = (unwritten_law, ungiven_law)
