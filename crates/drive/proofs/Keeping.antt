-- What is kept stays what the past says, with one event more.
use Rattle.std.proofs.Common.{◌≡◌, ℕ, ◌<◌, ◌==◌, ◌&&◌, ◌/◌, ◌*◌, ◌+◌, ◌-◌, Bool, true, false, List, ◌∷◌, length, take, drop, nat_le, nat_lt, Option, Some, None, Result, Ok, Err, is_some, option_map, refl, sym, subst, ap, ◌∙◌, cond, if◌then◌else◌, arith, slice_index}
use Rattle.std.proofs.Math.Path.{fun_ext}
use Rattle.std.specs.Prelude.{Result, unwrap_or}
use Rattle.std.proofs.Math.ListN.{length-set}
use Rattle.locking.specs.declared.range.Op.{Op}
use Rattle.locking.specs.declared.range.Op.TheVariants.{Read, Write}
use Rattle.device_data.specs.declared.log_page.Failure.{Failure}
use Rattle.device_data.specs.declared.settings.Settings.{Settings}
use Rattle.device_data.specs.Settings.{with_feature, with_standby, active}
use Rattle.trusted_cmds.specs.declared.control.Control.{Control}
use Rattle.trusted_cmds.specs.declared.control.Control.TheVariants.{SetMultiple, Idle, Standby, CheckPowerMode, Diagnose}
use Rattle.trusted_cmds.specs.declared.feature.Feature.{Feature}
use Rattle.trusted_cmds.specs.declared.trim.Extent.{Extent}
use Rattle.shadow_mbr.specs.Stored.{sector_at, zeros}
use Rattle.transactions.specs.Sights.{look_up, committed_sight}
use Rattle.compacket.specs.Frames.{Frame, reading as frame_in}
use Rattle.compacket.specs.declared.error.FrameError.{FrameError}
use Rattle.compacket.specs.declared.session.Session.{Session}
use Rattle.compacket.specs.declared.session.Named.{Named}
use Rattle.locking.specs.declared.ranges.Verdict.{Verdict}
use Rattle.tcg_tokens.specs.Reading.{reading as message_in}
use Rattle.shadow_mbr.specs.Erasure.{is_erased}
use Rattle.sessions.specs.Deeds.{Begun, erased_by}
use Rattle.history.specs.Decisions.{completed, control_deed}
use Rattle.history.specs.Tcg.{sent, sent_by, broken_of, unframed, unframed_in, framed, to_session, to_manager, in_session, item_in, breaks_off, broken_off, is_discarded, manager_event, answers, is_manager}
use Rattle.history.specs.Opening.{Origin}
use Rattle.history.specs.Events.{HeldCommand, Held as HeldDeed, QueueFailed, QueueMended, QueueEnded, Deed, Nothing, OfQueue, Wrote, Trimmed, Took, BlockedSid, Chose, PowerSet, WasReset, InSession, Event, did, or_else, latest, ignores}
use Rattle.history.specs.Readers.{holding, in_force, failing, failure, trimming, writing, settings_then}
use Rattle.history.specs.Facts.{Facts, facts, session_named}
use Rattle.history.specs.KeptStore.{ReadsStore}
use Rattle.history.proofs.KeptStoreReads.{store_read_law}
use Rattle.tper.specs.Tper.{Tper, Keeps as KeepsTper, response_at, erased_by_deed}
use Rattle.tper.proofs.KeptBeside.{spares, kept_beside}
use Rattle.drive.specs.declared.queue.Queue.{Queue}
use Rattle.drive.specs.declared.transfer.Held.{Held}
use Rattle.drive.specs.Transfer.{transfer_by, queued_command, held_command, sector_then}
use Rattle.drive.specs.Decision.{transfer_deed}
use Rattle.drive.specs.Power.{power_after}
use Rattle.drive.specs.Queue.{slot_at, held_at, with_slot, failed_queue, mended_queue, empty_queue}
use Rattle.drive.specs.State.{DriveState, kept_facts, KeepsDrive}
use Rattle.drive.proofs.Slots.{no_slot, none_length, slot_set}
use Rattle.tcg_tokens.specs.declared.error.TokenError.{TokenError}
use Rattle.tcg_tokens.specs.Message.{Message}
use Rattle.audit.specs.declared.rules.rule.Rule.TheVariants.{NoFrame, Discarded, BrokenOff}

-- what is kept shows the facts of the past
pub seen-is : (d : DriveState) (o : Origin) (past : List Event) → KeepsDrive d o past → kept_facts d (facts o past) ≡ facts o past
seen-is d o past k =
    ap (λ x. record (kept_facts d g) { config = x }) k.tper.store.config
    ∙ ap (λ x. record g { rows = x; byte = slice_index d.tper.store.locking.bytes; held = held_at d.queue; failure = d.queue.failure; waiting = response_at d.tper.waiting; sector = sector_at d.media; beside = d.tper.live.beside; settings = d.settings }) reads.rows
    ∙ ap (λ x. record g { byte = x; held = held_at d.queue; failure = d.queue.failure; waiting = response_at d.tper.waiting; sector = sector_at d.media; beside = d.tper.live.beside; settings = d.settings }) reads.bytes
    ∙ ap (λ x. record g { held = x; failure = d.queue.failure; waiting = response_at d.tper.waiting; sector = sector_at d.media; beside = d.tper.live.beside; settings = d.settings }) (fun_ext k.held)
    ∙ ap (λ x. record g { failure = x; waiting = response_at d.tper.waiting; sector = sector_at d.media; beside = d.tper.live.beside; settings = d.settings }) k.failure
    ∙ ap (λ x. record g { waiting = x; sector = sector_at d.media; beside = d.tper.live.beside; settings = d.settings }) (fun_ext k.tper.waiting)
    ∙ ap (λ x. record g { sector = x; beside = d.tper.live.beside; settings = d.settings }) (fun_ext k.sectors)
    ∙ ap (λ x. record g { beside = x; settings = d.settings }) k.tper.beside
    ∙ ap (λ x. record g { settings = x }) k.settings
  where
    g : Facts
    g = facts o past

    reads : ReadsStore d.tper.store o past
    reads = store_read_law d.tper.store o past k.tper.store

-- the latest of one event more
later : {A : Type 0} (x y : Option A) (z : A) → unwrap_or x (unwrap_or y z) ≡ unwrap_or (or_else x y) z
later None y z = refl
later (Some w) y z = refl

-- what an event makes of queue and media, beside the TPer's part
pub keeps-more : (d e : DriveState) (o : Origin) (past : List Event) (ev : Event) → KeepsTper e.tper o (ev ∷ past) → length e.queue.slots ≡ 32
    → ((tag : ℕ) → held_at e.queue tag ≡ unwrap_or (holding tag ev.deed) (held_at d.queue tag))
    → e.queue.failure ≡ unwrap_or (failing ev.deed) d.queue.failure
    → ((s : ℕ) → sector_at e.media s ≡ unwrap_or (writing s ev.deed) (sector_at d.media s))
    → e.settings ≡ settings_then ev.deed d.settings
    → KeepsDrive d o past → KeepsDrive e o (ev ∷ past)
keeps-more d e o past ev tper len hold fail move chosen k = record {
  tper = tper;
  slots = len;
  held = λ tag. hold tag ∙ ap (unwrap_or (holding tag ev.deed)) (k.held tag) ∙ later (holding tag ev.deed) (latest (holding tag) past) None;
  failure = fail ∙ ap (unwrap_or (failing ev.deed)) k.failure ∙ later (failing ev.deed) (latest failing past) None;
  sectors = λ s. move s ∙ ap (unwrap_or (writing s ev.deed)) (k.sectors s) ∙ later (writing s ev.deed) (latest (writing s) past) zeros;
  settings = chosen ∙ ap (settings_then ev.deed) k.settings;
}

-- a state with the same TPer, beside a deed that spares it
spared : (d e : DriveState) (o : Origin) (past : List Event) (ev : Event) → e.tper ≡ d.tper → spares ev.deed ≡ true → KeepsDrive d o past → KeepsTper e.tper o (ev ∷ past)
spared d e o past ev same h k = subst (λ (t : Tper). KeepsTper t o (ev ∷ past)) (sym same) (kept_beside d.tper o past ev h k.tper)

-- nothing is done
pub nothing-keeps : (d : DriveState) (o : Origin) (past : List Event) (ev : Event) → ev.deed ≡ Nothing → KeepsDrive d o past → KeepsDrive d o (ev ∷ past)
nothing-keeps d o past ev h k =
    keeps-more d d o past ev (spared d d o past ev refl (ap spares h) k) k.slots
    (λ tag. sym (ap (λ (x : Deed). unwrap_or (holding tag x) (held_at d.queue tag)) h))
    (sym (ap (λ (x : Deed). unwrap_or (failing x) d.queue.failure) h))
    (λ s. sym (ap (λ (x : Deed). unwrap_or (writing s x) (sector_at d.media s)) h))
    (sym (ap (λ (x : Deed). settings_then x d.settings) h)) k

-- the queue fails
pub failed-keeps : (d e : DriveState) (o : Origin) (past : List Event) (fault : Failure) (ev : Event) → ev.deed ≡ OfQueue (QueueFailed fault)
    → e ≡ record d { queue = failed_queue fault } → KeepsDrive d o past → KeepsDrive e o (ev ∷ past)
failed-keeps d e o past fault ev h is k = subst (λ (x : DriveState). KeepsDrive x o (ev ∷ past)) (sym is) (
    keeps-more d (record d { queue = failed_queue fault }) o past ev (spared d d o past ev refl (ap spares h) k) none_length
    (λ tag. ap (option_map held_command) (no_slot tag) ∙ sym (ap (λ (x : Deed). unwrap_or (holding tag x) (held_at d.queue tag)) h))
    (sym (ap (λ (x : Deed). unwrap_or (failing x) d.queue.failure) h))
    (λ s. sym (ap (λ (x : Deed). unwrap_or (writing s x) (sector_at d.media s)) h))
    (sym (ap (λ (x : Deed). settings_then x d.settings) h)) k)

-- the queue ends
pub ended-keeps : (d e : DriveState) (o : Origin) (past : List Event) → e ≡ record d { queue = empty_queue } → KeepsDrive d o past
    → KeepsDrive e o (did (OfQueue QueueEnded) ∷ past)
ended-keeps d e o past is k = subst (λ (x : DriveState). KeepsDrive x o (did (OfQueue QueueEnded) ∷ past)) (sym is) (
    keeps-more d (record d { queue = empty_queue }) o past (did (OfQueue QueueEnded)) (spared d d o past (did (OfQueue QueueEnded)) refl refl k) none_length
    (λ tag. ap (option_map held_command) (no_slot tag)) refl (λ s. refl) refl k)

-- a slot is set
set-here : (b : Bool) (x y : Option Held) → option_map held_command (cond b x y) ≡ unwrap_or (cond b (Some (option_map held_command x)) None) (option_map held_command y)
set-here true x y = refl
set-here false x y = refl

-- a transfer is held
pub holds-keeps : (d e : DriveState) (o : Origin) (past : List Event) (tag : ℕ) (its : Held) (ev : Event) → tag < 32 → ev.deed ≡ OfQueue (HeldDeed tag (held_command its))
    → e ≡ record d { queue = with_slot tag (Some its) d.queue } → KeepsDrive d o past → KeepsDrive e o (ev ∷ past)
holds-keeps d e o past tag its ev small h is k = subst (λ (x : DriveState). KeepsDrive x o (ev ∷ past)) (sym is) (
    keeps-more d (record d { queue = with_slot tag (Some its) d.queue }) o past ev (spared d d o past ev refl (ap spares h) k)
    (length-set d.queue.slots tag (Some its) ∙ k.slots)
    (λ t. ap (option_map held_command) (slot_set d.queue.slots tag t (Some its) (omega (arith, small, k.slots)))
    ∙ set-here (tag == t) (Some its) (slot_at d.queue.slots t)
    ∙ sym (ap (λ (x : Deed). unwrap_or (holding t x) (held_at d.queue t)) h))
    (sym (ap (λ (x : Deed). unwrap_or (failing x) d.queue.failure) h))
    (λ s. sym (ap (λ (x : Deed). unwrap_or (writing s x) (sector_at d.media s)) h))
    (sym (ap (λ (x : Deed). settings_then x d.settings) h)) k)

-- data move
written-here : (b : Bool) (x y : List ℕ) → cond b x y ≡ unwrap_or (cond b (Some x) None) y
written-here true x y = refl
written-here false x y = refl

-- an unqueued transfer
pub moved-keeps : (d e : DriveState) (o : Origin) (past : List Event) (op : Op) (lba count : ℕ) (payload : List ℕ) (ev : Event)
    → ev.deed ≡ transfer_deed (transfer_by op lba count) payload → e.tper ≡ d.tper → e.queue ≡ d.queue → e.settings ≡ active d.settings
    → ((s : ℕ) → sector_at e.media s ≡ sector_then (transfer_by op lba count) payload (sector_at d.media s) s)
    → KeepsDrive d o past → KeepsDrive e o (ev ∷ past)
moved-keeps d e o past Read lba count payload ev h tper queue chosen media k =
    keeps-more d e o past ev (spared d e o past ev tper (ap spares h) k)
    (ap (λ (q : Queue). length q.slots) queue ∙ k.slots)
    (λ t. ap (λ (q : Queue). held_at q t) queue ∙ sym (ap (λ (x : Deed). unwrap_or (holding t x) (held_at d.queue t)) h))
    (ap (λ (q : Queue). q.failure) queue ∙ sym (ap (λ (x : Deed). unwrap_or (failing x) d.queue.failure) h))
    (λ s. media s ∙ sym (ap (λ (x : Deed). unwrap_or (writing s x) (sector_at d.media s)) h))
    (chosen ∙ sym (ap (λ (x : Deed). settings_then x d.settings) h)) k
moved-keeps d e o past Write lba count payload ev h tper queue chosen media k =
    keeps-more d e o past ev (spared d e o past ev tper (ap spares h) k)
    (ap (λ (q : Queue). length q.slots) queue ∙ k.slots)
    (λ t. ap (λ (q : Queue). held_at q t) queue ∙ sym (ap (λ (x : Deed). unwrap_or (holding t x) (held_at d.queue t)) h))
    (ap (λ (q : Queue). q.failure) queue ∙ sym (ap (λ (x : Deed). unwrap_or (failing x) d.queue.failure) h))
    (λ s. media s
    ∙ written-here (nat_le lba s && nat_lt s (lba + length payload / 512)) (take 512 (drop (512 * (s - lba)) payload)) (sector_at d.media s)
    ∙ sym (ap (λ (x : Deed). unwrap_or (writing s x) (sector_at d.media s)) h))
    (chosen ∙ sym (ap (λ (x : Deed). settings_then x d.settings) h)) k

-- a completion
pub completed-keeps : (d e : DriveState) (o : Origin) (past : List Event) (tag : ℕ) (op : Op) (lba count : ℕ) (payload : List ℕ) (v : Verdict) (ev : Event)
    → tag < 32 → ev ≡ completed tag payload (Some (record { command = queued_command (transfer_by op lba count); verdict = v }))
    → e.tper ≡ d.tper → e.queue ≡ with_slot tag None d.queue → e.settings ≡ active d.settings
    → ((s : ℕ) → sector_at e.media s ≡ sector_then (transfer_by op lba count) payload (sector_at d.media s) s)
    → KeepsDrive d o past → KeepsDrive e o (ev ∷ past)
completed-keeps d e o past tag Read lba count payload v ev small h tper queue chosen media k =
    keeps-more d e o past ev (spared d e o past ev tper (ap (λ (x : Event). spares x.deed) h) k)
    (ap (λ (q : Queue). length q.slots) queue ∙ length-set d.queue.slots tag None ∙ k.slots)
    (λ t. ap (λ (q : Queue). held_at q t) queue
    ∙ ap (option_map held_command) (slot_set d.queue.slots tag t None (omega (arith, small, k.slots)))
    ∙ set-here (tag == t) None (slot_at d.queue.slots t)
    ∙ sym (ap (λ (x : Event). unwrap_or (holding t x.deed) (held_at d.queue t)) h))
    (ap (λ (q : Queue). q.failure) queue ∙ sym (ap (λ (x : Event). unwrap_or (failing x.deed) d.queue.failure) h))
    (λ s. media s ∙ sym (ap (λ (x : Event). unwrap_or (writing s x.deed) (sector_at d.media s)) h))
    (chosen ∙ sym (ap (λ (x : Event). settings_then x.deed d.settings) h)) k
completed-keeps d e o past tag Write lba count payload v ev small h tper queue chosen media k =
    keeps-more d e o past ev (spared d e o past ev tper (ap (λ (x : Event). spares x.deed) h) k)
    (ap (λ (q : Queue). length q.slots) queue ∙ length-set d.queue.slots tag None ∙ k.slots)
    (λ t. ap (λ (q : Queue). held_at q t) queue
    ∙ ap (option_map held_command) (slot_set d.queue.slots tag t None (omega (arith, small, k.slots)))
    ∙ set-here (tag == t) None (slot_at d.queue.slots t)
    ∙ sym (ap (λ (x : Event). unwrap_or (holding t x.deed) (held_at d.queue t)) h))
    (ap (λ (q : Queue). q.failure) queue ∙ sym (ap (λ (x : Event). unwrap_or (failing x.deed) d.queue.failure) h))
    (λ s. media s
    ∙ written-here (nat_le lba s && nat_lt s (lba + length payload / 512)) (take 512 (drop (512 * (s - lba)) payload)) (sector_at d.media s)
    ∙ sym (ap (λ (x : Event). unwrap_or (writing s x.deed) (sector_at d.media s)) h))
    (chosen ∙ sym (ap (λ (x : Event). settings_then x.deed d.settings) h)) k

-- what the TPer does: deeds that no queue has part in

-- the deed says nothing of the queue, and nothing of what a host chose
pub record IsOfTper (d : Deed) : Type 0 where
  pub holds : (tag : ℕ) → holding tag d ≡ None
  pub fails : failing d ≡ None
  pub chooses : (settings : Settings) → settings_then d settings ≡ settings

pub of_tper : {d : Deed} → ((tag : ℕ) → holding tag d ≡ None) → failing d ≡ None → ((settings : Settings) → settings_then d settings ≡ settings) → IsOfTper d
of_tper h f c = record { holds = h; fails = f; chooses = c }

pub tper-keeps : (d e : DriveState) (o : Origin) (past : List Event) (ev : Event) → IsOfTper ev.deed → KeepsTper e.tper o (ev ∷ past) → e.queue ≡ d.queue → e.settings ≡ d.settings
    → ((s : ℕ) → sector_at e.media s ≡ unwrap_or (writing s ev.deed) (sector_at d.media s))
    → KeepsDrive d o past → KeepsDrive e o (ev ∷ past)
tper-keeps d e o past ev its tper queue chosen media k =
    keeps-more d e o past ev tper
    (ap (λ (q : Queue). length q.slots) queue ∙ k.slots)
    (λ t. ap (λ (q : Queue). held_at q t) queue ∙ sym (ap (λ (x : Option (Option HeldCommand)). unwrap_or x (held_at d.queue t)) (its.holds t)))
    (ap (λ (q : Queue). q.failure) queue ∙ sym (ap (λ (x : Option (Option Failure)). unwrap_or x d.queue.failure) its.fails))
    media (chosen ∙ sym (its.chooses d.settings)) k

-- media after what was sent
erase-here : (b : Bool) (before : List ℕ) → (if b then zeros else before) ≡ unwrap_or (if b then Some zeros else None) before
erase-here true before = refl
erase-here false before = refl

-- sectors are trimmed
pub trims-keeps : (d e : DriveState) (o : Origin) (past : List Event) (extents : List Extent) → e.tper ≡ d.tper → e.queue ≡ d.queue
    → e.settings ≡ active d.settings → ((s : ℕ) → sector_at e.media s ≡ unwrap_or (trimming s extents) (sector_at d.media s))
    → KeepsDrive d o past → KeepsDrive e o (did (Trimmed extents) ∷ past)
trims-keeps d e o past extents tper queue chosen media k =
    keeps-more d e o past (did (Trimmed extents)) (spared d e o past (did (Trimmed extents)) tper refl k)
    (ap (λ (q : Queue). length q.slots) queue ∙ k.slots)
    (λ t. ap (λ (q : Queue). held_at q t) queue) (ap (λ (q : Queue). q.failure) queue) media chosen k

-- what is sent does nothing, or something in a session
abbrev pub IsSendDeed : Deed → Type 0
IsSendDeed Nothing = Unit {0}
IsSendDeed (InSession deed response) = Unit {0}
IsSendDeed _ = ⊥

pub sends-of-tper : (d : Deed) → IsSendDeed d → IsOfTper d
sends-of-tper Nothing h = of_tper (λ tag. refl) refl (λ s. refl)
sends-of-tper (InSession deed response) h = of_tper (λ tag. refl) refl (λ s. refl)
sends-of-tper (OfQueue deed) h = absurd h
sends-of-tper (Wrote lba bytes) h = absurd h
sends-of-tper (Trimmed extents) h = absurd h
sends-of-tper (Took com_id) h = absurd h
sends-of-tper (BlockedSid block) h = absurd h
sends-of-tper (Chose feature) h = absurd h
sends-of-tper (PowerSet in_standby) h = absurd h
sends-of-tper (WasReset kind) h = absurd h

pub sends-erase : (d : Deed) (s : ℕ) (before : List ℕ) → IsSendDeed d → (if is_erased (erased_by_deed d) s then zeros else before) ≡ unwrap_or (writing s d) before
sends-erase Nothing s before h = refl
sends-erase (InSession deed response) s before h = erase-here (is_erased (erased_by deed) s) before
sends-erase (OfQueue deed) s before h = absurd h
sends-erase (Wrote lba bytes) s before h = absurd h
sends-erase (Trimmed extents) s before h = absurd h
sends-erase (Took com_id) s before h = absurd h
sends-erase (BlockedSid block) s before h = absurd h
sends-erase (Chose feature) s before h = absurd h
sends-erase (PowerSet in_standby) s before h = absurd h
sends-erase (WasReset kind) s before h = absurd h

broken-deed : (f : Facts) (com_id : ℕ) (named : Session) (session : Begun) (item : Result Message TokenError) (b : Bool) → IsSendDeed (if b then broken_off BrokenOff session.sp else answers com_id named (in_session f session item)).deed
broken-deed f com_id named session item true = tt
broken-deed f com_id named session item false = tt

manager-deed : (f : Facts) (com_id : ℕ) (named : Session) (item : Result Message TokenError) (b : Bool) → IsSendDeed (if b then ignores Discarded else answers com_id named (to_manager f com_id item)).deed
manager-deed f com_id named item true = tt
manager-deed f com_id named item false = tt

to-session-deed : (f : Facts) (com_id : ℕ) (named : Session) (payload : List ℕ) (b : Option Begun) → IsSendDeed (to_session f com_id named payload b).deed
to-session-deed f com_id named payload None = tt
to-session-deed f com_id named payload (Some session) = broken-deed f com_id named session (item_in f.config.profile payload) (breaks_off f.config.profile (item_in f.config.profile payload))

framed-deed : (f : Facts) (com_id : ℕ) (frame : Frame) (b : Bool)
    → IsSendDeed (if b then manager_event f com_id frame.session (message_in frame.payload) else to_session f com_id frame.session frame.payload (session_named f com_id frame.session)).deed
framed-deed f com_id frame true = manager-deed f com_id frame.session (message_in frame.payload) (is_discarded f.config.profile (message_in frame.payload))
framed-deed f com_id frame false = to-session-deed f com_id frame.session frame.payload (session_named f com_id frame.session)

frame-deed : (f : Facts) (com_id : ℕ) (frame : Frame) (b : Bool) → IsSendDeed (if b then framed f com_id frame else ignores NoFrame).deed
frame-deed f com_id frame true = framed-deed f com_id frame (is_manager frame.session)
frame-deed f com_id frame false = tt

unframed-in-deed : (session : Option Begun) → IsSendDeed (unframed_in session).deed
unframed-in-deed None = tt
unframed-in-deed (Some session) = tt

named-deed : (f : Facts) (com_id : ℕ) (named : Named) (b : Bool) → IsSendDeed (if b then unframed_in (session_named f com_id named.session) else ignores NoFrame).deed
named-deed f com_id named true = unframed-in-deed (session_named f com_id named.session)
named-deed f com_id named false = tt

unframed-deed : (f : Facts) (com_id : ℕ) (broken : Option Named) → IsSendDeed (unframed f com_id broken).deed
unframed-deed f com_id None = tt
unframed-deed f com_id (Some named) = named-deed f com_id named (named.com_id == com_id)

sent-by-deed : (f : Facts) (com_id : ℕ) (broken : Option Named) (r : Result Frame FrameError) → IsSendDeed (sent_by f com_id broken r).deed
sent-by-deed f com_id broken (Err e) = unframed-deed f com_id broken
sent-by-deed f com_id broken (Ok frame) = frame-deed f com_id frame (frame.com_id == com_id)

pub sent-deed : (f : Facts) (com_id : ℕ) (payload : List ℕ) → IsSendDeed (sent f com_id payload).deed
sent-deed f com_id payload = sent-by-deed f com_id (broken_of f.config.profile payload) (frame_in payload)

-- a feature is chosen
pub chosen-keeps : (d e : DriveState) (o : Origin) (past : List Event) (feature : Feature) → e ≡ record d { settings = with_feature feature d.settings }
    → KeepsDrive d o past → KeepsDrive e o (did (Chose feature) ∷ past)
chosen-keeps d e o past feature is k = subst (λ (x : DriveState). KeepsDrive x o (did (Chose feature) ∷ past)) (sym is) (
    keeps-more d (record d { settings = with_feature feature d.settings }) o past (did (Chose feature)) (spared d d o past (did (Chose feature)) refl refl k) k.slots
    (λ tag. refl) refl (λ s. refl) refl k)

-- the power mode is set
pub power-keeps : (d : DriveState) (o : Origin) (past : List Event) (in_standby : Bool)
    → KeepsDrive d o past → KeepsDrive (record d { settings = with_standby in_standby d.settings }) o (did (PowerSet in_standby) ∷ past)
power-keeps d o past in_standby k =
    keeps-more d (record d { settings = with_standby in_standby d.settings }) o past (did (PowerSet in_standby)) (spared d d o past (did (PowerSet in_standby)) refl refl k) k.slots
    (λ tag. refl) refl (λ s. refl) refl k

power_after-by : (d : DriveState) (o : Origin) (past : List Event) (control : Control) → KeepsDrive d o past
    → KeepsDrive (record d { settings = power_after control d.settings }) o (did (control_deed control) ∷ past)
power_after-by d o past Standby k = power-keeps d o past true k
power_after-by d o past Idle k = power-keeps d o past false k
power_after-by d o past SetMultiple k = nothing-keeps d o past (did Nothing) refl k
power_after-by d o past CheckPowerMode k = nothing-keeps d o past (did Nothing) refl k
power_after-by d o past Diagnose k = nothing-keeps d o past (did Nothing) refl k

pub power_after-keeps : (d e : DriveState) (o : Origin) (past : List Event) (control : Control) → e ≡ record d { settings = power_after control d.settings }
    → KeepsDrive d o past → KeepsDrive e o (did (control_deed control) ∷ past)
power_after-keeps d e o past control is k =
    subst (λ (x : DriveState). KeepsDrive x o (did (control_deed control) ∷ past)) (sym is) (power_after-by d o past control k)

-- log page 10h is read, which ends a failure
mended-by : (d : DriveState) (o : Origin) (past : List Event) (x : Option Failure) → failure past ≡ x
    → KeepsDrive d o past → KeepsDrive (record d { queue = mended_queue d.queue }) o (did (if is_some x then OfQueue QueueMended else Nothing) ∷ past)
mended-by d o past None none k =
    keeps-more d (record d { queue = mended_queue d.queue }) o past (did Nothing) (spared d d o past (did Nothing) refl refl k) k.slots
    (λ tag. refl) (sym (k.failure ∙ none)) (λ s. refl) refl k
mended-by d o past (Some fault) some k =
    keeps-more d (record d { queue = mended_queue d.queue }) o past (did (OfQueue QueueMended)) (spared d d o past (did (OfQueue QueueMended)) refl refl k) k.slots
    (λ tag. refl) refl (λ s. refl) refl k

pub mended-keeps : (d e : DriveState) (o : Origin) (past : List Event) → e ≡ record d { queue = mended_queue d.queue }
    → KeepsDrive d o past → KeepsDrive e o (did (if is_some (failure past) then OfQueue QueueMended else Nothing) ∷ past)
mended-keeps d e o past is k =
    subst (λ (x : DriveState). KeepsDrive x o (did (if is_some (failure past) then OfQueue QueueMended else Nothing) ∷ past)) (sym is) (mended-by d o past (failure past) refl k)

-- the rows that are kept are those in force
pub agreed_rows : (d : DriveState) (o : Origin) (past : List Event) → KeepsDrive d o past → look_up (committed_sight d.tper.store) ≡ in_force o past
agreed_rows d o past k = (store_read_law d.tper.store o past k.tper.store).rows
