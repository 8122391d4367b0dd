-- What is read off a list of events: sessions, transactions, changes in force, Tries, media, the
-- queue, waiting responses. By SP, as an SP has one session at a time. The newest event comes
-- first.
use Rattle.std.specs.Prelude.{ℕ, ◌+◌, ◌-◌, ◌*◌, ◌/◌, ◌^◌, ◌==◌, Bool, true, false, ◌&&◌, nat_le, nat_lt, List, [], ◌∷◌, ◌++◌, length, take, drop, Option, Some, None, unwrap_or, if◌then◌else◌}
use Rattle.std.specs.List.{flat_map, list_any}
use Rattle.sp_cells.specs.declared.names.Uid.{Uid}
use Rattle.sp_cells.specs.declared.names.Sp.{Sp}
use Rattle.sp_cells.specs.declared.names.Sp.TheVariants.{Admin, Locking}
use Rattle.sp_cells.specs.declared.cells.Cell.{Cell}
use Rattle.sp_cells.specs.declared.cells.Cell.TheVariants.{Number}
use Rattle.sp_cells.specs.Limits.{manufactured, manufactured_inactive}
use Rattle.sp_cells.specs.Names.{locking_sp, admin_pin_uid}
use Rattle.sp_cells.specs.Flat.{LookUp, sp_eq}
use Rattle.sp_cells.specs.ColumnNames.{life_cycle_state_column, pin_column}
use Rattle.sp_tables.specs.Contents.{cells_look_up}
use Rattle.sp_tables.specs.AtReset.{is_power_cycle}
use Rattle.audit.specs.declared.reason.AttemptFailure.{AttemptFailure}
use Rattle.audit.specs.declared.reason.AttemptFailure.TheVariants.{WrongPin, LockedOut, Disabled, Blocked, Unknown}
use Rattle.shadow_mbr.specs.Erasure.{is_erased}
use Rattle.shadow_mbr.specs.Stored.{sector_size, zeros}
use Rattle.trusted_cmds.specs.declared.trim.Extent.{Extent}
use Rattle.trusted_cmds.specs.Trims.{has_sector}
use Rattle.history.specs.Opening.{Origin}
use Rattle.sp_tables.specs.Looks.{RowLook}
use Rattle.sessions.specs.Deeds.{cells_set, Change, Sets, Restores, Resets, Begun, SessionDeed, Started, Tried, Changed, Began, Committed, Aborted, Ended, Activated, Reverted, StackReset, erased_by}
use Rattle.sessions.specs.declared.beside.Beside.{Beside}
use Rattle.sessions.specs.Beside.{new_beside, beside_at_reset}
use Rattle.sessions.specs.Made.{beside_after}
use Rattle.history.specs.Changes.{apply_all, byte_in, with_tries}
use Rattle.device_data.specs.declared.log_page.Failure.{Failure}
use Rattle.device_data.specs.declared.settings.Settings.{Settings}
use Rattle.device_data.specs.Settings.{first_settings, with_feature, settings_at_reset, with_standby, active}
use Rattle.history.specs.Events.{HeldCommand, QueueDeed, Held, Completed, CompletedWrite, QueueFailed, QueueMended, QueueEnded, Deed, InSession, OfQueue, Wrote, Trimmed, Took, WasReset, BlockedSid, Chose, PowerSet, Event, latest, since, every, count, Left, Silent, Dropped}

-- It speaks of this SP.
abbrev pub on_sp : {A : Type 0} → Sp → Sp → A → Option A
on_sp sp named x = if sp_eq named sp then Some x else None

-- A Revert of the Admin SP restores both.
abbrev pub restores : Sp → Sp → Bool
restores Admin sp = true
restores Locking sp = sp_eq Locking sp

abbrev pub if_restored : {A : Type 0} → Sp → Sp → A → Option A
if_restored reverted sp x = if restores reverted sp then Some x else None

-- The reset of a ComID's stack ends the sessions of these SPs.
abbrev pub if_ending : {A : Type 0} → (Sp → Bool) → Sp → A → Option A
if_ending ends sp x = if ends sp then Some x else None

-- Sessions (Core 2.01, section 3.3.7).

abbrev pub is_start : Deed → Bool
is_start (InSession (Started session row) response) = true
is_start _ = false

-- The number of the next session: they count up from 1000h, over resets and Reverts too.
abbrev pub first_number : ℕ
first_number = 0x1000

abbrev pub next_number : List Event → ℕ
next_number past = first_number + count is_start past

abbrev pub lives_by : Sp → SessionDeed → Option (Option Begun)
lives_by sp (Started session row) = on_sp sp session.sp (Some session)
lives_by sp (Ended ended) = on_sp sp ended None
lives_by sp (Reverted reverted erasure) = if_restored reverted sp None
lives_by sp (StackReset com_id ends) = if_ending ends sp None
lives_by sp _ = None

abbrev pub living : Sp → Deed → Option (Option Begun)
living sp (InSession deed response) = lives_by sp deed
living sp (WasReset kind) = Some None
living sp _ = None

-- The live session of an SP: the latest that began on it, unless its own end, a Revert of its SP or
-- a reset came since.
abbrev pub session_on : List Event → Sp → Option Begun
session_on past sp = unwrap_or (latest (living sp) past) None

abbrev pub starts : Sp → Deed → Bool
starts sp (InSession (Started session row) response) = sp_eq session.sp sp
starts sp _ = false

abbrev pub gains : Sp → Deed → Option (List Uid)
gains sp (InSession (Tried attempt) response) = on_sp sp attempt.sp attempt.gained
gains sp _ = None

-- The authorities of the session of an SP: those that it began with, and those gained since.
abbrev pub authorities : List Event → Begun → List Uid
authorities past session =
    flat_map (λ us. us) (every (gains session.sp) (since (starts session.sp) past))
    ++ session.authorities

-- Transactions (Core 2.01, section 3.3.9).

abbrev pub turns_by : Sp → SessionDeed → Option (Option ℕ)
turns_by sp (Began begun number) = on_sp sp begun (Some number)
turns_by sp (Committed committed) = on_sp sp committed None
turns_by sp (Aborted aborted) = on_sp sp aborted None
turns_by sp (Ended ended) = on_sp sp ended None
turns_by sp (Activated pin) = Some None
turns_by sp (Reverted reverted erasure) = Some None
turns_by sp (StackReset com_id ends) = if_ending ends sp None
turns_by sp _ = None

abbrev pub turns : Sp → Deed → Option (Option ℕ)
turns sp (InSession deed response) = turns_by sp deed
turns sp (WasReset kind) = Some None
turns sp _ = None

-- The session whose transaction is open on an SP. An Activate and a Revert leave none open; that
-- none but those of ended sessions is open there is a law.
abbrev pub open_on : List Event → Sp → Option ℕ
open_on past sp = unwrap_or (latest (turns sp) past) None

abbrev pub begins : Sp → Deed → Bool
begins sp (InSession (Began begun number) response) = sp_eq begun sp
begins sp _ = false

abbrev pub changes_by : Sp → SessionDeed → Option Change
changes_by sp (Changed changed change) = on_sp sp changed change
changes_by sp _ = None

abbrev pub changes_on : Sp → Deed → Option Change
changes_on sp (InSession deed response) = changes_by sp deed
changes_on sp _ = None

-- The Sets on an SP since its latest begin, the newest first.
abbrev pub own_changes : List Event → Sp → List Change
own_changes past sp = every (changes_on sp) (since (begins sp) past)

abbrev pub if_open : Option ℕ → List Change → List Change
if_open None own = []
if_open (Some number) own = own

-- Those of the transaction that is open, if one is.
abbrev pub open_changes : List Event → Sp → List Change
open_changes past sp = if_open (open_on past sp) (own_changes past sp)

-- Changes in force (Core 2.01, section 3.3.9).

abbrev pub only_on : Sp → Sp → List Change → List Change
only_on sp named changes = if sp_eq named sp then changes else []

abbrev pub unless_any_open : Option ℕ → Change → List Change
unless_any_open None change = change ∷ []
unless_any_open (Some number) change = []

abbrev pub state_change : ℕ → List Change
state_change state = Sets (cells_set locking_sp ((life_cycle_state_column, Number state) ∷ [])) ∷ []

-- The Locking SP is Manufactured, and its Admin1 has SID's PIN (Opal SSC 2.01, section 5.1.1).
abbrev pub pin_change : Option Cell → List Change
pin_change None = []
pin_change (Some pin) = Sets (cells_set (admin_pin_uid 1) ((pin_column, pin) ∷ [])) ∷ []

abbrev pub activation : Option Cell → Sp → List Change
activation pin Admin = state_change manufactured
activation pin Locking = pin_change pin

-- The factory's cells; after a Revert of the Locking SP alone the Admin SP knows it as
-- Manufactured-Inactive (Opal SSC 2.01, sections 5.1.2 and 5.1.3).
abbrev pub restoring : Sp → Sp → List Change
restoring Admin sp = Restores ∷ []
restoring Locking Locking = Restores ∷ []
restoring Locking Admin = state_change manufactured_inactive

abbrev pub brought_by : List Event → Sp → SessionDeed → List Change
brought_by past sp (Changed changed change) =
    only_on sp changed (unless_any_open (open_on past sp) change)
brought_by past sp (Committed committed) = only_on sp committed (open_changes past sp)
brought_by past sp (Activated pin) = activation pin sp
brought_by past sp (Reverted reverted erasure) = restoring reverted sp
brought_by past sp _ = []

-- What an act brought into force on an SP, after those events.
abbrev pub brought : List Event → Sp → Deed → List Change
brought past sp (InSession deed response) = brought_by past sp deed
brought past sp (WasReset kind) = Resets kind ∷ []
brought past sp _ = []

-- The changes in force on an SP, the newest first.
abbrev pub changes : List Event → Sp → List Change
changes [] sp = []
changes (event ∷ before) sp = brought before sp event.deed ++ changes before sp

-- Tries (Core 2.01, section 5.3.4.1, and table C_PIN).

-- The largest number of a cell stays.
abbrev pub most_tries : ℕ
most_tries = 2 ^ 64 - 1

abbrev pub one_more : ℕ → ℕ
one_more n = if n == most_tries then n else n + 1

abbrev pub same_row : Sp → Uid → Sp → Uid → Bool
same_row sp row sp' row' = sp_eq sp sp' && row.0 == row'.0

-- A wrong PIN counts, a right one and what restores the row or cuts the power makes them 0.
abbrev pub tries_tried : Option AttemptFailure → ℕ → ℕ
tries_tried None before = 0
tries_tried (Some WrongPin) before = one_more before
tries_tried (Some LockedOut) before = before
tries_tried (Some Disabled) before = before
tries_tried (Some Blocked) before = before
tries_tried (Some Unknown) before = before

abbrev pub tries_by : Sp → Uid → SessionDeed → ℕ → ℕ
tries_by sp row (Started session its_row) before =
    if same_row session.sp its_row sp row then 0 else before
tries_by sp row (Tried attempt) before =
    if same_row attempt.sp attempt.row sp row then tries_tried attempt.failure before else before
tries_by sp row (Reverted reverted erasure) before = if restores reverted sp then 0 else before
tries_by sp row _ before = before

abbrev pub tries_then : Sp → Uid → Deed → ℕ → ℕ
tries_then sp row (InSession deed response) before = tries_by sp row deed before
tries_then sp row (WasReset kind) before = if is_power_cycle kind then 0 else before
tries_then sp row _ before = before

-- The Tries of a C_PIN row.
abbrev pub tries : List Event → Sp → Uid → ℕ
tries [] sp row = 0
tries (event ∷ before) sp row = tries_then sp row event.deed (tries before sp row)

-- What is kept beside rows and sessions, so that no transaction has part in it: whether SID is blocked (Block SID
-- Authentication feature set 1.00), how many random bytes were given, and what is known of each ComID (Core 2.01, sections
-- 5.2.2 and 3.3.4.7.5).

abbrev pub beside_then : Deed → Beside → Beside
beside_then (BlockedSid block) before = record before { block = block }
beside_then (InSession deed response) before = beside_after deed before
beside_then (WasReset kind) before = beside_at_reset kind before
beside_then _ before = before

abbrev pub beside : List Event → Beside
beside [] = new_beside
beside (event ∷ before) = beside_then event.deed (beside before)

-- What a host has chosen of the drive's interface (ACS-3, SET FEATURES), and whether the drive is in standby: it leaves that
-- where sectors are read, written or trimmed (ACS-3, Power Management feature set).

abbrev pub settings_by : QueueDeed → Settings → Settings
settings_by (Completed tag) before = active before
settings_by (CompletedWrite tag lba bytes) before = active before
settings_by _ before = before

abbrev pub settings_then : Deed → Settings → Settings
settings_then (Chose feature) before = with_feature feature before
settings_then (PowerSet in_standby) before = with_standby in_standby before
settings_then (Wrote lba bytes) before = active before
settings_then (Trimmed extents) before = active before
settings_then (OfQueue deed) before = settings_by deed before
settings_then (WasReset kind) before = settings_at_reset kind before
settings_then _ before = before

abbrev pub settings : List Event → Settings
settings [] = first_settings
settings (event ∷ before) = settings_then event.deed (settings before)

-- Rows and the shadow's bytes, in force and in a session's view (Core 2.01, section 3.3.9; Opal
-- SSC 2.01, section 4.3.5.4).

abbrev pub factory_rows : Origin → LookUp
factory_rows o = cells_look_up o.factory

abbrev pub rows_after : Origin → List Event → Sp → RowLook
rows_after o past sp = apply_all (factory_rows o sp) (changes past sp) (cells_look_up o.tables sp)

-- With the Sets of the transaction that is open on an SP.
abbrev pub rows_within : Origin → List Event → Sp → RowLook
rows_within o past sp = apply_all (factory_rows o sp) (open_changes past sp) (rows_after o past sp)

-- The transaction is this session's.
abbrev pub is_of : ℕ → Option ℕ → Bool
is_of number None = false
is_of number (Some owner) = owner == number

abbrev pub rows_seen : Origin → List Event → ℕ → Sp → RowLook
rows_seen o past number sp =
    if is_of number (open_on past sp) then rows_within o past sp else rows_after o past sp

abbrev pub in_force : Origin → List Event → LookUp
in_force o past sp = with_tries (tries past sp) (rows_after o past sp)

abbrev pub view : Origin → List Event → ℕ → LookUp
view o past number sp = with_tries (tries past sp) (rows_seen o past number sp)

abbrev pub byte_in_force : List Event → ℕ → ℕ
byte_in_force past place = byte_in (changes past Locking) place

abbrev pub byte_in_view : List Event → ℕ → ℕ → ℕ
byte_in_view past number place =
    if is_of number (open_on past Locking)
    then byte_in (open_changes past Locking ++ changes past Locking) place
    else byte_in_force past place

-- Media: a sector holds what the latest act that moved data over it wrote there, or zeros where an act
-- since trimmed it or erased it (Opal SSC 2.01, sections 5.1.2 and 5.1.3; that the bytes are zeros is this
-- project's).

abbrev pub part_of : ℕ → ℕ → List ℕ → Option (List ℕ)
part_of place lba bytes =
    if nat_le lba place && nat_lt place (lba + length bytes / sector_size)
    then Some (take sector_size (drop (sector_size * (place - lba)) bytes)) else None

abbrev pub erasing : ℕ → SessionDeed → Option (List ℕ)
erasing place deed = if is_erased (erased_by deed) place then Some zeros else None

-- A trimmed sector is zeros (ACS-3, IDENTIFY DEVICE word 69, bit 5).
abbrev pub trimming : ℕ → List Extent → Option (List ℕ)
trimming place extents = if list_any (has_sector place) extents then Some zeros else None

abbrev pub writing : ℕ → Deed → Option (List ℕ)
writing place (OfQueue (CompletedWrite tag lba bytes)) = part_of place lba bytes
writing place (Wrote lba bytes) = part_of place lba bytes
writing place (Trimmed extents) = trimming place extents
writing place (InSession deed response) = erasing place deed
writing place _ = None

abbrev pub sector : List Event → ℕ → List ℕ
sector past place = unwrap_or (latest (writing place) past) zeros

-- The queue: what is held, and how it failed (ACS-3, NCQ feature set and NCQ Command Error log).

abbrev pub holds_by : ℕ → QueueDeed → Option (Option HeldCommand)
holds_by tag (Held its held) = if its == tag then Some (Some held) else None
holds_by tag (Completed its) = if its == tag then Some None else None
holds_by tag (CompletedWrite its lba bytes) = if its == tag then Some None else None
holds_by tag (QueueFailed failure) = Some None
holds_by tag QueueMended = None
holds_by tag QueueEnded = Some None

abbrev pub holding : ℕ → Deed → Option (Option HeldCommand)
holding tag (OfQueue deed) = holds_by tag deed
holding tag (WasReset kind) = Some None
holding tag _ = None

abbrev pub held : List Event → ℕ → Option HeldCommand
held past tag = unwrap_or (latest (holding tag) past) None

abbrev pub fails_by : QueueDeed → Option (Option Failure)
fails_by (QueueFailed failure) = Some (Some failure)
fails_by QueueMended = Some None
fails_by QueueEnded = Some None
fails_by _ = None

abbrev pub failing : Deed → Option (Option Failure)
failing (OfQueue deed) = fails_by deed
failing (WasReset kind) = Some None
failing _ = None

abbrev pub failure : List Event → Option Failure
failure past = unwrap_or (latest failing past) None

-- Waiting responses, by their ComIDs (Core 2.01, section 3.3.10).

abbrev pub waits : ℕ → Deed → Option (Option (List ℕ))
waits com_id (InSession deed (Left its bytes)) =
    if its == com_id then Some (Some bytes) else None
waits com_id (InSession deed Silent) = None
waits com_id (InSession deed (Dropped its)) = if its == com_id then Some None else None
waits com_id (Took its) = if its == com_id then Some None else None
waits com_id (WasReset kind) = Some None
waits com_id _ = None

abbrev pub waiting : List Event → ℕ → Option (List ℕ)
waiting past com_id = unwrap_or (latest (waits com_id) past) None
