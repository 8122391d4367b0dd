-- Which deed an item can do after a past: a law over every act. And with it, when no transaction
-- can be open.
use Rattle.std.specs.Prelude.{◌≡◌, ◌⊎◌, ◌==◌, ◌||◌, ℕ, Bool, true, false, List, ◌∷◌, Option, Some, None}
use Rattle.sp_cells.specs.declared.names.Sp.{Sp}
use Rattle.sp_cells.specs.declared.names.Sp.TheVariants.{Admin, Locking}
use Rattle.sp_cells.specs.Config.{table_sectors}
use Rattle.sp_cells.specs.Names.{c_pin_sid, tper_info, data_removal, makers_class, admin_sp_admin, c_pin_admin_sp_admin}
use Rattle.sp_cells.specs.declared.names.Uid.{Uid}
use Rattle.sp_cells.specs.declared.cells.Cell.{Cell}
use Rattle.basics.specs.declared.profile.Profile.{Profile}
use Rattle.basics.specs.declared.profile.Profile.TheVariants.{Base, Field, Opal}
use Rattle.basics.specs.Profiles.{has_field}
use Rattle.shadow_mbr.specs.declared.erasure.Erasure.{Erasure}
use Rattle.methods.specs.Erasures.{erased_by_revert, erased_by_key, erased_by_revert_sp, is_wholly_locked}
use Rattle.history.specs.Opening.{Origin}
use Rattle.sessions.specs.Deeds.{cells_set, bytes_set, Change, Sets, Restores, Resets, Begun, SessionDeed, Unchanged, Started, Tried, Changed, Began, Committed, Aborted, Ended, Activated, Reverted, Erased, Drew, HostTold, StackReset, StackTold}
use Rattle.sessions.specs.Made.{is_within}
use Rattle.sessions.specs.Starts.{is_in_use}
use Rattle.history.specs.Events.{Response, InSession, Event}
use Rattle.history.specs.Facts.{is_on_com_id}
use Rattle.history.specs.Readers.{session_on, next_number, open_on, is_of, in_force}
use Rattle.history.specs.History.{Act, event, log}

-- A session lives on the SP.
pub record IsIn (past : List Event) (sp : Sp) (session : Begun) : Type 0 where
  pub lives : session_on past sp ≡ Some session
  pub on : session.sp ≡ sp

-- It began on an SP that is Manufactured and had no session, with the next number.
pub record IsNew (o : Origin) (past : List Event) (session : Begun) : Type 0 where
  pub free : session_on past session.sp ≡ None
  pub made : is_in_use (in_force o past) session.sp ≡ true
  pub number : session.number ≡ next_number past

pub record Begins (past : List Event) (sp : Sp) (number : ℕ) : Type 0 where
  pub session : Begun
  pub lives : IsIn past sp session
  pub own : session.number ≡ number
  pub free : open_on past sp ≡ None

pub record Closes (past : List Event) (sp : Sp) : Type 0 where
  pub session : Begun
  pub lives : IsIn past sp session
  pub own : is_of session.number (open_on past sp) ≡ true

-- A session of an SP that has no transaction open.
pub record IsOutside (past : List Event) (sp : Sp) : Type 0 where
  pub session : Begun
  pub lives : IsIn past sp session
  pub outside : is_of session.number (open_on past sp) ≡ false

-- A Revert: of a session of the Admin SP.
pub record IsRevert (o : Origin) (past : List Event) (erasure : Erasure) : Type 0 where
  pub outside : IsOutside past Admin
  pub erases : erasure ≡ erased_by_revert (in_force o past)

-- A RevertSP: of a session of the Locking SP, which it reverts, under each profile but the base one. The ranges
-- that it erases are those before it, and it keeps no global range that is locked both ways.
pub record IsRevertSp (o : Origin) (past : List Event) (sp : Sp) (erasure : Erasure) : Type 0 where
  pub outside : IsOutside past Locking
  pub profile : has_field o.tables.config.profile ≡ true
  pub reverts : sp ≡ Locking
  pub keep : Bool
  pub erases : erasure ≡ erased_by_revert_sp (in_force o past) keep
  pub unlocked : keep ≡ true → is_wholly_locked (in_force o past) ≡ false

-- A GenKey, of a session of the Locking SP, under each profile but the base one.
pub record IsNewKey (o : Origin) (past : List Event) (erasure : Erasure) : Type 0 where
  pub outside : IsOutside past Locking
  pub profile : has_field o.tables.config.profile ≡ true
  pub range : ℕ
  pub erases : erasure ≡ erased_by_key (in_force o past) range

-- The objects of the Admin SP that a Set changes: SID's PIN, what lets a command reset the drive, and how it removes data;
-- under the profile `Opal` the class Makers, Admin1 and its PIN, too.
abbrev pub is_set_on_each : Uid → Bool
is_set_on_each object =
    object.0 == c_pin_sid.0 || object.0 == tper_info.0 || object.0 == data_removal.0

abbrev pub is_set_on_opal : Uid → Bool
is_set_on_opal object =
    object.0 == makers_class.0 || object.0 == admin_sp_admin.0
    || object.0 == c_pin_admin_sp_admin.0

abbrev pub is_set_in_admin : Profile → Uid → Bool
is_set_in_admin Base object = is_set_on_each object
is_set_in_admin Field object = is_set_on_each object
is_set_in_admin Opal object = is_set_on_each object || is_set_on_opal object

-- It sets cells of an object that passes, or bytes.
abbrev pub is_of_row : (Uid → Bool) → Change → Bool
is_of_row p (Sets (cells_set object cells)) = p object
is_of_row p (Sets (bytes_set at bytes)) = true
is_of_row p Restores = false
is_of_row p (Resets kind) = false

-- Bytes are set by sessions of the Locking SP alone, within the sectors of its byte tables, which
-- are so many.
abbrev pub is_inside : ℕ → Sp → Change → Bool
is_inside sectors Locking (Sets (bytes_set at content)) = is_within sectors at content
is_inside sectors Admin (Sets (bytes_set at content)) = false
is_inside sectors sp (Sets (cells_set object cells)) = true
is_inside sectors sp Restores = true
is_inside sectors sp (Resets kind) = true

-- A Set of a live session; on the Admin SP of one of those objects.
pub record Changes (o : Origin) (past : List Event) (sp : Sp) (change : Change) : Type 0 where
  pub session : Begun
  pub lives : IsIn past sp session
  pub row : sp ≡ Admin → is_of_row (is_set_in_admin o.tables.config.profile) change ≡ true
  pub inside : is_inside (table_sectors o.tables.config) sp change ≡ true

abbrev pub CanDo : Origin → List Event → SessionDeed → Type 0
CanDo o past Unchanged = Unit {0}
CanDo o past (Started session row) = IsNew o past session
CanDo o past (Tried attempt) = Unit {0}
CanDo o past (Changed sp change) = Changes o past sp change
CanDo o past (Began sp number) = Begins past sp number
CanDo o past (Committed sp) = Closes past sp
CanDo o past (Aborted sp) = Closes past sp
CanDo o past (Ended sp) = (session : Begun) × IsIn past sp session
CanDo o past (Activated pin) = IsOutside past Admin
    × (is_in_use (in_force o past) Locking ≡ false)
CanDo o past (Reverted sp erasure) = IsRevert o past erasure ⊎ IsRevertSp o past sp erasure
CanDo o past (Erased erasure) = IsNewKey o past erasure
CanDo o past (Drew count) = Unit {0}
CanDo o past (HostTold com_id limits) = Unit {0}
CanDo o past (StackReset com_id ends) =
    (sp : Sp) → ends sp ≡ is_on_com_id com_id (session_on past sp)
CanDo o past (StackTold com_id) = Unit {0}

abbrev pub DeedLaw : Type 0
DeedLaw =
    (o : Origin) (past : List Event) (act : Act) (deed : SessionDeed) (response : Response)
    → (event o past act).deed ≡ InSession deed response → CanDo o past deed

-- An open transaction is that of the live session of its SP.
abbrev pub OwnerLaw : Type 0
OwnerLaw =
    (o : Origin) (acts : List Act) (sp : Sp) (number : ℕ) → open_on (log o acts) sp ≡ Some number
    → (session : Begun) × (session_on (log o acts) sp ≡ Some session) × (session.number ≡ number)

-- While a session of the Locking SP lives, the SP is Manufactured.
abbrev pub LifeLaw : Type 0
LifeLaw =
    (o : Origin) (acts : List Act) (session : Begun)
    → session_on (log o acts) Locking ≡ Some session
    → is_in_use (in_force o (log o acts)) Locking ≡ true

-- At an Activate that takes effect no transaction is open.
abbrev pub ActivateLaw : Type 0
ActivateLaw =
    (o : Origin) (acts : List Act) (act : Act) (pin : Option Cell) (response : Response)
    → (event o (log o acts) act).deed ≡ InSession (Activated pin) response
    → (sp : Sp) → open_on (log o acts) sp ≡ None

-- At a Revert none is open on the Admin SP, so none but that of a session of the Locking SP, which the
-- Revert ends; at a RevertSP none is open on the Locking SP, so none but that of a session of the Admin
-- SP. After either none is open, and no session of the Locking SP lives.
abbrev pub RevertLaw : Type 0
RevertLaw =
    (o : Origin) (acts : List Act) (act : Act) (sp : Sp) (erasure : Erasure)
    (response : Response)
    → (event o (log o acts) act).deed ≡ InSession (Reverted sp erasure) response
    → ((IsRevert o (log o acts) erasure × (open_on (log o acts) Admin ≡ None))
    ⊎ (IsRevertSp o (log o acts) sp erasure × (open_on (log o acts) Locking ≡ None)))
    × ((any : Sp) → open_on (event o (log o acts) act ∷ log o acts) any ≡ None)
    × (session_on (event o (log o acts) act ∷ log o acts) Locking ≡ None)
