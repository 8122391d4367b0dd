-- What comes of an attempt to authenticate (Core 2.01, section 5.3.4.1; Opal SSC 2.01, section 5.1). It goes by the
-- rows in force, never by those of an open transaction.
use Rattle.std.specs.Prelude.{◌==◌, nat_le, ℕ, Bool, false, ◌&&◌, ◌||◌, not, List, Option, None, Some, is_some, if◌then◌else◌}
use Rattle.std.specs.Str.{bytes_eq}
use Rattle.sp_cells.specs.declared.names.Sp.{Sp}
use Rattle.sp_cells.specs.declared.names.Uid.{Uid as UidType}
use Rattle.sp_cells.specs.declared.cells.Cell.{Cell}
use Rattle.sp_cells.specs.declared.cells.Cell.TheVariants.{Bytes, Uid}
use Rattle.sp_cells.specs.Names.{none, anybody, sid}
use Rattle.sp_cells.specs.ColumnNames.{uid_column, credential_column, enabled_column, is_class_column, pin_column, tries_column, try_limit_column}
use Rattle.sp_cells.specs.Flat.{LookUp}
use Rattle.sp_cells.specs.Ranges.{number}
use Rattle.audit.specs.declared.reason.AttemptFailure.{AttemptFailure}
use Rattle.audit.specs.declared.reason.AttemptFailure.TheVariants.{WrongPin, LockedOut, Disabled, Blocked, Unknown}
use Rattle.trusted_cmds.specs.declared.block.SidBlock.{SidBlock}
use Rattle.trusted_cmds.specs.BlockSid.{is_blocked}
use Rattle.sessions.specs.Known.{is_known}

-- the object that a cell names; no object where it names none
abbrev pub object_named : Option Cell → UidType
object_named (Some (Uid u)) = u
object_named _ = none

-- the PIN row of an authority
abbrev pub credential : LookUp → Sp → UidType → UidType
credential look sp authority = object_named (look sp authority credential_column)

-- the bytes are the PIN
abbrev pub is_pin : List ℕ → Option Cell → Bool
is_pin proof (Some (Bytes pin)) = bytes_eq pin proof
is_pin proof _ = false

-- the wrong attempts have reached the limit; 0 is no limit
abbrev pub is_used_up : ℕ → ℕ → Bool
is_used_up limit tries = not (limit == 0) && nat_le limit tries

abbrev pub pin_failure : LookUp → Sp → UidType → List ℕ → Option AttemptFailure
pin_failure look sp pin proof =
    if is_used_up (number look sp pin try_limit_column) (number look sp pin tries_column)
    then Some LockedOut else
    if is_pin proof (look sp pin pin_column) then None else Some WrongPin

-- the SP has this authority: it is one of its, and a drive of this profile has its row
abbrev pub is_there : LookUp → Sp → UidType → Bool
is_there look sp authority = is_known sp authority && is_some (look sp authority uid_column)

-- how an attempt fails; None where it is right. Anybody needs no PIN; while SID is blocked its PIN is not looked at, nor
-- its tries (Block SID Authentication feature set 1.00)
abbrev pub attempt_failure : SidBlock → LookUp → Sp → UidType → List ℕ → Option AttemptFailure
attempt_failure block look sp authority proof =
    if not (is_there look sp authority) || (number look sp authority is_class_column == 1)
    then Some Unknown else
    if not (number look sp authority enabled_column == 1) then Some Disabled else
    if is_blocked block && (authority.0 == sid.0) then Some Blocked else
    if authority.0 == anybody.0 then None else
    pin_failure look sp (credential look sp authority) proof
