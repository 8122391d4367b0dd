-- What lifts a denial, by the rows in force. The texts are this project's:
--   lifted by: Set of OBJECT COLUMN = N by EXPRESSION (ACE), or by EXPRESSION (ACE)
--   lifted by: EXPRESSION (ACE), or EXPRESSION (ACE)
--   lifted by: EXPRESSION (ACE), but for PIN, which nobody reads
--   lifted by: the PIN of AUTHORITY
--   lifted by: a power cycle
--   lifted by: a power cycle, or Revert of SP by EXPRESSION (ACE), or by EXPRESSION (ACE)
--   lifted by: the same in a session on SP by EXPRESSION (ACE), or by EXPRESSION (ACE)
--   lifted by: nothing
use Rattle.std.specs.Prelude.{ℕ, ◌==◌, Bool, not, ◌&&◌, List, [], ◌∷◌, ◌++◌, filter, Option, None, Some, codes, decimal, if◌then◌else◌}
use Rattle.std.specs.List.{flat_map}
use Rattle.basics.specs.declared.profile.Profile.{Profile}
use Rattle.sp_cells.specs.declared.names.Uid.{Uid}
use Rattle.sp_cells.specs.declared.names.Sp.{Sp}
use Rattle.sp_cells.specs.declared.names.Sp.TheVariants.{Admin, Locking}
use Rattle.sp_cells.specs.declared.names.Column.{Column}
use Rattle.sp_cells.specs.declared.cells.Cell.{Cell}
use Rattle.sp_cells.specs.declared.cells.Cell.TheVariants.{Expr, Uid as Object}
use Rattle.sp_cells.specs.Names.{table_of, c_pin_table, get, set, revert, this_sp, admin_sp, locking_sp, range_uid, mbr_control}
use Rattle.sp_cells.specs.ColumnNames.{boolean_expr_column, class_column, pin_column, enabled_column, read_locked_column, write_locked_column, mbr_done_column}
use Rattle.sp_cells.specs.Flat.{LookUp}
use Rattle.ace_eval.specs.Aces.{acl_at, naming, holds_at}
use Rattle.ace_eval.specs.Truth.{has}
use Rattle.audit.specs.declared.reason.AttemptFailure.{AttemptFailure}
use Rattle.audit.specs.declared.reason.AttemptFailure.TheVariants.{WrongPin, LockedOut, Disabled, Blocked, Unknown}
use Rattle.audit.specs.declared.reason.Why.{Why}
use Rattle.audit.specs.declared.reason.Why.TheVariants.{ReadLocked, WriteLocked, ReadShadow, WriteShadow, NoEntryHolds, NoAccessRow, AttemptFailed}
use Rattle.reasons.specs.Called.{called_object, called_column}
use Rattle.reasons.specs.Phrases.{expression_text}

-- who fulfils an ACE, by its BooleanExpr cell
abbrev pub fulfilling_text : Option Cell → List ℕ
fulfilling_text (Some (Expr elements)) = expression_text elements
fulfilling_text _ = codes "nobody"

-- `EXPRESSION (ACE)`
abbrev pub way_text : LookUp → Sp → Uid → List ℕ
way_text look sp ace = fulfilling_text (look sp ace boolean_expr_column)
    ++ codes " (" ++ called_object ace ++ codes ")"

-- each of these, with what stands before it
abbrev pub more_ways_text : LookUp → Sp → (before : List ℕ) → List Uid → List ℕ
more_ways_text look sp before aces = flat_map (λ ace. before ++ way_text look sp ace) aces

-- the ACEs of which one would do; `nothing` where there are none
abbrev pub ways_text : LookUp → Sp → (first later : List ℕ) → List Uid → List ℕ
ways_text look sp first later [] = codes "nothing"
ways_text look sp first later (ace ∷ aces) =
    first ++ way_text look sp ace ++ more_ways_text look sp later aces

-- the ACEs of a method of an object that name a column, or all of them where no column is named
abbrev pub aces_for : Profile → LookUp → Sp → Uid → Uid → Option Column → List Uid
aces_for profile look sp object method column =
    naming look sp column (acl_at profile sp object method)

-- a number that is set: `Set of OBJECT COLUMN = N by `, and who may
abbrev pub set_words : Uid → Column → ℕ → List ℕ
set_words object column n =
    codes "Set of " ++ called_object object ++ codes " " ++ called_column object column
    ++ codes " = " ++ decimal n ++ codes " by "

abbrev pub set_text : Profile → LookUp → Sp → Uid → Column → ℕ → List ℕ
set_text profile look sp object column n =
    ways_text look sp (set_words object column n) (codes ", or by ")
    (aces_for profile look sp object set (Some column))

-- a Revert of an SP, which the Admin SP does (Opal SSC 2.01, section 5.1.2): `Revert of SP by `, and who may
abbrev pub sp_object : Sp → Uid
sp_object Admin = admin_sp
sp_object Locking = locking_sp

abbrev pub revert_words : Uid → List ℕ
revert_words object = codes "Revert of " ++ called_object object ++ codes " by "

-- what an authority of an SP holds by itself: the class that its row names, too (Core 2.01, section 5.3, table Authority)
abbrev pub held_with : Uid → Option Cell → List Uid
held_with authority (Some (Object class)) =
    if has (authority ∷ []) class then authority ∷ [] else authority ∷ class ∷ []
held_with authority _ = authority ∷ []

abbrev pub held_alone : LookUp → Sp → Uid → List Uid
held_alone look sp authority = held_with authority (look sp authority class_column)

-- An ACE that an authority fulfils by itself is no way out where that authority is locked out.
abbrev pub is_beside : LookUp → Sp → Uid → Uid → Bool
is_beside look sp authority ace = not (holds_at look sp (held_alone look sp authority) ace)

-- behind these words the ACEs of which one would do; no text where there are none
abbrev pub reverted_text : LookUp → (words : List ℕ) → List Uid → List ℕ
reverted_text look words [] = []
reverted_text look words (ace ∷ aces) =
    codes ", or " ++ ways_text look Admin words (codes ", or by ") (ace ∷ aces)

-- a Revert of an SP by who is not the authority
abbrev pub revert_text : Profile → LookUp → Sp → Uid → List ℕ
revert_text profile look sp authority =
    reverted_text look (revert_words (sp_object sp))
    (filter (is_beside look Admin authority)
    (aces_for profile look Admin (sp_object sp) revert None))

-- A lock of a range is lifted by its flag (Core 2.01, section 5.7, table Locking), and the shadow by Done (table
-- MBRControl).
abbrev pub unlocking_text : Profile → LookUp → (range : ℕ) → Column → List ℕ
unlocking_text profile look range column =
    set_text profile look Locking (range_uid range) column 0

abbrev pub unshadowing_text : Profile → LookUp → List ℕ
unshadowing_text profile look = set_text profile look Locking mbr_control mbr_done_column 1

-- what gives an authority its tries back
abbrev pub locked_out_text : Profile → LookUp → Sp → Uid → List ℕ
locked_out_text profile look sp authority =
    codes "a power cycle" ++ revert_text profile look sp authority

-- Tries that are used up are given back by a power cycle, and by a Revert of the SP (Core 2.01, section 5.3, table
-- C_PIN); SID that is blocked is freed by a power cycle (Block SID Authentication feature set 1.00).
abbrev pub attempt_remedy : Profile → LookUp → Sp → Uid → AttemptFailure → List ℕ
attempt_remedy profile look sp authority WrongPin = codes "the PIN of " ++ called_object authority
attempt_remedy profile look sp authority LockedOut = locked_out_text profile look sp authority
attempt_remedy profile look sp authority Disabled =
    set_text profile look sp authority enabled_column 1
attempt_remedy profile look sp authority Blocked = codes "a power cycle"
attempt_remedy profile look sp authority Unknown = codes "nothing"

-- Who gets an ACE for the Get of a C_PIN row reads the row, but no PIN: no ACE of the Get names that column, but for the
-- MSID's (Opal SSC 2.01, sections 4.2 and 4.3, tables ACE and C_PIN).
abbrev pub is_pin_get : Uid → Uid → Bool
is_pin_get object method = table_of object == c_pin_table && method.0 == get.0

abbrev pub secret_text : (readers : List Uid) → List ℕ
secret_text [] = codes ", but for PIN, which nobody reads"
secret_text (ace ∷ aces) = []

abbrev pub unread_text : Profile → LookUp → Sp → Uid → Uid → List ℕ
unread_text profile look sp object method =
    if is_pin_get object method
    then secret_text (aces_for profile look sp object method (Some pin_column)) else []

-- A method that an SP does not offer on an object may be offered in a session on the other SP, as Activate of the Locking SP
-- (Opal SSC 2.01, section 5.1.1). ThisSP is another SP there.
abbrev pub other_sp : Sp → Sp
other_sp Admin = Locking
other_sp Locking = Admin

abbrev pub elsewhere_words : Sp → List ℕ
elsewhere_words sp =
    codes "the same in a session on " ++ called_object (sp_object sp) ++ codes " by "

abbrev pub elsewhere_aces : Profile → LookUp → Sp → Uid → Uid → List Uid
elsewhere_aces profile look sp object method =
    if object.0 == this_sp.0 then [] else aces_for profile look sp object method None

abbrev pub elsewhere_text : Profile → LookUp → Sp → Uid → Uid → List ℕ
elsewhere_text profile look sp object method =
    ways_text look sp (elsewhere_words sp) (codes ", or by ")
    (elsewhere_aces profile look sp object method)

-- what stands behind `lifted by: `
abbrev pub lifting_text : Profile → LookUp → Why → List ℕ
lifting_text profile look (ReadLocked lba count range) =
    unlocking_text profile look range read_locked_column
lifting_text profile look (WriteLocked lba count range) =
    unlocking_text profile look range write_locked_column
lifting_text profile look (ReadShadow lba count) = unshadowing_text profile look
lifting_text profile look (WriteShadow lba count) = unshadowing_text profile look
lifting_text profile look (NoEntryHolds sp object method column need) =
    ways_text look sp [] (codes ", or ") need.items ++ unread_text profile look sp object method
lifting_text profile look (NoAccessRow sp object method) =
    elsewhere_text profile look (other_sp sp) object method
lifting_text profile look (AttemptFailed sp authority failure) =
    attempt_remedy profile look sp authority failure

abbrev pub remedy_text : Profile → LookUp → Why → List ℕ
remedy_text profile look why = codes "lifted by: " ++ lifting_text profile look why
