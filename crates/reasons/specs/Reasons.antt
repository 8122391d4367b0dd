-- The lines that say why a transfer was denied: since when each condition of the denial has been in force, and what would
-- lift it. The texts are this drive's own, with the names that the standards give to objects and columns:
--   because the opening: Locking_Range1 ReadLocked = 1
--   because act 9: Set of Locking_Range1 RangeStart = 100 and RangeLength = 20 by client 3 in session 4097, line 11
--   because act 12: Set of Locking_Range1 ReadLocked = 1 by client 3 in session 4097, line 14
--   because act 15: commit of Locking_Range1 ReadLocked = 1 by client 3 in session 4097, line 17
--   because act 20: a power cycle, LockOnReset: Locking_Range1 ReadLocked = 1, line 22
--   because act 20: a power cycle, DoneOnReset: MBRControl Enable = 1 and Done = 0, line 22
--   because step 12: Set of Locking_Range1 ReadLocked = 1 by client 3 in session 4097, line 14
--   lifted by: Set of Locking_Range1 ReadLocked = 0 by Admins (ACE_Locking_Range1_Set_RdLocked)
use Rattle.std.specs.Prelude.{ℕ, zero, suc, List, [], ◌∷◌, ◌++◌, Option, None, Some, codes, decimal, if◌then◌else◌}
use Rattle.basics.specs.declared.profile.Profile.{Profile}
use Rattle.sp_cells.specs.declared.names.Uid.{Uid}
use Rattle.sp_cells.specs.declared.names.Column.{Column}
use Rattle.sp_cells.specs.Names.{range_uid, mbr_control}
use Rattle.sp_cells.specs.ColumnNames.{range_start_column, range_length_column, lock_on_reset_column, mbr_enable_column, mbr_done_column, mbr_done_on_reset_column}
use Rattle.sp_cells.specs.Flat.{LookUp}
use Rattle.audit.specs.declared.reason.Why.{Why}
use Rattle.reasons.specs.Called.{called_object, called_column}
use Rattle.reasons.specs.Remedies.{remedy_text}
use Rattle.reasons.specs.declared.explained.condition.Place.{Place}
use Rattle.reasons.specs.declared.explained.condition.Condition.{Condition}
use Rattle.reasons.specs.declared.explained.condition.Condition.TheVariants.{Lock, At, Shadow}
use Rattle.reasons.specs.declared.explained.onset.Source.{Source}
use Rattle.reasons.specs.declared.explained.onset.Cause.{Cause}
use Rattle.reasons.specs.declared.explained.onset.Cause.TheVariants.{SetIn, CommittedIn, ResetBy, NoCause}
use Rattle.reasons.specs.declared.explained.onset.Counted.{Counted}
use Rattle.reasons.specs.declared.explained.onset.Counted.TheVariants.{Acts, Steps}
use Rattle.reasons.specs.declared.explained.onset.Onset.{Onset}
use Rattle.reasons.specs.declared.explained.onset.Onset.TheVariants.{AtOpening, AtAct}
use Rattle.reasons.specs.Conditions.{flag_column, has_range, range_named, conditions_of}

-- words, and a number behind them
unfoldable pub worded_number : List ℕ → ℕ → List ℕ
worded_number words number = words ++ decimal number

-- a cell by its names that is 1, as `Locking_Range1 ReadLocked = 1`
unfoldable pub set_cell_text : Uid → Column → List ℕ
set_cell_text object column =
    called_object object ++ codes " " ++ called_column object column ++ codes " = 1"

-- `Done = 0`
unfoldable pub not_done_text : List ℕ
not_done_text = called_column mbr_control mbr_done_column ++ codes " = 0"

-- a column of a range as a number, as `RangeLength = 20`
unfoldable pub range_number_text : ℕ → Column → ℕ → List ℕ
range_number_text range column number =
    worded_number (called_column (range_uid range) column ++ codes " = ") number

-- where a range lies
unfoldable pub place_text : ℕ → Place → List ℕ
place_text range place =
    called_object (range_uid range) ++ codes " "
    ++ range_number_text range range_start_column place.start ++ codes " and "
    ++ range_number_text range range_length_column place.length

-- a condition that holds
unfoldable pub condition_text : Condition → List ℕ
condition_text (Lock range flag) = set_cell_text (range_uid range) (flag_column flag)
condition_text (At range place) = place_text range place
condition_text Shadow =
    set_cell_text mbr_control mbr_enable_column ++ codes " and " ++ not_done_text

-- the column by which a reset brings it into force; none moves a range
unfoldable pub reset_column_text : Condition → List ℕ
reset_column_text (Lock range flag) = called_column (range_uid range) lock_on_reset_column
reset_column_text (At range place) = called_column (range_uid range) range_start_column
reset_column_text Shadow = called_column mbr_control mbr_done_on_reset_column

abbrev pub reset_kind_text : ℕ → List ℕ
reset_kind_text zero = codes "a power cycle"
reset_kind_text (suc zero) = codes "a hardware reset"
reset_kind_text _ = codes "TPER_RESET"

-- who did it
unfoldable pub client_text : Source → ℕ → List ℕ
client_text source session =
    worded_number (codes " by client ") source.client
    ++ worded_number (codes " in session ") session

unfoldable pub cause_text : Condition → Source → Cause → List ℕ
cause_text condition source (SetIn session) =
    codes "Set of " ++ condition_text condition ++ client_text source session
cause_text condition source (CommittedIn session) =
    codes "commit of " ++ condition_text condition ++ client_text source session
cause_text condition source (ResetBy kind) =
    reset_kind_text kind ++ codes ", " ++ reset_column_text condition ++ codes ": "
    ++ condition_text condition
cause_text condition source NoCause = condition_text condition

-- what is counted: the acts of a drive, or the steps of a port
abbrev pub counted_words : Counted → List ℕ
counted_words Acts = codes "act "
counted_words Steps = codes "step "

unfoldable pub onset_text : Counted → Condition → Onset → List ℕ
onset_text counted condition AtOpening = codes "the opening: " ++ condition_text condition
onset_text counted condition (AtAct number source cause) =
    worded_number (counted_words counted) number ++ codes ": " ++ cause_text condition source cause
    ++ worded_number (codes ", line ") source.line

-- the line of a condition, with its line feed; none where it does not hold
abbrev pub line_since : Counted → Condition → Option Onset → List ℕ
line_since counted condition None = []
line_since counted condition (Some onset) =
    codes "because " ++ onset_text counted condition onset ++ 10 ∷ []

abbrev pub reason_text : Counted → Condition → Option Onset → List ℕ
reason_text counted condition onset =
    if has_range condition then line_since counted condition onset else []

abbrev pub reasons_text : Counted → (Condition → Option Onset) → List Condition → List ℕ
reasons_text counted onset [] = []
reasons_text counted onset (condition ∷ conditions) =
    reason_text counted condition (onset condition) ++ reasons_text counted onset conditions

-- all that is told of a denial, with what would lift it
abbrev pub told_with : Counted → (Condition → Option Onset) → (ℕ → Place) → Why → List ℕ → List ℕ
told_with counted onset place why remedy =
    reasons_text counted onset (conditions_of why (place (range_named why))) ++ remedy ++ 10 ∷ []

-- and by the rows in force
abbrev pub told_since : Counted → (Condition → Option Onset) → (ℕ → Place) → Profile → LookUp → Why
    → List ℕ
told_since counted onset place profile rows why =
    told_with counted onset place why (remedy_text profile rows why)

-- since which act of a drive
abbrev pub explanation_text : (Condition → Option Onset) → (ℕ → Place) → Profile → LookUp → Why
    → List ℕ
explanation_text = told_since Acts
