-- Which column of a Set takes no such value, and what the value is not that its type takes (Core 2.01, sections 5.1.3 and
-- 5.3.3.7; the types of the columns: sections 5.3.2 and 5.7.2). The texts are this project's:
--   because the value of Locking_Range1 ReadLocked is neither 0 nor 1
--   because the value of C_PIN_User1 PIN is no byte string of at most 32 bytes
--   because Set sets no Locking_Range1 Name
use Rattle.std.specs.Prelude.{◌≡◌, ◌↔◌, ℕ, Bool, true, List, [], ◌∷◌, ◌++◌, Option, None, Some, is_some, codes, if◌then◌else◌}
use Rattle.basics.specs.declared.profile.Profile.{Profile}
use Rattle.compacket.specs.Frames.{reading as frame_in}
use Rattle.sp_cells.specs.declared.names.Column.{Column}
use Rattle.sp_cells.specs.declared.names.Sp.{Sp}
use Rattle.sp_cells.specs.declared.names.Sp.TheVariants.{Admin, Locking}
use Rattle.sp_cells.specs.declared.names.Uid.{Uid}
use Rattle.sp_cells.specs.declared.values.ColumnType.{ColumnType}
use Rattle.sp_cells.specs.declared.values.ColumnType.TheVariants as types
use Rattle.sp_cells.specs.Limits.{most_pin_bytes, most_common_name_bytes, most_short_elements, most_elements, cryptographic_erase}
use Rattle.sp_cells.specs.Names.{col}
use Rattle.sp_cells.specs.Values.{type_at}
use Rattle.tcg_tokens.specs.Tree.{Tree}
use Rattle.tcg_calls.specs.Asks.{ask_of}
use Rattle.tcg_calls.specs.declared.call_shapes.ask.Ask.{Ask}
use Rattle.tcg_calls.specs.declared.call_shapes.ask.Ask.TheVariants.{SetCells}
use Rattle.methods.specs.Columns.{set_types_of}
use Rattle.methods.specs.Kinds.{kind_of}
use Rattle.methods.specs.Settings.{cell_for, cells_for}
use Rattle.reasons.specs.declared.explained.lives.SpLife.{SpLife}
use Rattle.reasons.specs.Asked.{is_its_session}
use Rattle.reasons.specs.Called.{called_object, called_column}
use Rattle.reasons.specs.Reasons.{worded_number}
use Rattle.reasons.specs.Rulings.{because_text}
use Rattle.reasons.specs.Sent.{SentCall, call_sent, session_of_frame}

-- of at most so many bytes, or elements
abbrev pub bytes_words : ℕ → List ℕ
bytes_words most = worded_number (codes " is no byte string of at most ") most ++ codes " bytes"

abbrev pub expression_words : ℕ → List ℕ
expression_words most =
    worded_number (codes " is no expression of at most ") most ++ codes " elements"

-- what a value is not, which a column of this type does not take
abbrev pub unlike_words : ColumnType → List ℕ
unlike_words types.Name = codes " is no byte string"
unlike_words types.CommonName = bytes_words most_common_name_bytes
unlike_words types.Secret = bytes_words most_pin_bytes
unlike_words types.Object = codes " is no name of eight bytes"
unlike_words types.Number = codes " is no number"
unlike_words types.Flag = codes " is neither 0 nor 1"
unlike_words types.Mechanism =
    worded_number (codes " is not ") cryptographic_erase ++ codes ", the cryptographic erase"
unlike_words types.Resets =
    codes " is no list of kinds of reset: 0, 1 and 3, each at most once"
unlike_words types.PowerCycleResets =
    codes " is no list of kinds of reset that has 0: 0, 1 and 3, each at most once"
unlike_words types.Expression = expression_words most_short_elements
unlike_words types.LongExpression = expression_words most_elements
unlike_words types.Columns = codes " is no list of columns"
unlike_words types.OneName = codes " is no list of one name"

-- a column by its names; one that has no type among those of Set is set by no Set
abbrev pub cell_words : Uid → Column → List ℕ
cell_words object column = called_object object ++ codes " " ++ called_column object column

abbrev pub untaken_words : Uid → Column → Option ColumnType → List ℕ
untaken_words object column None = codes "Set sets no " ++ cell_words object column
untaken_words object column (Some kind) =
    codes "the value of " ++ cell_words object column ++ unlike_words kind

-- the first column that does not take its value, by the types that Set takes
abbrev pub first_untaken : List (Column × ColumnType) → List (ℕ × Tree) → Option ℕ
first_untaken types [] = None
first_untaken types (p ∷ ps) =
    if is_some (cell_for types p) then first_untaken types ps else Some p.0

abbrev pub untaken_line : Uid → List (Column × ColumnType) → Option ℕ → List ℕ
untaken_line object types None = []
untaken_line object types (Some column) =
    because_text (untaken_words object (col column) (type_at types (col column)))

abbrev pub untaken_by : Uid → List (Column × ColumnType) → List (ℕ × Tree) → List ℕ
untaken_by object types values = untaken_line object types (first_untaken types values)

-- of a Set of columns in a session of an SP
abbrev pub values_text : Profile → Sp → Uid → Option Ask → List ℕ
values_text profile sp object None = []
values_text profile sp object (Some (SetCells values)) =
    untaken_by object (set_types_of profile (kind_of sp object)) values
values_text profile sp object (Some _) = []

abbrev pub set_text : Profile → Sp → Option SentCall → List ℕ
set_text profile sp None = []
set_text profile sp (Some c) =
    values_text profile sp c.object (ask_of profile sp c.object c.method c.args)

-- the SP on which the session of a number lives
abbrev pub sp_of_session : (Sp → SpLife) → ℕ → Option Sp
sp_of_session lives session =
    if is_its_session session (lives Admin) then Some Admin
    else (if is_its_session session (lives Locking) then Some Locking else None)

abbrev pub untaken_on : Profile → Option Sp → List ℕ → List ℕ
untaken_on profile None payload = []
untaken_on profile (Some sp) payload = set_text profile sp (call_sent payload)

abbrev pub untaken_text : Profile → (Sp → SpLife) → List ℕ → List ℕ
untaken_text profile lives payload =
    untaken_on profile (sp_of_session lives (session_of_frame (frame_in payload))) payload

-- A column is told exactly where a Set of these values sets nothing.
abbrev pub UntakenLaw : Type 0
UntakenLaw =
    (types : List (Column × ColumnType)) (values : List (ℕ × Tree))
    → (first_untaken types values ≡ None) ↔ (is_some (cells_for types values) ≡ true)

-- And what is told of it is so: its column takes no such value, and those before it take theirs.
pub record IsUntaken (types : List (Column × ColumnType)) (values : List (ℕ × Tree))
    (column : ℕ) : Type 0 where
  pub before : List (ℕ × Tree)
  pub value : Tree
  pub after : List (ℕ × Tree)
  pub place : values ≡ before ++ (column, value) ∷ after
  pub taken : first_untaken types before ≡ None
  pub fault : cell_for types (column, value) ≡ None

abbrev pub UntakenColumnLaw : Type 0
UntakenColumnLaw =
    (types : List (Column × ColumnType)) (values : List (ℕ × Tree)) (column : ℕ)
    → first_untaken types values ≡ Some column → IsUntaken types values column
