-- What comes of a call in a session: its shape, its ACEs, its values, in this order. Over any view and any authorities.
use Rattle.std.specs.Prelude.{ℕ, ◌+◌, ◌==◌, ◌||◌, ◌-◌, ◌&&◌, Bool, true, false, nat_le, nat_lt, List, [], ◌∷◌, map, Option, Some, None, Result, Ok, Err, if◌then◌else◌}
use Rattle.basics.specs.declared.profile.Profile.{Profile}
use Rattle.sp_cells.specs.declared.names.Uid.{Uid}
use Rattle.sp_cells.specs.declared.names.Sp.{Sp}
use Rattle.sp_cells.specs.declared.error.SetError.{SetError}
use Rattle.sp_cells.specs.declared.error.SetError.TheVariants as faults
use Rattle.sp_cells.specs.declared.byte_tables.ByteTable.{ByteTable}
use Rattle.sp_cells.specs.declared.byte_tables.TableSizes.{TableSizes}
use Rattle.sp_cells.specs.ByteTables.{bytes_of_table, table_begin}
use Rattle.sp_cells.specs.Flat.{LookUp}
use Rattle.sp_cells.specs.Names.{table_of}
use Rattle.sp_cells.specs.Numbers.{key_number}
use Rattle.sp_tables.specs.RowNames.{rows_of_table}
use Rattle.ace_eval.specs.Aces.{acl_at}
use Rattle.sp_tables.specs.Looks.{RowLook, fault_seen}
use Rattle.sp_tables.specs.Tries.{names_tries}
use Rattle.transactions.specs.Bytes.{bytes_from}
use Rattle.audit.specs.declared.reason.Why.{Why}
use Rattle.audit.specs.declared.rules.rule.Rule.{Rule}
use Rattle.audit.specs.declared.rules.rule.Rule.TheVariants.{NoMethod, Shape, OutsideTable, TooLong, WrongValue, InTransaction, NoKey, GlobalLocked, NoSuchRow, NoAccessLine, ManyRandomBytes}
use Rattle.tcg_calls.specs.Carried.{is_carried}
use Rattle.tcg_tokens.specs.Length.{len_of}
use Rattle.tcg_tokens.specs.Tree.{Tree, Trees, bytes, list, trees_of}
use Rattle.tcg_calls.specs.declared.call_shapes.ask.Ask.{Ask}
use Rattle.tcg_calls.specs.declared.call_shapes.ask.Ask.TheVariants.{GetCells, GetBytes, SetCells, SetBytes, Authenticate, Activate, Revert, GenKey, RevertSp, Next, GetAcl, Random, Other}
use Rattle.tcg_calls.specs.Named.{values_of}
use Rattle.tcg_calls.specs.Asks.{ask_of}
use Rattle.tcg_calls.specs.Statuses.{success, invalid_parameter, response_overflow, fail}
use Rattle.trusted_cmds.specs.declared.block.SidBlock.{SidBlock}
use Rattle.methods.specs.Kinds.{kind_of, byte_table_of}
use Rattle.methods.specs.Grants.{denied}
use Rattle.methods.specs.Listed.{listed, cell_value}
use Rattle.methods.specs.Settings.{setting}
use Rattle.sessions.specs.Deeds.{Setting, cells_set, bytes_set}
use Rattle.methods.specs.Said.{reply_of}
use Rattle.methods.specs.Erasures.{is_wholly_locked}
use Rattle.methods.specs.Random.{most_random_bytes}
use Rattle.methods.specs.Tables.{uids_tree, rows_asked}
use Rattle.methods.specs.Effects.{ask_at, last_row, sp_of_row, unless_fault}

-- what the rules ask of a session: the drive's profile and sectors, the sizes of its byte tables, the rows and their bytes in
-- its view, its SP, the rows there by which a change is judged, the authorities that it holds, whether it has a
-- transaction open, whether SID is blocked, how many bytes of tokens a response to it has room for, and the random bytes that
-- come next, so many
pub record Standing : Type 0 where
  pub profile : Profile
  pub sectors : ℕ
  pub sizes : TableSizes
  pub rows : LookUp
  pub byte : ℕ → ℕ
  pub sp : Sp
  pub newest : RowLook
  pub held : List Uid
  pub is_open : Bool
  pub block : SidBlock
  pub room : ℕ
  pub random : ℕ → List ℕ

-- what a call asks, or nothing where its arguments have not the shape of its method
abbrev pub asked : Profile → Sp → Uid → Uid → Trees → Option Ask
asked profile sp object method args = ask_of profile sp object method (values_of args)

pub data Judgement : Type 0 where
  Denies : (why : Why) → Judgement
  Refuses : (status : ℕ) (rule : Rule) → Judgement
  Gives : (results : List Tree) → Judgement
  Draws : (count : ℕ) (results : List Tree) → Judgement
  Makes : (setting : Setting) → Judgement
  Attempts : (block : SidBlock) (authority : Uid) (pin : List ℕ) → Judgement
  Activates : Judgement
  Reverts : (sp : Sp) → Judgement
  Erases : (range : ℕ) → Judgement
  RevertsSp : (keep : Bool) → Judgement

-- what denies a call
abbrev pub denial : Standing → Uid → Uid → Ask → Option Why
denial s object method ask = denied s.profile s.rows s.sp object method s.held ask

-- results that a response can carry, which has room for so many bytes
abbrev pub fits : ℕ → List Tree → Bool
fits room results =
    is_carried (reply_of results success) && nat_le (len_of (reply_of results success)) room

abbrev pub gives : ℕ → List Tree → Judgement
gives room results =
    if fits room results then Gives results else Refuses response_overflow TooLong

-- what a Get of columns gives: those that are listed, with their values
abbrev pub list_given : Profile → LookUp → Sp → Uid → ℕ → ℕ → List Uid → List Tree
list_given profile look sp object first last held =
    list (trees_of (map cell_value (listed profile look sp object first last held))) ∷ []

abbrev pub listing : Standing → Uid → ℕ → ℕ → List Tree
listing s object first last = list_given s.profile s.rows s.sp object first last s.held

-- what a Get of bytes gives: rows of a byte table
abbrev pub bytes_between : (ℕ → ℕ) → ℕ → ℕ → List Tree
bytes_between byte first last = bytes (bytes_from byte first (last + 1 - first)) ∷ []

-- the rows lie within the table, and are not too many for a response
abbrev pub rows_given : ℕ → (ℕ → ℕ) → ℕ → ℕ → ℕ → Judgement
rows_given room byte size first last =
    if (size == 0) || (nat_le size last || nat_lt last first)
    then Refuses invalid_parameter OutsideTable
    else (if nat_lt room (last + 1 - first) then Refuses response_overflow TooLong
    else gives room (bytes_between byte first last))

-- a Get of bytes, to the last one where none is named
abbrev pub bytes_given : ℕ → (ℕ → ℕ) → ℕ → ℕ → Option ℕ → Judgement
bytes_given room byte size first last = rows_given room byte size first (last_row size last)

-- of a table, by the places of its rows
abbrev pub table_given : ℕ → (ℕ → ℕ) → TableSizes → ByteTable → ℕ → Option ℕ → Judgement
table_given room byte sizes table first last =
    bytes_given room (λ row. byte (table_begin sizes table + row)) (bytes_of_table sizes table)
    first last

-- why what a Set sets is not set, by the newest rows of its SP. Tries are no cells that a change names
abbrev pub fault_by : ℕ → RowLook → Sp → Setting → Option SetError
fault_by sectors newest sp (cells_set object cells) =
    if names_tries object cells
    then Some faults.NoCell else fault_seen sectors (λ _. newest) sp object cells
fault_by sectors newest sp (bytes_set at content) = None

abbrev pub valid : Standing → Option Setting → Result Setting Rule
valid s None = Err WrongValue
valid s (Some set) = unless_fault (fault_by s.sectors s.newest s.sp set) set

-- what a Set sets, where its values are valid, or the rule that refuses them
abbrev pub to_set : Standing → Uid → Ask → Result Setting Rule
to_set s object ask = valid s (setting s.profile s.sp s.sizes object (kind_of s.sp object) ask)

abbrev pub makes : Result Setting Rule → Judgement
makes (Err rule) = Refuses invalid_parameter rule
makes (Ok set) = Makes set

-- Activate, Revert, GenKey and RevertSP do nothing within a transaction
abbrev pub unless_open : Bool → Judgement → Judgement
unless_open true judgement = Refuses fail InTransaction
unless_open false judgement = judgement

-- a new key of a range; there is none of what is no range's key
abbrev pub erases : Option ℕ → Judgement
erases None = Refuses fail NoKey
erases (Some range) = Erases range

-- a RevertSP keeps no global range that is locked both ways. It is outside of a transaction, so what its session sees is
-- what is in force
abbrev pub reverts_sp : LookUp → Bool → Judgement
reverts_sp rows keep =
    if keep && is_wholly_locked rows then Refuses fail GlobalLocked else RevertsSp keep

-- the names of objects, in one list
abbrev pub names_given : ℕ → List Uid → Judgement
names_given room names = gives room (uids_tree names ∷ [])

-- the rows of a table that a Next asks for; there are none behind what is no row of it
abbrev pub rows_told : ℕ → Option (List Uid) → Judgement
rows_told room None = Refuses invalid_parameter NoSuchRow
rows_told room (Some rows) = names_given room rows

-- the ACEs of a method of an object, where the access list has them
abbrev pub acl_told : ℕ → Option (List Uid) → Judgement
acl_told room None = Refuses invalid_parameter NoAccessLine
acl_told room (Some acl) = names_given room acl

-- random bytes, if no more are asked for than a call gives
abbrev pub draws : ℕ → (ℕ → List ℕ) → ℕ → Judgement
draws room random count =
    if nat_lt most_random_bytes count then Refuses invalid_parameter ManyRandomBytes
    else (if fits room (bytes (random count) ∷ []) then Draws count (bytes (random count) ∷ [])
    else Refuses response_overflow TooLong)

-- what a granted call comes to, where the object's kind has the method
abbrev pub does_ask : Standing → Uid → Ask → Judgement
does_ask s object (GetCells first last) = gives s.room (listing s object first last)
does_ask s object (GetBytes first last) =
    table_given s.room s.byte s.sizes (byte_table_of (kind_of s.sp object)) first last
does_ask s object (SetCells values) = makes (to_set s object (SetCells values))
does_ask s object (SetBytes at content) = makes (to_set s object (SetBytes at content))
does_ask s object (Authenticate authority pin) = Attempts s.block authority pin
does_ask s object Activate = unless_open s.is_open Activates
does_ask s object Revert = unless_open s.is_open (Reverts (sp_of_row object))
does_ask s object GenKey = unless_open s.is_open (erases (key_number object))
does_ask s object (RevertSp keep) = unless_open s.is_open (reverts_sp s.rows keep)
does_ask s object (Next after count) =
    rows_told s.room (rows_asked after count (rows_of_table s.sp (table_of object)))
does_ask s object (GetAcl about method) = acl_told s.room (acl_at s.profile s.sp about method)
does_ask s object (Random count) = draws s.room s.random count
does_ask s object Other = Refuses fail NoMethod

abbrev pub does : Standing → Uid → Ask → Judgement
does s object ask = does_ask s object (ask_at s.sp object ask)

abbrev pub unless_denied : Option Why → Judgement → Judgement
unless_denied None judgement = judgement
unless_denied (Some why) judgement = Denies why

abbrev pub judged : Standing → Uid → Uid → Option Ask → Judgement
judged s object method None = Refuses invalid_parameter Shape
judged s object method (Some ask) = unless_denied (denial s object method ask) (does s object ask)
