-- The order in which a call is refused, as one list for all calls: each rule with what it comes to where it applies. A call is refused
-- as the first rule says that applies, and takes effect where none does. Its shape is told before all (TCG Core 2.01, sections
-- 5.1.5 and 5.3.3; the order is this drive's own).
use Rattle.std.specs.Prelude.{◌≡◌, ℕ, ◌+◌, ◌-◌, ◌==◌, ◌&&◌, ◌||◌, not, Bool, true, false, nat_le, nat_lt, is_none, List, [], ◌∷◌, Option, Some, None, option_map, Result, Ok, Err, if◌then◌else◌}
use Rattle.std.specs.Option.{option_or}
use Rattle.sp_cells.specs.declared.names.Uid.{Uid}
use Rattle.sp_cells.specs.Names.{table_of}
use Rattle.sp_cells.specs.Numbers.{key_number}
use Rattle.sp_cells.specs.ByteTables.{bytes_of_table, table_begin}
use Rattle.sp_tables.specs.RowNames.{rows_of_table}
use Rattle.ace_eval.specs.Aces.{acl_at}
use Rattle.tcg_tokens.specs.Tree.{Tree, bytes}
use Rattle.audit.specs.declared.rules.rule.Rule.{Rule}
use Rattle.audit.specs.declared.rules.rule.Rule.TheVariants.{NoMethod, Shape, OutsideTable, TooLong, InTransaction, NoKey, GlobalLocked, NoSuchRow, NoAccessLine, ManyRandomBytes}
use Rattle.tcg_calls.specs.declared.call_shapes.ask.Ask.{Ask}
use Rattle.tcg_calls.specs.declared.call_shapes.ask.Ask.TheVariants.{GetCells, GetBytes, SetCells, SetBytes, Activate, Revert, GenKey, RevertSp, Next, GetAcl, Random, Other}
use Rattle.tcg_calls.specs.Statuses.{invalid_parameter, response_overflow, fail}
use Rattle.sessions.specs.Deeds.{Setting}
use Rattle.methods.specs.Kinds.{kind_of, byte_table_of}
use Rattle.methods.specs.Erasures.{is_wholly_locked}
use Rattle.methods.specs.Random.{most_random_bytes}
use Rattle.methods.specs.Tables.{uids_tree, rows_asked}
use Rattle.methods.specs.Effects.{ask_at, last_row}
use Rattle.methods.specs.Judgement.{Standing, Judgement, Denies, Refuses, denial, fits, listing, bytes_between, to_set, judged}
use Rattle.methods.specs.Laws.{takes_effect}

-- a method that the kind of the object has not
abbrev pub is_other : Ask → Bool
is_other Other = true
is_other _ = false

-- what stands by itself, in no transaction, is asked for within one
abbrev pub stands_alone : Ask → Bool
stands_alone Activate = true
stands_alone Revert = true
stands_alone GenKey = true
stands_alone (RevertSp keep) = true
stands_alone _ = false

abbrev pub is_amid_transaction : Standing → Ask → Bool
is_amid_transaction s ask = stands_alone ask && s.is_open

-- a new key of what is no range's key
abbrev pub lacks_key : Uid → Ask → Bool
lacks_key object GenKey = is_none (key_number object)
lacks_key object _ = false

-- a global range that is locked both ways would be kept
abbrev pub keeps_locked : Standing → Ask → Bool
keeps_locked s (RevertSp keep) = keep && is_wholly_locked s.rows
keeps_locked s _ = false

-- rows behind what is no row of the table
abbrev pub next_rows : Standing → Uid → Option Uid → Option ℕ → Option (List Uid)
next_rows s object after count = rows_asked after count (rows_of_table s.sp (table_of object))

abbrev pub lacks_row : Standing → Uid → Ask → Bool
lacks_row s object (Next after count) = is_none (next_rows s object after count)
lacks_row s object _ = false

-- the ACEs of what has no line in the access list
abbrev pub lacks_line : Standing → Ask → Bool
lacks_line s (GetAcl about method) = is_none (acl_at s.profile s.sp about method)
lacks_line s _ = false

abbrev pub asks_many : Ask → Bool
asks_many (Random count) = nat_lt most_random_bytes count
asks_many _ = false

-- values that a Set does not set, and why
abbrev pub fault_of_values : Result Setting Rule → Option Rule
fault_of_values (Ok set) = None
fault_of_values (Err rule) = Some rule

abbrev pub refused_values : Standing → Uid → Ask → Option Rule
refused_values s object (SetCells values) = fault_of_values (to_set s object (SetCells values))
refused_values s object (SetBytes at content) =
    fault_of_values (to_set s object (SetBytes at content))
refused_values s object _ = None

-- rows that a byte table has not, or the last of which stands before the first
abbrev pub row_count : Standing → Uid → ℕ
row_count s object = bytes_of_table s.sizes (byte_table_of (kind_of s.sp object))

abbrev pub are_outside : ℕ → ℕ → ℕ → Bool
are_outside size first last = (size == 0) || (nat_le size last || nat_lt last first)

abbrev pub is_outside : Standing → Uid → Ask → Bool
is_outside s object (GetBytes first last) =
    are_outside (row_count s object) first (last_row (row_count s object) last)
is_outside s object _ = false

-- results for which a response has no room
abbrev pub has_no_room : Standing → Option (List Tree) → Bool
has_no_room s None = false
has_no_room s (Some results) = not (fits s.room results)

abbrev pub rows_too_long : Standing → (ℕ → ℕ) → ℕ → ℕ → Bool
rows_too_long s byte first last =
    nat_lt s.room (last + 1 - first) || not (fits s.room (bytes_between byte first last))

abbrev pub table_byte : Standing → Uid → ℕ → ℕ
table_byte s object row =
    s.byte (table_begin s.sizes (byte_table_of (kind_of s.sp object)) + row)

abbrev pub names_listed : Option (List Uid) → Option (List Tree)
names_listed names = option_map (λ found. uids_tree found ∷ []) names

abbrev pub overflows : Standing → Uid → Ask → Bool
overflows s object (GetCells first last) = not (fits s.room (listing s object first last))
overflows s object (GetBytes first last) =
    rows_too_long s (table_byte s object) first (last_row (row_count s object) last)
overflows s object (Next after count) =
    has_no_room s (names_listed (next_rows s object after count))
overflows s object (GetAcl about method) =
    has_no_room s (names_listed (acl_at s.profile s.sp about method))
overflows s object (Random count) = not (fits s.room (bytes (s.random count) ∷ []))
overflows s object _ = false

-- what a rule comes to where it applies
abbrev pub refused_if : Bool → ℕ → Rule → Option Judgement
refused_if applies status rule = if applies then Some (Refuses status rule) else None

-- the first that comes to something
abbrev pub first_judged : List (Option Judgement) → Option Judgement
first_judged [] = None
first_judged (one ∷ later) = option_or one (first_judged later)

-- the order, of what the kind of the object has
abbrev pub rules_of : Standing → Uid → Ask → List (Option Judgement)
rules_of s object ask = refused_if (is_other ask) fail NoMethod
    ∷ refused_if (is_amid_transaction s ask) fail InTransaction
    ∷ refused_if (lacks_key object ask) fail NoKey
    ∷ refused_if (keeps_locked s ask) fail GlobalLocked
    ∷ refused_if (lacks_row s object ask) invalid_parameter NoSuchRow
    ∷ refused_if (lacks_line s ask) invalid_parameter NoAccessLine
    ∷ refused_if (asks_many ask) invalid_parameter ManyRandomBytes
    ∷ option_map (Refuses invalid_parameter) (refused_values s object ask)
    ∷ refused_if (is_outside s object ask) invalid_parameter OutsideTable
    ∷ refused_if (overflows s object ask) response_overflow TooLong ∷ []

-- and before it the ACEs
abbrev pub order_of : Standing → Uid → Uid → Ask → List (Option Judgement)
order_of s object method ask =
    option_map Denies (denial s object method ask) ∷ rules_of s object (ask_at s.sp object ask)

abbrev pub refused_as : Judgement → Option Judgement
refused_as judgement = if takes_effect judgement then None else Some judgement

pub record IsJudgedInOrder (s : Standing) (object method : Uid) : Type 0 where
  pub shape : judged s object method None ≡ Refuses invalid_parameter Shape
  pub first : (ask : Ask) → refused_as (judged s object method (Some ask))
      ≡ first_judged (order_of s object method ask)

abbrev pub CallOrder : Type 0
CallOrder = (s : Standing) (object method : Uid) → IsJudgedInOrder s object method
