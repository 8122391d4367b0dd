-- What of a call a rule found at fault: the range that another one would meet, the rows of a byte table. A call is read as its
-- session on the Locking SP reads it, and what a Set would make of a range is told by the rows that this session sees, by which
-- the Set was judged. The texts are this project's:
--   because Locking_Range2 RangeStart = 105 and RangeLength = 10 would meet Locking_Range1 RangeStart = 100 and RangeLength = 10
--   because Locking_Range2 RangeStart = 200 and RangeLength = 1024 would end behind the last sector
--   because rows 4096 to 4097 are asked for, and the table has 4096
--   because 16 rows are set from row 4090 on, and the table has 4096
--   because the response would have 65481 bytes of tokens
--   because the response would have 2010 bytes of tokens, and its host takes 1992
use Rattle.std.specs.Prelude.{◌≡◌, ℕ, zero, suc, ◌+◌, ◌-◌, ◌^◌, ◌==◌, Bool, true, false, not, ◌&&◌, nat_le, nat_lt, List, [], ◌∷◌, ◌++◌, length, Option, None, Some, is_some, unwrap_or, codes, if◌then◌else◌}
use Rattle.basics.specs.declared.profile.Profile.{Profile}
use Rattle.basics.specs.declared.profile.Profile.TheVariants.{Base, Field, Opal}
use Rattle.compacket.specs.Frames.{reading as frame_in}
use Rattle.sp_cells.specs.declared.names.Sp.{Sp}
use Rattle.sp_cells.specs.declared.names.Sp.TheVariants.{Locking}
use Rattle.sp_cells.specs.declared.names.Uid.{Uid}
use Rattle.sp_cells.specs.declared.names.TheConstants.{RANGES}
use Rattle.sp_cells.specs.declared.error.SetError.{SetError}
use Rattle.sp_cells.specs.declared.error.SetError.TheVariants as faults
use Rattle.sp_cells.specs.declared.byte_tables.TableSizes.{TableSizes}
use Rattle.sp_cells.specs.ByteTables.{bytes_of_table}
use Rattle.sp_cells.specs.ColumnNames.{range_start_column, range_length_column}
use Rattle.sp_cells.specs.Flat.{LookUp}
use Rattle.sp_cells.specs.Numbers.{range_number}
use Rattle.sp_cells.specs.Ranges.{range_start, range_length, meets}
use Rattle.audit.specs.declared.rules.rule.Rule.{Rule}
use Rattle.audit.specs.declared.rules.rule.Rule.TheVariants as rules
use Rattle.tcg_tokens.specs.Spelling.{item_spelling_of}
use Rattle.tcg_tokens.specs.Tree.{Tree, bytes}
use Rattle.tcg_calls.specs.Asks.{ask_of}
use Rattle.tcg_calls.specs.CellValues.{number_in}
use Rattle.tcg_calls.specs.Named.{value_of}
use Rattle.tcg_calls.specs.Statuses.{success}
use Rattle.tcg_calls.specs.declared.call_shapes.ask.Ask.{Ask}
use Rattle.tcg_calls.specs.declared.call_shapes.ask.Ask.TheVariants.{GetBytes, SetCells, SetBytes}
use Rattle.methods.specs.Effects.{last_row}
use Rattle.methods.specs.Kinds.{kind_of, byte_table_of}
use Rattle.methods.specs.Said.{reply_of}
use Rattle.reasons.specs.declared.explained.condition.Place.{Place}
use Rattle.reasons.specs.declared.explained.lives.SpLife.{SpLife}
use Rattle.reasons.specs.Conditions.{place_in}
use Rattle.reasons.specs.Reasons.{worded_number, place_text}
use Rattle.reasons.specs.Rulings.{because_text}
use Rattle.reasons.specs.Sent.{SentCall, call_sent, session_of_frame}

-- what a session sees of a drive: its profile, the rows, the sizes of its byte tables, and how many bytes of tokens a response
-- to the session has room for
pub record Seen : Type 0 where
  pub profile : Profile
  pub look : LookUp
  pub sizes : TableSizes
  pub room : ℕ

abbrev pub seen_with : Profile → LookUp → TableSizes → ℕ → Seen
seen_with profile look sizes room = record {
  profile = profile;
  look = look;
  sizes = sizes;
  room = room;
}

-- a session is the last one that began on an SP, and lives
abbrev pub is_last : ℕ → Option ℕ → Bool
is_last session None = false
is_last session (Some last) = last == session

abbrev pub is_its_session : ℕ → SpLife → Bool
is_its_session session life = is_some life.busy && is_last session life.last

-- what a Set of columns would make of a range that it names: where it would lie
abbrev pub number_set : ℕ → Option Tree → ℕ
number_set was None = was
number_set was (Some value) = unwrap_or (number_in value) was

abbrev pub place_set : LookUp → ℕ → List (ℕ × Tree) → Place
place_set look range values = record {
  start = number_set (range_start look range) (value_of range_start_column.0 values);
  length = number_set (range_length look range) (value_of range_length_column.0 values);
}

-- the first of these ranges, but for this one, that has a sector of the place
abbrev pub meets_place : LookUp → (range : ℕ) → Place → (other : ℕ) → Bool
meets_place look range place other =
    not (other == range)
    && meets place.start place.length (range_start look other) (range_length look other)

unfoldable pub met_from : LookUp → (range : ℕ) → Place → (other n : ℕ) → Option ℕ
met_from look range place other zero = None
met_from look range place other (suc n) =
    if meets_place look range place other then Some other
    else met_from look range place (suc other) n

abbrev pub met_by : LookUp → ℕ → Place → Option ℕ
met_by look range place = met_from look range place 1 RANGES

abbrev pub met_text : LookUp → ℕ → Place → Option ℕ → List ℕ
met_text look range place None = []
met_text look range place (Some other) =
    because_text (place_text range place ++ codes " would meet "
    ++ place_text other (place_in look other))

abbrev pub overlap_text : LookUp → Option ℕ → List (ℕ × Tree) → List ℕ
overlap_text look None values = []
overlap_text look (Some range) values =
    met_text look range (place_set look range values)
    (met_by look range (place_set look range values))

-- a range that would end behind the last sector; the global one has no bounds
abbrev pub beyond_text : LookUp → Option ℕ → List (ℕ × Tree) → List ℕ
beyond_text look None values = []
beyond_text look (Some range) values =
    if nat_lt 0 range
    then because_text (place_text range (place_set look range values)
    ++ codes " would end behind the last sector") else []

-- rows of a byte table, and how many it has
abbrev pub rows_words : ℕ → Option ℕ → List ℕ
rows_words first None = worded_number (codes "rows from ") first ++ codes " on"
rows_words first (Some last) =
    worded_number (codes "rows ") first ++ worded_number (codes " to ") last

abbrev pub table_words : ℕ → List ℕ
table_words size = worded_number (codes ", and the table has ") size

abbrev pub outside_text : ℕ → ℕ → Option ℕ → List ℕ
outside_text size first last =
    because_text (rows_words first last ++ codes " are asked for" ++ table_words size)

abbrev pub unset_text : ℕ → ℕ → ℕ → List ℕ
unset_text size at count =
    because_text (worded_number [] count ++ worded_number (codes " rows are set from row ") at
    ++ codes " on" ++ table_words size)

-- how many rows are asked for, within the table
abbrev pub rows_wanted : ℕ → ℕ → ℕ → ℕ
rows_wanted size first last = if nat_lt last size then last + 1 - first else 0

-- beside the bytes that it brings a response has eight: the marks of its list, the end of data and a status. Before them stand
-- two bytes, and of 2,048 bytes or more four (Core 2.01, section 3.2.2.3.1, medium and long atoms)
abbrev pub beside_bytes : ℕ
beside_bytes = 8

abbrev pub least_medium : ℕ
least_medium = 16

abbrev pub least_long : ℕ
least_long = 2048

abbrev pub least_huge : ℕ
least_huge = 2 ^ 24

abbrev pub bytes_ahead : ℕ → ℕ
bytes_ahead count = if nat_lt count least_long then 2 else 4

abbrev pub response_bytes : ℕ → ℕ
response_bytes count = count + (bytes_ahead count + beside_bytes)

abbrev pub is_long : ℕ → Bool
is_long count = nat_le least_medium count && nat_lt count least_huge

-- what its host takes, where a response goes by that
abbrev pub host_text : Profile → ℕ → List ℕ
host_text Base room = []
host_text Field room = []
host_text Opal room = worded_number (codes ", and its host takes ") room

abbrev pub long_text : Profile → ℕ → ℕ → List ℕ
long_text profile room count =
    if is_long count
    then because_text (worded_number (codes "the response would have ") (response_bytes count)
    ++ codes " bytes of tokens" ++ host_text profile room) else []

abbrev pub too_long_text : Seen → ℕ → ℕ → Option ℕ → List ℕ
too_long_text seen size first last =
    long_text seen.profile seen.room (rows_wanted size first (last_row size last))

-- by what was asked for, in a session of an SP
abbrev pub set_fault_text : LookUp → Uid → SetError → List (ℕ × Tree) → List ℕ
set_fault_text look object faults.Overlap values = overlap_text look (range_number object) values
set_fault_text look object faults.Beyond values = beyond_text look (range_number object) values
set_fault_text look object _ values = []

abbrev pub cells_text : Seen → Uid → Rule → List (ℕ × Tree) → List ℕ
cells_text seen object (rules.NotSet fault) values =
    set_fault_text seen.look object fault values
cells_text seen object _ values = []

abbrev pub set_bytes_text : ℕ → Rule → ℕ → List ℕ → List ℕ
set_bytes_text size rules.WrongValue at content = unset_text size at (length content)
set_bytes_text size _ at content = []

abbrev pub get_bytes_text : Seen → ℕ → Rule → ℕ → Option ℕ → List ℕ
get_bytes_text seen size rules.OutsideTable first last = outside_text size first last
get_bytes_text seen size rules.TooLong first last = too_long_text seen size first last
get_bytes_text seen size _ first last = []

abbrev pub table_size : Seen → Uid → ℕ
table_size seen object = bytes_of_table seen.sizes (byte_table_of (kind_of Locking object))

abbrev pub ask_text : Seen → Uid → Rule → Option Ask → List ℕ
ask_text seen object rule None = []
ask_text seen object rule (Some (SetCells values)) = cells_text seen object rule values
ask_text seen object rule (Some (SetBytes at content)) =
    set_bytes_text (table_size seen object) rule at content
ask_text seen object rule (Some (GetBytes first last)) =
    get_bytes_text seen (table_size seen object) rule first last
ask_text seen object rule (Some _) = []

-- Ranges and byte tables are the Locking SP's: nothing is told of a session of the Admin SP.
abbrev pub called_text : Seen → Rule → Option SentCall → List ℕ
called_text seen rule None = []
called_text seen rule (Some c) =
    ask_text seen c.object rule (ask_of seen.profile Locking c.object c.method c.args)

abbrev pub asked_text : Seen → (Sp → SpLife) → List ℕ → Rule → List ℕ
asked_text seen lives payload rule =
    if is_its_session (session_of_frame (frame_in payload)) (lives Locking)
    then called_text seen rule (call_sent payload) else []

-- What is told of two ranges is so: they have a sector in common.
abbrev pub MetLaw : Type 0
MetLaw =
    (look : LookUp) (range : ℕ) (place : Place) (other : ℕ) → met_by look range place ≡ Some other
    → meets_place look range place other ≡ true

-- And so is how long a response is.
abbrev pub LongLaw : Type 0
LongLaw =
    (content : List ℕ) → is_long (length content) ≡ true
    → length (item_spelling_of (reply_of (bytes content ∷ []) success))
    ≡ response_bytes (length content)
