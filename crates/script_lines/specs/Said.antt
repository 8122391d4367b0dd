-- Lines that write a call by name, with the tokens that they stand for.
--   start C ID SP [AUTHORITY [PIN]]     client C begins a session with an SP by the ComID ID, as everyone or as an authority
--   get C OBJECT [FIRST [LAST]]         in the session of C, Get: the columns from one to another, one column, or all
--   set C OBJECT COLUMN=VALUE ..        Set of cells of an object
--   authenticate C AUTHORITY [PIN]      one authority more
--   activate C, revert C SP             Activate of the Locking SP; Revert of an SP
--   begin C, commit C, abort C          a transaction
--   end C                               the session ends
-- An object, a column and an SP are told by the names of the standards. PIN is a text between `"`, without blanks and without
-- `"`, or `x` and hex digits; VALUE is such bytes, a decimal number, or an object.
use Rattle.std.specs.Prelude.{◌==◌, ◌-◌, ◌^◌, ℕ, zero, suc, Bool, true, false, List, [], ◌∷◌, length, Option, None, Some, option_map, option_and_then, if◌then◌else◌}
use Rattle.tcg_tokens.specs.Tree.{Tree}
use Rattle.tcg_tokens.specs.Message.{Message, end_session, begin, end}
use Rattle.tcg_tokens.specs.Writable.{is_writable}
use Rattle.tcg_tokens.specs.Spelling.{item_spelling_of}
use Rattle.sp_cells.specs.declared.names.Uid.{Uid}
use Rattle.sp_cells.specs.declared.names.Column.{Column}
use Rattle.sp_cells.specs.Names.{table_of}
use Rattle.script_lines.specs.Numbers.{number_up_to}
use Rattle.script_lines.specs.Words.{first_word, after_word, nth_word, after_words}
use Rattle.script_lines.specs.CallVerbs.{call_verb_of, begins_session}
use Rattle.script_lines.specs.declared.named_lines.line.NamedLine.{NamedLine}
use Rattle.script_lines.specs.declared.named_lines.verb.CallVerb.{CallVerb}
use Rattle.script_lines.specs.declared.named_lines.verb.CallVerb.TheVariants as verbs
use Rattle.script_lines.specs.Phrases.{bytes_said, object_said, column_said, cell_said, if_any}
use Rattle.script_lines.specs.Calls.{start_call, get_call, set_call, authenticate_call, activate_call, revert_call}

-- the message, where no word is left
abbrev pub message_ended : List ℕ → Message → Option Message
message_ended word m = if length word == 0 then Some m else None

-- what is said of each part, where each is said
abbrev pub start_of_parts : List ℕ → Option Uid → Option (Option Uid) → Option (Option (List ℕ))
    → Option Message
start_of_parts left (Some sp) (Some authority) (Some pin) =
    message_ended left (start_call sp authority pin)
start_of_parts left _ _ _ = None

abbrev pub start_said : List ℕ → Option Message
start_said rest =
    start_of_parts (nth_word 3 rest) (object_said (nth_word 0 rest))
    (if_any object_said (nth_word 1 rest)) (if_any bytes_said (nth_word 2 rest))

abbrev pub get_of_parts : List ℕ → Uid → Option (Option Column) → Option (Option Column)
    → Option Message
get_of_parts left object (Some first) (Some last) =
    message_ended left (get_call object first last)
get_of_parts left object _ _ = None

abbrev pub columns_of_get : List ℕ → Option Uid → Option Message
columns_of_get rest None = None
columns_of_get rest (Some object) =
    get_of_parts (nth_word 2 rest) object
    (if_any (column_said (table_of object)) (nth_word 0 rest))
    (if_any (column_said (table_of object)) (nth_word 1 rest))

abbrev pub get_said : List ℕ → Option Message
get_said rest = columns_of_get (after_word rest) (object_said (nth_word 0 rest))

-- the cells that so many words write at most; no other word is left behind them
abbrev pub cell_then : Option Tree → Option (List Tree) → Option (List Tree)
cell_then (Some cell) (Some cells) = Some (cell ∷ cells)
cell_then _ _ = None

unfoldable pub cells_up_to : ℕ → ℕ → List ℕ → Option (List Tree)
cells_up_to zero table rest = None
cells_up_to (suc more) table rest =
    if length (first_word rest) == 0 then Some []
    else cell_then (cell_said table (first_word rest)) (cells_up_to more table (after_word rest))

-- how many cells a phrase sets at most
abbrev pub most_cells : ℕ
most_cells = 32

abbrev pub cells_of_set : List ℕ → Option Uid → Option Message
cells_of_set rest None = None
cells_of_set rest (Some object) =
    option_map (set_call object) (cells_up_to most_cells (table_of object) rest)

abbrev pub set_said : List ℕ → Option Message
set_said rest = cells_of_set (after_word rest) (object_said (nth_word 0 rest))

abbrev pub attempt_of_parts : List ℕ → Option Uid → Option (Option (List ℕ)) → Option Message
attempt_of_parts left (Some authority) (Some proof) =
    message_ended left (authenticate_call authority proof)
attempt_of_parts left _ _ = None

abbrev pub authenticate_said : List ℕ → Option Message
authenticate_said rest =
    attempt_of_parts (nth_word 2 rest) (object_said (nth_word 0 rest))
    (if_any bytes_said (nth_word 1 rest))

abbrev pub revert_of : List ℕ → Option Uid → Option Message
revert_of left None = None
revert_of left (Some sp) = message_ended left (revert_call sp)

abbrev pub revert_said : List ℕ → Option Message
revert_said rest = revert_of (nth_word 1 rest) (object_said (nth_word 0 rest))

abbrev pub phrase_behind : CallVerb → List ℕ → Option Message
phrase_behind verbs.Start rest = start_said rest
phrase_behind verbs.Get rest = get_said rest
phrase_behind verbs.Set rest = set_said rest
phrase_behind verbs.Authenticate rest = authenticate_said rest
phrase_behind verbs.Activate rest = message_ended (first_word rest) activate_call
phrase_behind verbs.Revert rest = revert_said rest
phrase_behind verbs.Begin rest = message_ended (first_word rest) (begin 0)
phrase_behind verbs.Commit rest = message_ended (first_word rest) (end 0)
phrase_behind verbs.Abort rest = message_ended (first_word rest) (end 1)
phrase_behind verbs.End rest = message_ended (first_word rest) end_session

-- the tokens, where they can be written
abbrev pub tokens_of_message : Message → Option (List ℕ)
tokens_of_message m = if is_writable m then Some (item_spelling_of m) else None

abbrev pub tokens_behind : CallVerb → List ℕ → Option (List ℕ)
tokens_behind verb rest = option_and_then tokens_of_message (phrase_behind verb rest)

-- a ComID stands in a line that begins a session
abbrev pub com_id_said : Bool → List ℕ → Option (Option ℕ)
com_id_said true word = option_map Some (number_up_to (2 ^ 16 - 1) word)
com_id_said false word = Some None

abbrev pub line_of_parts : Option ℕ → Option (Option ℕ) → Option (List ℕ) → Option NamedLine
line_of_parts (Some client) (Some com_id) (Some tokens) =
    Some (record { client = client; com_id = com_id; tokens = tokens })
line_of_parts _ _ _ = None

abbrev pub words_in_front : Bool → ℕ
words_in_front true = 3
words_in_front false = 2

-- what a line of this verb says: whose session it is, and the tokens that go there
abbrev pub line_of_verb : CallVerb → List ℕ → Option NamedLine
line_of_verb verb text =
    line_of_parts (number_up_to (2 ^ 32 - 1) (nth_word 1 text))
    (com_id_said (begins_session verb) (nth_word 2 text))
    (tokens_behind verb (after_words (words_in_front (begins_session verb)) text))

abbrev pub line_if_any : Option CallVerb → List ℕ → Option NamedLine
line_if_any None text = None
line_if_any (Some verb) text = line_of_verb verb text

abbrev pub named_line_said : List ℕ → Option NamedLine
named_line_said text = line_if_any (call_verb_of (first_word text)) text
