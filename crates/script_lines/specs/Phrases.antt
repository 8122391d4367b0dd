-- What the words of a phrase write: numbers, bytes, objects and columns.
use Rattle.std.specs.Prelude.{◌==◌, ◌-◌, ◌+◌, ◌^◌, ℕ, suc, List, [], ◌∷◌, take, drop, length, Option, None, Some, option_map, Result, Ok, Err, if◌then◌else◌}
use Rattle.std.specs.Option.{option_or}
use Rattle.std.specs.Str.{is_utf8}
use Rattle.hex.specs.Hex.{decode_of}
use Rattle.hex.specs.declared.error.FromHexError.{FromHexError}
use Rattle.sp_cells.specs.declared.names.Uid.{Uid}
use Rattle.sp_cells.specs.declared.names.Column.{Column}
use Rattle.tcg_tokens.specs.Tree.{Tree, number, bytes, named}
use Rattle.tcg_calls.specs.CellValues.{uid_tree}
use Rattle.tcg_calls.specs.Objects.{object_by_name}
use Rattle.tcg_calls.specs.Columns.{column_by_name}
use Rattle.script_lines.specs.Numbers.{number_up_to}

-- the bytes of hex digits
abbrev pub hex_or_none : Result (List ℕ) FromHexError → Option (List ℕ)
hex_or_none (Ok content) = Some content
hex_or_none (Err fault) = None

-- how many bytes stand before the first that is this one
abbrev pub first_place : ℕ → List ℕ → ℕ
first_place sign [] = 0
first_place sign (byte ∷ text) = if byte == sign then 0 else suc (first_place sign text)

-- the byte `"`, and a text in front of one, which is its last byte and its only one
abbrev pub quote : ℕ
quote = 34

abbrev pub between_quotes : List ℕ → Option (List ℕ)
between_quotes text =
    if first_place quote text + 1 == length text
    then Some (take (first_place quote text) text) else None

-- a text between `"`, or `x` and hex digits
abbrev pub marked_bytes : ℕ → List ℕ → Option (List ℕ)
marked_bytes mark text =
    if mark == quote then between_quotes text else
    if mark == 120 then hex_or_none (decode_of text) else None

abbrev pub bytes_said : List ℕ → Option (List ℕ)
bytes_said [] = None
bytes_said (mark ∷ text) = marked_bytes mark text

-- the object of a name
abbrev pub object_said : List ℕ → Option Uid
object_said word = if is_utf8 word then object_by_name word else None

-- the column of a name, in the table that has these upper four bytes in its rows' names
abbrev pub column_said : ℕ → List ℕ → Option Column
column_said table word = if is_utf8 word then column_by_name table word else None

-- a decimal number, bytes, or an object
abbrev pub value_said : List ℕ → Option Tree
value_said word =
    option_or (option_map number (number_up_to (2 ^ 64 - 1) word))
    (option_or (option_map bytes (bytes_said word)) (option_map uid_tree (object_said word)))

-- COLUMN=VALUE: the byte between them
abbrev pub equals_sign : ℕ
equals_sign = 61

abbrev pub cell_tree_of : Option Column → Option Tree → Option Tree
cell_tree_of (Some column) (Some value) = Some (named (number column.0) value)
cell_tree_of _ _ = None

abbrev pub cell_said : ℕ → List ℕ → Option Tree
cell_said table word =
    cell_tree_of (column_said table (take (first_place equals_sign word) word))
    (value_said (drop 1 (drop (first_place equals_sign word) word)))

-- no word, or one that says something
abbrev pub if_any : {A : Type 0} → (List ℕ → Option A) → List ℕ → Option (Option A)
if_any said word = if length word == 0 then Some None else option_map Some (said word)
