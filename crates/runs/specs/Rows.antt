-- What a part prints: rows of five cells, each of which ends with a tab.
use Rattle.std.specs.Prelude.{ℕ, suc, zero, ◌+◌, ◌*◌, ◌%◌, ◌^◌, ◌==◌, Bool, true, false, List, [], ◌∷◌, ◌++◌, map, codes, decimal, if◌then◌else◌, Option, None, Some}
use Rattle.std.specs.List.{fold, flat_map}
use Rattle.std.specs.Str.{bytes_eq}
use Rattle.script_lines.specs.Numbers.{number_up_to, largest}
use Rattle.runs.specs.Shares.{text_before_byte, text_behind_byte}
use Rattle.runs.specs.declared.explored.findings.Findings.{Findings}
use Rattle.runs.specs.declared.explored.kinds.Kind.{Kind}
use Rattle.runs.specs.declared.explored.rows.Row.{Row}
use Rattle.runs.specs.declared.explored.rows.RowName.{RowName}
use Rattle.runs.specs.declared.explored.rows.RowName.TheVariants.{Check, Place, Asked, Lists, State, Found}

-- a backslash stands in front of itself, and of the letters that mean a tab and the ends of lines
abbrev pub escaped_for_cell : ℕ → List ℕ
escaped_for_cell byte =
    if byte == 92 then codes "\\\\" else if byte == 9 then codes "\\t"
    else if byte == 10 then codes "\\n" else if byte == 13 then codes "\\r" else byte ∷ []

abbrev pub escaped_text : List ℕ → List ℕ
escaped_text text = flat_map escaped_for_cell text

-- what a letter behind a backslash means
abbrev pub meant : ℕ → ℕ
meant byte = if byte == 116 then 9 else if byte == 110 then 10 else if byte == 114 then 13 else byte

-- the text that was escaped; the flag: whether a backslash stands in front
abbrev pub unescaped : Bool → List ℕ → List ℕ
unescaped behind [] = []
unescaped true (byte ∷ bytes) = meant byte ∷ unescaped false bytes
unescaped false (byte ∷ bytes) =
    if byte == 92 then unescaped true bytes else byte ∷ unescaped false bytes

-- the word of a row, and what it says: a sum over the rows behind it; which part it is; what was
-- searched, and how far; how many lists were run; a state; a kind of line
abbrev pub row_word : RowName → List ℕ
row_word Check = codes "check"
row_word Place = codes "part"
row_word Asked = codes "search"
row_word Lists = codes "lists"
row_word State = codes "state"
row_word Found = codes "found"

abbrev pub row_named : List ℕ → Option RowName
row_named word =
    if bytes_eq word (codes "check") then Some Check
    else if bytes_eq word (codes "part") then Some Place
    else if bytes_eq word (codes "search") then Some Asked
    else if bytes_eq word (codes "lists") then Some Lists
    else if bytes_eq word (codes "state") then Some State
    else if bytes_eq word (codes "found") then Some Found else None

-- a row as a line
abbrev pub line_of_row : Row → List ℕ
line_of_row row =
    row_word row.name ++ 9 ∷ decimal row.size ++ 9 ∷ decimal row.count ++ 9 ∷ escaped_text row.text
    ++ 9 ∷ escaped_text row.list ++ 9 ∷ []

-- the text behind so many cells of a line, and the next cell
abbrev pub behind_cells : ℕ → List ℕ → List ℕ
behind_cells zero line = line
behind_cells (suc count) line = behind_cells count (text_behind_byte 9 line)

abbrev pub cell : ℕ → List ℕ → List ℕ
cell number line = text_before_byte 9 (behind_cells number line)

abbrev pub number_in_cell : ℕ → List ℕ → Option ℕ
number_in_cell number line = number_up_to (largest 64) (cell number line)

abbrev pub row_of_cells : Option RowName → Option ℕ → Option ℕ → List ℕ → List ℕ → Option Row
row_of_cells (Some name) (Some size) (Some count) text list = Some (record {
  name = name;
  size = size;
  count = count;
  text = unescaped false text;
  list = unescaped false list;
})
row_of_cells (Some name) (Some size) None text list = None
row_of_cells (Some name) None count text list = None
row_of_cells None size count text list = None

-- the row that a line writes
abbrev pub row_written : List ℕ → Option Row
row_written line =
    row_of_cells (row_named (cell 0 line)) (number_in_cell 1 line) (number_in_cell 2 line)
    (cell 3 line) (cell 4 line)

-- the sum over the bytes of lines, each with its end
unfoldable pub summed_byte : ℕ → ℕ → ℕ
summed_byte sum byte = (sum * 1099511628211 % 2 ^ 64 + byte) % 2 ^ 64

abbrev pub summed_line : ℕ → List ℕ → ℕ
summed_line sum line = summed_byte (fold summed_byte sum line) 10

abbrev pub sum_of_lines : List (List ℕ) → ℕ
sum_of_lines lines = fold summed_line 0 lines

-- the rows of what was found behind lists of so many letters
abbrev pub lists_row : ℕ → ℕ → Row
lists_row size count =
    record { name = Lists; size = size; count = count; text = []; list = [] }

abbrev pub state_row : ℕ → List ℕ → Row
state_row size state =
    record { name = State; size = size; count = 1; text = state; list = [] }

abbrev pub kind_row : ℕ → Kind → Row
kind_row size kind = record {
  name = Found;
  size = size;
  count = kind.times;
  text = kind.text;
  list = kind.list;
}

abbrev pub segment_rows : ℕ → Findings → List Row
segment_rows size found =
    lists_row size found.lists ∷ map (state_row size) found.states
    ++ map (kind_row size) found.kinds
