-- What a script gives to be explored: its opening, and the letters of which lists are made.
use Rattle.std.specs.Prelude.{ℕ, Bool, true, false, not, ◌||◌, List, [], ◌∷◌, ◌++◌, take, drop, codes, if◌then◌else◌}
use Rattle.std.specs.List.{list_any, prefix_len, fold}
use Rattle.std.specs.Str.{bytes_eq}
use Rattle.script_lines.specs.PortLines.{is_port_line}
use Rattle.script_lines.specs.Remarks.{is_remark}
use Rattle.script_lines.specs.Words.{nth_word}

-- the comment that stands in front of the letters
abbrev pub is_letters_mark : List ℕ → Bool
is_letters_mark line = bytes_eq line (codes "# letters")

abbrev pub is_range_line : List ℕ → Bool
is_range_line line = bytes_eq (nth_word 0 line) (codes "range")

abbrev pub is_expect_line : List ℕ → Bool
is_expect_line line = bytes_eq (nth_word 0 line) (codes "expect")

-- a line of the opening: what stands in front of the mark, where there is one, or else comments,
-- the line `port` and range lines
abbrev pub opens : Bool → List ℕ → Bool
opens true line = not (is_letters_mark line)
opens false line = is_remark line || is_port_line line || is_range_line line

-- how many lines the opening has
abbrev pub opening_size : List (List ℕ) → ℕ
opening_size lines = prefix_len (opens (list_any is_letters_mark lines)) lines

-- lines as text
abbrev pub text_of_lines : List (List ℕ) → List ℕ
text_of_lines lines = fold (λ text line. text ++ line ++ 10 ∷ []) [] lines

abbrev pub opening_lines_text : List (List ℕ) → List ℕ
opening_lines_text lines = text_of_lines (take (opening_size lines) lines)

-- neither a comment nor an expectation
abbrev pub is_letter : List ℕ → Bool
is_letter line = not (is_remark line || is_expect_line line)

-- lines among which none stands twice, with this one
abbrev pub with_line : List (List ℕ) → List ℕ → List (List ℕ)
with_line lines line =
    if list_any (λ other. bytes_eq other line) lines then lines else lines ++ line ∷ []

abbrev pub with_letter : List (List ℕ) → List ℕ → List (List ℕ)
with_letter letters line = if is_letter line then with_line letters line else letters

-- the letters among lines, each once
abbrev pub letters_in : List (List ℕ) → List (List ℕ)
letters_in lines = fold with_letter [] lines

-- those behind the opening
abbrev pub letters_of : List (List ℕ) → List (List ℕ)
letters_of lines = letters_in (drop (opening_size lines) lines)
