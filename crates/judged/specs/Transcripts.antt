-- Transcripts: lines of a script, and behind each what another drive answered to it.
use Rattle.std.specs.Prelude.{ℕ, ◌==◌, Bool, true, false, not, ◌&&◌, List, [], ◌∷◌, ◌++◌, codes, if◌then◌else◌}
use Rattle.std.specs.List.{fold, flat_map}
use Rattle.tool.specs.Scripts.{ScriptLine, may_hold_remarks, is_skipped, with_numbers}
use Rattle.judged.specs.declared.entry.Entry.{Entry}
use Rattle.judged.specs.declared.reading.Reading.{Reading}

-- a line that begins with `=` tells what the other drive answered
abbrev pub is_answer_line : List ℕ → Bool
is_answer_line [] = false
is_answer_line (byte ∷ bytes) = byte == 61

-- a text without one blank in front
abbrev pub behind_blank : List ℕ → List ℕ
behind_blank [] = []
behind_blank (byte ∷ bytes) = if byte == 32 then bytes else byte ∷ bytes

-- the answer is all that stands behind `=` and one blank
abbrev pub answer_told : List ℕ → List ℕ
answer_told [] = []
answer_told (byte ∷ bytes) = behind_blank bytes

-- a line of a script's text, with an end that no line loses a byte by
abbrev pub with_line_end : List ℕ → List ℕ
with_line_end line = line ++ 13 ∷ 10 ∷ []

-- what stands for an answer in the script: where remarks may stand, one, so that the lines keep their
-- numbers
abbrev pub answer_marks : Bool → List (List ℕ)
answer_marks true = codes "#" ∷ []
answer_marks false = []

-- what stands in front of the first line
abbrev pub front_entry : Entry
front_entry = record { number = 0; line = []; behind = []; answers = [] }

-- a line of the script
abbrev pub fresh_entry : ScriptLine → Entry
fresh_entry line = record {
  number = line.number;
  line = line.text;
  behind = [];
  answers = [];
}

abbrev pub with_answer : Bool → Entry → List ℕ → Entry
with_answer remarks entry answer =
    record entry {
      behind = entry.behind ++ answer_marks remarks;
      answers = entry.answers ++ answer ∷ [];
    }

abbrev pub with_remark : Entry → List ℕ → Entry
with_remark entry text = record entry { behind = entry.behind ++ text ∷ [] }

-- an answer belongs to the line above it, and a remark stands between
abbrev pub is_answer : Reading → List ℕ → Bool
is_answer reading text = is_answer_line text && not (reading.current.number == 0)

-- a line more is read: whether remarks may stand
abbrev pub line_added : Bool → Reading → ScriptLine → Reading
line_added remarks reading line =
    if is_answer reading line.text
    then record reading { current = with_answer remarks reading.current (answer_told line.text) }
    else if is_skipped remarks line.text
    then record reading { current = with_remark reading.current line.text }
    else record { done = reading.done ++ reading.current ∷ []; current = fresh_entry line }

abbrev pub nothing_read : Reading
nothing_read = record { done = []; current = front_entry }

abbrev pub all_entries : Reading → List Entry
all_entries reading = reading.done ++ reading.current ∷ []

-- whether remarks may stand in a transcript: as in a script
abbrev pub holds_remarks : List (List ℕ) → Bool
holds_remarks [] = false
holds_remarks (first ∷ lines) = may_hold_remarks first

-- the lines of the script, each with its answers
abbrev pub entries_of : List (List ℕ) → List Entry
entries_of lines =
    all_entries (fold (line_added (holds_remarks lines)) nothing_read (with_numbers 0 lines))

-- the line of an entry in the text of the script; in front of the first line there is none
abbrev pub own_line_text : Entry → List ℕ
own_line_text entry = if entry.number == 0 then [] else with_line_end entry.line

-- the remarks behind it
abbrev pub remarks_text : Entry → List ℕ
remarks_text entry = flat_map with_line_end entry.behind

-- the text of the script from the line on, up to the next
abbrev pub entry_text : Entry → List ℕ
entry_text entry = own_line_text entry ++ remarks_text entry

-- the script of a transcript
abbrev pub script_of : List Entry → List ℕ
script_of entries = flat_map entry_text entries
