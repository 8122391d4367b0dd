-- Scripts: their lines, and how they are read.
use Rattle.std.specs.Prelude.{◌+◌, ◌≤◌, ◌≡◌, ◌<◌, ℕ, ◌==◌, ◌&&◌, Bool, true, false, List, [], ◌∷◌, map, length, Option, Some, is_some, IfSome, if◌then◌else◌}
use Rattle.std.specs.List.{list_any}
use Rattle.std.specs.Io.BufRead.{strip_last, take_through, drop_through}
use Rattle.script_lines.specs.Remarks.{hash_byte, is_remark}
use Rattle.tool.specs.declared.head.ScriptKind.{ScriptKind}
use Rattle.tool.specs.declared.head.ScriptKind.TheVariants as kinds

-- a byte in front of the first line
abbrev pub in_front : ℕ → List (List ℕ) → List (List ℕ)
in_front byte [] = (byte ∷ []) ∷ []
in_front byte (line ∷ lines) = (byte ∷ line) ∷ lines

-- the lines of a text, each without its line feed; a last line without one counts
unfoldable pub lines_of_text : List ℕ → List (List ℕ)
lines_of_text [] = []
lines_of_text (byte ∷ text) = if byte == 10 then [] ∷ lines_of_text text else
    in_front byte (lines_of_text text)

-- the lines of a script: one carriage return at the end of a line is no part of it
abbrev pub script_lines : List ℕ → List (List ℕ)
script_lines text = map (strip_last 13) (lines_of_text text)

-- a line without its line feed, and without one carriage return before it
abbrev pub bare : List ℕ → List ℕ
bare line = strip_last 13 (strip_last 10 line)

-- a script whose first line begins with `#` may hold remarks
abbrev pub may_hold_remarks : List ℕ → Bool
may_hold_remarks [] = false
may_hold_remarks (byte ∷ bytes) = byte == hash_byte

-- what the lines of a script on a drive are: where remarks may stand, lines may write calls by name
abbrev pub drive_kind : Bool → ScriptKind
drive_kind false = kinds.Drive
drive_kind true = kinds.DriveWithNames

-- what the lines of a script are, where none says that it is one of a port
abbrev pub kind_of_script : List (List ℕ) → ScriptKind
kind_of_script [] = kinds.Drive
kind_of_script (first ∷ texts) = drive_kind (may_hold_remarks first)

-- where remarks may stand, they are skipped
abbrev pub is_skipped : Bool → List ℕ → Bool
is_skipped remarks line = remarks && is_remark line

-- a line of a script, with its number
pub record ScriptLine : Type 0 where
  pub number : ℕ
  pub text : List ℕ

-- lines behind so many others; the first line of a script is line 1
unfoldable pub with_numbers : ℕ → List (List ℕ) → List ScriptLine
with_numbers before [] = []
with_numbers before (text ∷ texts) =
    record { number = before + 1; text = text } ∷ with_numbers (before + 1) texts

unfoldable pub without_remarks : Bool → List ScriptLine → List ScriptLine
without_remarks remarks [] = []
without_remarks remarks (line ∷ lines) =
    if is_skipped remarks line.text then without_remarks remarks lines
    else line ∷ without_remarks remarks lines

-- the lines that a script comes to: in one whose first line begins with `#`, remarks do nothing
abbrev pub effective_lines : List (List ℕ) → List ScriptLine
effective_lines [] = []
effective_lines (first ∷ texts) =
    without_remarks (may_hold_remarks first) (with_numbers 0 (first ∷ texts))

-- the line at hand, which stands behind so many others, and those of a text behind it, without the
-- remarks
abbrev pub lines_from : Bool → ℕ → List ℕ → List ℕ → List ScriptLine
lines_from remarks before line text =
    without_remarks remarks (with_numbers before (bare line ∷ script_lines text))

-- what reading a line takes from a text, if there is one, and leaves of it
abbrev pub TakesLine : Bool → List ℕ → List ℕ → Option (List ℕ) → Type 0
TakesLine false line text left = text ≡ []
TakesLine true line text left = (0 < length line) × (line ≡ take_through 10 text)
    × (left ≡ Some (drop_through 10 text))

-- a whole line stands in what a reader has at hand
abbrev pub has_line : List ℕ → Bool
has_line at_hand = list_any (λ byte. byte == 10) at_hand

-- how many bytes the next line has with its line feed, where it stands whole in what a reader has at hand
abbrev pub IsAtHand : List ℕ → Option ℕ → Type 0
IsAtHand at_hand size = (is_some size ≡ has_line at_hand)
    × IfSome size (λ n. (n ≡ length (take_through 10 at_hand)) × (n ≤ length at_hand))

-- how many bytes of answers wait at most
abbrev pub most_pending : ℕ
most_pending = 65536

-- no client waits for an answer: where the next read could wait, none is pending, and never many
abbrev pub LeavesNobodyWaiting : List ℕ → List ℕ → Type 0
LeavesNobodyWaiting at_hand pending = (has_line at_hand ≡ false → pending ≡ [])
    × (length pending ≤ most_pending)
