-- What the model answers to a line, and what of it another drive must say.
use Rattle.std.specs.Prelude.{ℕ, ◌==◌, Bool, true, false, not, ◌&&◌, ◌||◌, List, drop, length, codes, if◌then◌else◌}
use Rattle.std.specs.List.{list_any, filter}
use Rattle.std.specs.Str.{bytes_eq}
use Rattle.sp_cells.specs.Config.{Config}
use Rattle.script_lines.specs.Words.{nth_word}
use Rattle.tool.specs.Outcomes.{outcome_by}
use Rattle.tool.specs.Scripts.{script_lines}

-- what the last lines of a script print, with reasons or without: what the script prints behind what it
-- prints without them
abbrev pub text_behind : Bool → Config → List ℕ → List ℕ → List ℕ
text_behind explains config before whole =
    drop (length (outcome_by explains config before).text) (outcome_by explains config whole).text

abbrev pub said_behind : Config → List ℕ → List ℕ → List (List ℕ)
said_behind config before whole = script_lines (text_behind false config before whole)

-- a line that receives what the drive answers to another
abbrev pub is_receiving : List ℕ → Bool
is_receiving line = bytes_eq (nth_word 0 line) (codes "recv")

-- The reasons that are told of a line that is wrong: its own, or, where a line that receives has none, those of
-- the last line before it that does not receive.
abbrev pub reasons_told : List ℕ → List ℕ → List ℕ → List ℕ
reasons_told line own asked =
    if length own == 0 && is_receiving line then asked else own

-- an audit line
abbrev pub is_audit : List ℕ → Bool
is_audit line = bytes_eq (nth_word 0 line) (codes "audit")

-- lines, all or those alone that are not of the audit
abbrev pub lines_kept : Bool → List (List ℕ) → List (List ℕ)
lines_kept whole lines = filter (λ line. whole || not (is_audit line)) lines

-- What a drive must say. The audit is the model's own, and no drive has it: where the answers leave it
-- out, so does what is wanted.
abbrev pub wanted_of : List (List ℕ) → List (List ℕ) → List (List ℕ)
wanted_of answers said = lines_kept (list_any is_audit answers) said
