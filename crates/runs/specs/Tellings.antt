-- What is told of what was found, and how the program ends.
use Rattle.std.specs.Prelude.{ℕ, ◌==◌, Bool, true, false, not, ◌&&◌, ◌||◌, List, [], ◌∷◌, ◌++◌, take, drop, length, codes, decimal, if◌then◌else◌, Option, None, Some, IfSome, Result, Ok, Err}
use Rattle.std.specs.List.{flat_map, list_any}
use Rattle.sp_cells.specs.Config.{Config}
use Rattle.locking.specs.declared.range.RangeRow.{RangeRow}
use Rattle.script_lines.specs.PortLines.{is_port_line}
use Rattle.script_lines.specs.declared.fault.LineFault.{LineFault}
use Rattle.tool.specs.Openings.{row_said}
use Rattle.tool.specs.Outcomes.{RunOutcome, Yields, ends, run_outcome_of}
use Rattle.tool.specs.Scripts.{script_lines, kind_of_script}
use Rattle.tool.specs.declared.head.ScriptKind.{ScriptKind}
use Rattle.tool.specs.declared.head.ScriptKind.TheVariants.{Port}
use Rattle.runs.specs.Alphabets.{opening_lines_text, opening_size, letters_of, is_letter}
use Rattle.runs.specs.Lists.{findings_of}
use Rattle.runs.specs.declared.explored.findings.Findings.{Findings}
use Rattle.runs.specs.declared.explored.kinds.Kind.{Kind}
use Rattle.runs.specs.declared.explored.plan.Plan.{Plan}
use Rattle.runs.specs.declared.explored.search.Search.{Search}

-- a word and a number
abbrev pub count_line : List ℕ → ℕ → List ℕ
count_line name count = name ++ codes " " ++ decimal count ++ 10 ∷ []

-- the lines of a list, behind two blanks each
abbrev pub list_lines : List ℕ → List ℕ
list_lines list = flat_map (λ line. codes "  " ++ line ++ 10 ∷ []) (script_lines list)

-- how often a kind was seen, and the first list, which is a shortest one, behind which it was
abbrev pub kind_lines_told : Kind → List ℕ
kind_lines_told kind =
    codes "found " ++ decimal kind.times ++ codes " " ++ kind.text ++ 10 ∷ list_lines kind.list

abbrev pub findings_text : Findings → List ℕ
findings_text findings = count_line (codes "lists") findings.lists
    ++ count_line (codes "states") (length findings.states)
    ++ flat_map kind_lines_told findings.kinds

-- a line that says nothing, or that sets a range
abbrev pub is_none_behind : Result (Option RangeRow) LineFault → Bool
is_none_behind (Ok None) = false
is_none_behind (Ok (Some row)) = true
is_none_behind (Err fault) = true

-- what the lines behind the opening are
abbrev pub kind_behind : List (List ℕ) → ScriptKind
kind_behind lines =
    if list_any is_port_line (take (opening_size lines) lines) then Port else kind_of_script lines

-- a letter that cannot stand behind the opening
abbrev pub is_wrong_letter : ScriptKind → List ℕ → Bool
is_wrong_letter kind line = is_letter line && is_none_behind (row_said kind line)

abbrev pub has_wrong_letter : List (List ℕ) → Bool
has_wrong_letter lines =
    list_any (is_wrong_letter (kind_behind lines)) (drop (opening_size lines) lines)

-- there is nothing to explore
abbrev pub is_unfit : List (List ℕ) → Bool
is_unfit lines = length (letters_of lines) == 0 || has_wrong_letter lines

abbrev pub search_by : Plan → List (List ℕ) → Search
search_by plan lines = record {
  opening = opening_lines_text lines;
  letters = letters_of lines;
  limit = plan.limit;
  find = plan.find;
}

-- a text that is looked for and not found is told by the status
abbrev pub told_of : List ℕ → Findings → RunOutcome
told_of find findings = record {
  text = findings_text findings;
  status = if length findings.kinds == 0 && not (length find == 0) then 1 else 0;
}

-- what is explored, where the opening runs to its end
abbrev pub explored_lines : Config → Plan → List (List ℕ) → RunOutcome
explored_lines config plan lines =
    if is_unfit lines then ends 2
    else told_of plan.find (findings_of config (search_by plan lines) plan.steps)

abbrev pub explored_behind : Config → Plan → List (List ℕ) → ℕ → RunOutcome
explored_behind config plan lines status =
    if status == 0 then explored_lines config plan lines else ends status

-- what a script comes to
abbrev pub exploration_of : Config → Plan → List ℕ → RunOutcome
exploration_of config plan text =
    explored_behind config plan (script_lines text)
    (run_outcome_of config (opening_lines_text (script_lines text))).status

abbrev pub Explores : Config → Plan → Option (List ℕ) → ℕ → Option (List ℕ) → Option (List ℕ)
    → Type 0
Explores config plan input status before after =
    IfSome input (λ text. Yields (exploration_of config plan text) status before after)
