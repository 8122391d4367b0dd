-- What a whole script prints, and the status that it ends with.
use Rattle.std.specs.Prelude.{◌≡◌, ℕ, Bool, true, false, if◌then◌else◌, List, [], ◌∷◌, ◌++◌, Option, None, Some, IfSome, Result, Ok, Err}
use Rattle.std.specs.Io.KnownBytes.{Appends}
use Rattle.sp_cells.specs.Config.{Config}
use Rattle.sp_cells.specs.declared.error.SetError.{SetError}
use Rattle.locking.specs.declared.range.RangeRow.{RangeRow}
use Rattle.history.specs.Opening.{Origin, row_fault, with_range}
use Rattle.script_lines.specs.PortLines.{is_port_line}
use Rattle.script_lines.specs.Texts.{last_of, printed}
use Rattle.script_lines.specs.declared.fault.LineFault.{LineFault}
use Rattle.tool.specs.Scripts.{ScriptLine, script_lines, effective_lines, kind_of_script}
use Rattle.tool.specs.Openings.{origin_of, base_of, row_said}
use Rattle.tool.specs.Courses.{Course, Advance, course_step, start}
use Rattle.tool.specs.declared.head.ScriptKind.{ScriptKind}
use Rattle.tool.specs.declared.head.ScriptKind.TheVariants as kinds
use Rattle.tool.specs.declared.opening.OpeningPhase.{OpeningPhase}
use Rattle.tool.specs.declared.opening.OpeningPhase.TheVariants.{Factory, Activated}

-- what is printed, and the status behind it
pub record RunOutcome : Type 0 where
  pub text : List ℕ
  pub status : ℕ

-- nothing more is printed
abbrev pub ends : ℕ → RunOutcome
ends status = record { text = []; status = status }

-- this is printed first
abbrev pub printed_first : List ℕ → RunOutcome → RunOutcome
printed_first earlier later = record { text = earlier ++ later.text; status = later.status }

-- the lines that a line prints, and the reasons that are told behind them
abbrev pub printed_by : Advance → List ℕ
printed_by made = printed made.lines ++ made.reasons

-- behind what a line does comes what comes then
abbrev pub onward : (Advance → RunOutcome) → Result Advance ℕ → RunOutcome
onward then_comes (Ok made) = printed_first (printed_by made) (then_comes made)
onward then_comes (Err status) = ends status

-- what lines come to on a drive or a port as an origin and a course leave it, where this line was
-- printed last
unfoldable pub outcome_on : Origin → Course → List ℕ → List ScriptLine → RunOutcome
outcome_on o course last [] = ends 0
outcome_on o course last (line ∷ lines) =
    onward (λ made. outcome_on o made.course (last_of last made.lines) lines)
    (course_step o course last line)

-- a row without a fault is set, and the opening phase goes on; a refused row ends the run
abbrev pub set_then : (OpeningPhase → RunOutcome) → Origin → RangeRow → Option SetError → RunOutcome
set_then then_comes o row None = then_comes (Activated (with_range row o))
set_then then_comes o row (Some error) = ends 2

-- the row of a `range` line is set; any other line ends the opening phase
abbrev pub opened_by : (OpeningPhase → RunOutcome) → RunOutcome → OpeningPhase → Option RangeRow
    → RunOutcome
opened_by then_comes runs phase (Some row) =
    set_then then_comes (base_of phase) row (row_fault (base_of phase) row)
opened_by then_comes runs phase None = runs

-- a line that says nothing ends the run
abbrev pub opened : (OpeningPhase → RunOutcome) → RunOutcome → OpeningPhase
    → Result (Option RangeRow) LineFault → RunOutcome
opened then_comes runs phase (Ok row) = opened_by then_comes runs phase row
opened then_comes runs phase (Err fault) = ends 2

-- what lines come to behind what range lines made so far: whether reasons are told, and what the
-- lines are
unfoldable pub outcome_from : Bool → ScriptKind → OpeningPhase → List ScriptLine → RunOutcome
outcome_from explains kind phase [] = ends 0
outcome_from explains kind phase (line ∷ lines) =
    opened (λ next. outcome_from explains kind next lines)
    (outcome_on (origin_of phase) (start explains kind) [] (line ∷ lines)) phase
    (row_said kind line.text)

-- what lines come to, which are of this kind, unless the first is `port`: behind it stand those of a
-- port script
abbrev pub outcome_of_lines : Bool → ScriptKind → Config → List ScriptLine → RunOutcome
outcome_of_lines explains kind config [] = ends 0
outcome_of_lines explains kind config (first ∷ lines) =
    if is_port_line first.text then outcome_from explains kinds.Port (Factory config) lines
    else outcome_from explains kind (Factory config) (first ∷ lines)

-- what a script comes to on a drive of this configuration, with reasons or without: in a script whose
-- first line begins with `#`, a remark does nothing, and a line may write a call by name
abbrev pub outcome_by : Bool → Config → List ℕ → RunOutcome
outcome_by explains config text =
    outcome_of_lines explains (kind_of_script (script_lines text)) config
    (effective_lines (script_lines text))

abbrev pub run_outcome_of : Config → List ℕ → RunOutcome
run_outcome_of config text = outcome_by false config text

-- this is the status, and this is written behind what was written before
abbrev pub Yields : RunOutcome → ℕ → Option (List ℕ) → Option (List ℕ) → Type 0
Yields outcome status before after = (status ≡ outcome.status)
    × Appends before after outcome.text

-- a script of these bytes, where they are known, yields its outcome, with reasons or without
abbrev pub YieldsBy : Bool → Config → Option (List ℕ) → ℕ → Option (List ℕ) → Option (List ℕ)
    → Type 0
YieldsBy explains config input status before after =
    IfSome input (λ text. Yields (outcome_by explains config text) status before after)

abbrev pub ScriptYields : Config → Option (List ℕ) → ℕ → Option (List ℕ) → Option (List ℕ)
    → Type 0
ScriptYields config input status before after = YieldsBy false config input status before after

-- each refusal is told with its reason
abbrev pub ExplainedScriptYields : Config → Option (List ℕ) → ℕ → Option (List ℕ)
    → Option (List ℕ) → Type 0
ExplainedScriptYields config input status before after =
    YieldsBy true config input status before after
