-- What a whole script prints, the status that it ends with, and the frames that its lines leave behind.
use Rattle.std.specs.Prelude.{ℕ, Bool, true, false, List, [], ◌∷◌, ◌++◌, Option, None, Some, Result, Ok, Err, if◌then◌else◌}
use Rattle.sp_cells.specs.Config.{Config}
use Rattle.sp_cells.specs.declared.error.SetError.{SetError}
use Rattle.locking.specs.declared.range.RangeRow.{RangeRow}
use Rattle.history.specs.Opening.{Origin, row_fault, with_range}
use Rattle.script_lines.specs.PortLines.{is_port_line}
use Rattle.script_lines.specs.Texts.{last_of}
use Rattle.script_lines.specs.declared.fault.LineFault.{LineFault}
use Rattle.pictures.specs.declared.samples.frame.Frame.{Frame}
use Rattle.tool.specs.Outcomes.{printed_by}
use Rattle.tool.specs.Scripts.{ScriptLine, effective_lines, script_lines, kind_of_script}
use Rattle.tool.specs.Openings.{origin_of, base_of, row_said}
use Rattle.tool.specs.Courses.{Course, Advance, course_step, start}
use Rattle.tool.specs.declared.head.ScriptKind.{ScriptKind}
use Rattle.tool.specs.declared.head.ScriptKind.TheVariants as kinds
use Rattle.tool.specs.declared.opening.OpeningPhase.{OpeningPhase}
use Rattle.tool.specs.declared.opening.OpeningPhase.TheVariants.{Factory, Activated}
use Rattle.runs.specs.Frames.{frame_behind, opening_frame}

-- what is printed, the frames, and the status behind them
pub record Recording : Type 0 where
  pub text : List ℕ
  pub frames : List Frame
  pub status : ℕ

-- nothing more comes
abbrev pub stops : ℕ → Recording
stops status = record { text = []; frames = []; status = status }

-- this comes first
abbrev pub preceded : List ℕ → List Frame → Recording → Recording
preceded text frames later = record {
  text = text ++ later.text;
  frames = frames ++ later.frames;
  status = later.status;
}

-- behind what a line does comes what comes then
abbrev pub continued : Origin → List ℕ → ScriptLine → (Advance → Recording) → Result Advance ℕ
    → Recording
continued o last line then_comes (Ok made) =
    preceded (printed_by made) (frame_behind o last line made) (then_comes made)
continued o last line then_comes (Err status) = stops status

-- what lines come to on a drive or a port as an origin and a course leave it, where this line was printed
-- last
unfoldable pub recording_on : Origin → Course → List ℕ → List ScriptLine → Recording
recording_on o course last [] = stops 0
recording_on o course last (line ∷ lines) =
    continued o last line (λ made. recording_on o made.course (last_of last made.lines) lines)
    (course_step o course last line)

-- a drive or a port is opened, and the lines run on it
abbrev pub recording_opened : Origin → Course → List ScriptLine → Recording
recording_opened o course lines =
    preceded [] (opening_frame o course ∷ []) (recording_on o course [] lines)

-- a row without a fault is set, and a refused row ends the run
abbrev pub row_set : (OpeningPhase → Recording) → Origin → RangeRow → Option SetError → Recording
row_set then_comes o row None = then_comes (Activated (with_range row o))
row_set then_comes o row (Some error) = stops 2

-- the row of a `range` line is set, and any other line runs
abbrev pub row_given : (OpeningPhase → Recording) → Recording → OpeningPhase → Option RangeRow
    → Recording
row_given then_comes runs phase (Some row) =
    row_set then_comes (base_of phase) row (row_fault (base_of phase) row)
row_given then_comes runs phase None = runs

-- a line that says nothing ends the run
abbrev pub row_read : (OpeningPhase → Recording) → Recording → OpeningPhase
    → Result (Option RangeRow) LineFault → Recording
row_read then_comes runs phase (Ok row) = row_given then_comes runs phase row
row_read then_comes runs phase (Err fault) = stops 2

-- what lines come to behind what range lines made so far: whether reasons are told, and what the lines
-- are
unfoldable pub recording_from : Bool → ScriptKind → OpeningPhase → List ScriptLine → Recording
recording_from explains kind phase [] = stops 0
recording_from explains kind phase (line ∷ lines) =
    row_read (λ next. recording_from explains kind next lines)
    (recording_opened (origin_of phase) (start explains kind) (line ∷ lines)) phase
    (row_said kind line.text)

-- what lines come to, which are of this kind, unless the first is `port`: behind it stand those of a
-- port script
abbrev pub recording_of_lines : Bool → ScriptKind → OpeningPhase → List ScriptLine → Recording
recording_of_lines explains kind phase [] = stops 0
recording_of_lines explains kind phase (first ∷ lines) =
    if is_port_line first.text then recording_from explains kinds.Port phase lines
    else recording_from explains kind phase (first ∷ lines)

-- what a script comes to on a drive of this configuration, with reasons or without
abbrev pub recording_by : Bool → Config → List ℕ → Recording
recording_by explains config text =
    recording_of_lines explains (kind_of_script (script_lines text)) (Factory config)
    (effective_lines (script_lines text))

abbrev pub recording_of : Config → List ℕ → Recording
recording_of config text = recording_by false config text
