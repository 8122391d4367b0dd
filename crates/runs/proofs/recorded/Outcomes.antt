-- What a recording prints is what a run prints.
use Rattle.std.proofs.Common.{◌≡◌, ◌∙◌, ℕ, Bool, true, false, List, [], ◌∷◌, ◌++◌, refl, sym, ap, subst, Option, Some, None, IfSome, Result, Ok, Err}
use Rattle.std.specs.Prelude.{if◌then◌else◌}
use Rattle.std.specs.Io.KnownBytes.{Appends}
use Rattle.sp_cells.specs.Config.{Config}
use Rattle.sp_cells.specs.declared.error.SetError.{SetError}
use Rattle.locking.specs.declared.range.RangeRow.{RangeRow}
use Rattle.history.specs.Opening.{Origin, row_fault}
use Rattle.pictures.specs.declared.samples.frame.Frame.{Frame}
use Rattle.script_lines.specs.PortLines.{is_port_line}
use Rattle.script_lines.specs.Texts.{last_of}
use Rattle.script_lines.specs.declared.fault.LineFault.{LineFault}
use Rattle.tool.specs.Scripts.{ScriptLine, effective_lines, script_lines, kind_of_script}
use Rattle.tool.specs.Courses.{Course, Advance, course_step, start}
use Rattle.tool.specs.Openings.{origin_of, base_of, row_said}
use Rattle.tool.specs.Outcomes.{RunOutcome, onward, outcome_on, set_then, opened_by, opened, outcome_from, outcome_of_lines, outcome_by, YieldsBy}
use Rattle.tool.specs.declared.head.ScriptKind.{ScriptKind}
use Rattle.tool.specs.declared.head.ScriptKind.TheVariants as kinds
use Rattle.tool.specs.declared.opening.OpeningPhase.{OpeningPhase}
use Rattle.tool.specs.declared.opening.OpeningPhase.TheVariants.{Factory}
use Rattle.runs.specs.Recordings.{Recording, continued, recording_on, recording_opened, row_set, row_given, row_read, recording_from, recording_of_lines, recording_by}
use Rattle.runs.specs.Progress.{Records}

-- without its frames
abbrev outcome_in : Recording → RunOutcome
outcome_in recording = record { text = recording.text; status = recording.status }

step-so : (o : Origin) (last : List ℕ) (line : ScriptLine) (result : Result Advance ℕ)
    (runs : Advance → RunOutcome) (records : Advance → Recording)
    → ((made : Advance) → runs made ≡ outcome_in (records made))
    → onward runs result ≡ outcome_in (continued o last line records result)
step-so o last line (Ok made) runs records same =
    ap (λ (r : RunOutcome). onward (λ _. r) (Ok made)) (same made)
step-so o last line (Err status) runs records same = refl

pub on-so : (o : Origin) (course : Course) (last : List ℕ) (lines : List ScriptLine)
    → outcome_on o course last lines ≡ outcome_in (recording_on o course last lines)
unfolding outcome_on recording_on
on-so o course last [] = refl
on-so o course last (line ∷ lines) =
    step-so o last line (course_step o course last line)
    (λ made. outcome_on o made.course (last_of last made.lines) lines)
    (λ made. recording_on o made.course (last_of last made.lines) lines)
    (λ made. on-so o made.course (last_of last made.lines) lines)

set-so : (o : Origin) (row : RangeRow) (fault : Option SetError) (runs : OpeningPhase → RunOutcome)
    (records : OpeningPhase → Recording) → ((next : OpeningPhase) → runs next ≡ outcome_in (records next))
    → set_then runs o row fault ≡ outcome_in (row_set records o row fault)
set-so o row None runs records same = same _
set-so o row (Some error) runs records same = refl

given-so : (phase : OpeningPhase) (row : Option RangeRow) (runs : OpeningPhase → RunOutcome)
    (records : OpeningPhase → Recording) (run : RunOutcome) (recording : Recording)
    → ((next : OpeningPhase) → runs next ≡ outcome_in (records next)) → run ≡ outcome_in recording
    → opened_by runs run phase row ≡ outcome_in (row_given records recording phase row)
given-so phase (Some row) runs records run recording same is =
    set-so (base_of phase) row (row_fault (base_of phase) row) runs records same
given-so phase None runs records run recording same is = is

read-so : (phase : OpeningPhase) (read : Result (Option RangeRow) LineFault)
    (runs : OpeningPhase → RunOutcome) (records : OpeningPhase → Recording) (run : RunOutcome)
    (recording : Recording) → ((next : OpeningPhase) → runs next ≡ outcome_in (records next))
    → run ≡ outcome_in recording
    → opened runs run phase read ≡ outcome_in (row_read records recording phase read)
read-so phase (Ok row) runs records run recording same is =
    given-so phase row runs records run recording same is
read-so phase (Err fault) runs records run recording same is = refl

from-so : (explains : Bool) (kind : ScriptKind) (phase : OpeningPhase) (lines : List ScriptLine)
    → outcome_from explains kind phase lines
    ≡ outcome_in (recording_from explains kind phase lines)
unfolding outcome_from recording_from
from-so explains kind phase [] = refl
from-so explains kind phase (line ∷ lines) =
    read-so phase (row_said kind line.text) (λ next. outcome_from explains kind next lines)
    (λ next. recording_from explains kind next lines)
    (outcome_on (origin_of phase) (start explains kind) [] (line ∷ lines))
    (recording_opened (origin_of phase) (start explains kind) (line ∷ lines))
    (λ next. from-so explains kind next lines)
    (on-so (origin_of phase) (start explains kind) [] (line ∷ lines))

either-so : (on_port explains : Bool) (kind : ScriptKind) (phase : OpeningPhase) (first : ScriptLine)
    (lines : List ScriptLine)
    → (if on_port then outcome_from explains kinds.Port phase lines
    else outcome_from explains kind phase (first ∷ lines))
    ≡ outcome_in
    (if on_port then recording_from explains kinds.Port phase lines
    else recording_from explains kind phase (first ∷ lines))
either-so true explains kind phase first lines = from-so explains kinds.Port phase lines
either-so false explains kind phase first lines = from-so explains kind phase (first ∷ lines)

pub lines-so : (explains : Bool) (kind : ScriptKind) (config : Config) (lines : List ScriptLine)
    → outcome_of_lines explains kind config lines
    ≡ outcome_in (recording_of_lines explains kind (Factory config) lines)
lines-so explains kind config [] = refl
lines-so explains kind config (first ∷ lines) =
    either-so (is_port_line first.text) explains kind (Factory config) first lines

pub outcome-so : (explains : Bool) (config : Config) (text : List ℕ)
    → outcome_by explains config text ≡ outcome_in (recording_by explains config text)
outcome-so explains config text =
    lines-so explains (kind_of_script (script_lines text)) config (effective_lines (script_lines text))

-- a run that is recorded yields what a run yields
pub yields-so : (input : Option (List ℕ)) (explains : Bool) (config : Config) (status : ℕ)
    (before after : Option (List ℕ)) (held holds : Option (List ℕ) → List Frame → Type 0)
    → Records explains config input status before after held holds
    → YieldsBy explains config input status before after
yields-so None explains config status before after held holds records = tt
yields-so (Some text) explains config status before after held holds records =
    let same = outcome-so explains config text in (
      records.status ∙ ap (λ (outcome : RunOutcome). outcome.status) (sym same),
      subst (Appends before after) (ap (λ (outcome : RunOutcome). outcome.text) (sym same)) records.written,
    )
