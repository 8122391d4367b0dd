-- How far a recorded run has come, within the program.
use Rattle.std.specs.Prelude.{◌≡◌, ◌+◌, ℕ, Bool, true, false, List, [], ◌∷◌, ◌++◌, Option, None, Some, IfSome, Result, Ok, Err, ⊤}
use Rattle.std.specs.Io.KnownBytes.{Appends}
use Rattle.sp_cells.specs.Config.{Config}
use Rattle.history.specs.Opening.{Origin}
use Rattle.pictures.specs.declared.samples.frame.Frame.{Frame}
use Rattle.script_lines.specs.declared.report.Report.{Report}
use Rattle.tool.specs.Ends.{exit_status}
use Rattle.tool.specs.Courses.{Course, Advance, PhaseRunsOn, PhaseStands, start}
use Rattle.tool.specs.Progress.{HandsOn}
use Rattle.tool.specs.declared.ending.End.{End}
use Rattle.drive_scripts.specs.declared.turn.Fault.{Fault}
use Rattle.tool.specs.declared.head.ScriptKind.{ScriptKind}
use Rattle.tool.specs.declared.opening.OpeningPhase.{OpeningPhase}
use Rattle.tool.specs.declared.opening.OpeningPhase.TheVariants.{Factory}
use Rattle.tool.specs.declared.opening.OpeningTurn.{OpeningTurn}
use Rattle.tool.specs.declared.opening.OpeningTurn.TheVariants as openings
use Rattle.tool.specs.declared.phase.Phase.{Phase}
use Rattle.tool.specs.Scripts.{ScriptLine, drive_kind, without_remarks, lines_from}
use Rattle.runs.specs.Frames.{frame_behind}
use Rattle.runs.specs.Recordings.{Recording, stops, preceded, recording_on, recording_opened, recording_from, recording_of_lines, recording_by}
use Rattle.runs.specs.declared.recorded.front.Front.{Front}
use Rattle.runs.specs.declared.recorded.front.Front.TheVariants as fronts
use Rattle.runs.specs.declared.recorded.front.FrontTurn.{FrontTurn}
use Rattle.runs.specs.declared.recorded.front.FrontTurn.TheVariants as turns
use Rattle.runs.specs.declared.recorded.script.Opened.{Opened}
use Rattle.runs.specs.declared.recorded.script.Opened.TheVariants.{Ended, Runs}

-- the frames of a line, by what it makes of the course
abbrev pub frames_made : Origin → List ℕ → ScriptLine → Result Advance ℕ → List Frame
frames_made o last line (Ok made) = frame_behind o last line made
frames_made o last line (Err status) = []

-- whoever held frames holds these behind them
abbrev pub HoldsMore : List Frame → (Option (List ℕ) → List Frame → Type 0)
    → (Option (List ℕ) → List Frame → Type 0) → Type 0
HoldsMore frames held holds =
    (base : Option (List ℕ)) (came : List Frame) → held base came → holds base (came ++ frames)

-- of all that is to come a rest is still to come; of what comes before it the text is written or pending, and the
-- frames are held
pub record ComesTo (whole rest : Recording) (before after : Option (List ℕ))
    (pending left : List ℕ) (held holds : Option (List ℕ) → List Frame → Type 0) : Type 0 where
  pub earlier : List ℕ
  pub frames : List Frame
  pub comes : whole ≡ preceded earlier frames rest
  pub written : HandsOn before after (pending ++ earlier) left
  pub kept : HoldsMore frames held holds

-- the same down to an end, by what two reports have pending
abbrev pub EndsSo : Recording → End → Report → Report → Option (List ℕ) → Option (List ℕ)
    → (Option (List ℕ) → List Frame → Type 0) → (Option (List ℕ) → List Frame → Type 0) → Type 0
EndsSo whole end old new before after held holds =
    ComesTo whole (stops (exit_status end)) before after old.pending.items new.pending.items held
    holds

-- the line at hand, behind so many others, and those that are left come to this end, whatever origin and course left
-- the drive or the port so
abbrev pub LinesEnd : Bool → ℕ → Phase → List ℕ → Option (List ℕ) → End → Report → Report
    → Option (List ℕ) → Option (List ℕ) → (Option (List ℕ) → List Frame → Type 0)
    → (Option (List ℕ) → List Frame → Type 0) → Type 0
LinesEnd remarks lines run line left end old new before after held holds =
    (o : Origin) (course : Course) → PhaseRunsOn run o course
    → IfSome left
    (λ text. EndsSo (recording_on o course old.last.items (lines_from remarks lines line text))
    end old new before after held holds)

-- so do the opening and all of them
abbrev pub OpenedEnds : Bool → ℕ → Phase → List ℕ → Option (List ℕ) → End → Report → Report
    → Option (List ℕ) → Option (List ℕ) → (Option (List ℕ) → List Frame → Type 0)
    → (Option (List ℕ) → List Frame → Type 0) → Type 0
OpenedEnds remarks lines run line left end old new before after held holds =
    (o : Origin) (course : Course) → PhaseRunsOn run o course
    → IfSome left
    (λ text. EndsSo (recording_opened o course (lines_from remarks lines line text))
    end old new before after held holds)

-- a whole script comes to this end
abbrev pub ScriptEnds : Bool → Config → Option (List ℕ) → End → Report → Report → Option (List ℕ)
    → Option (List ℕ) → (Option (List ℕ) → List Frame → Type 0)
    → (Option (List ℕ) → List Frame → Type 0) → Type 0
ScriptEnds explains config left end old new before after held holds =
    IfSome left
    (λ text. EndsSo (recording_by explains config text) end old new before after held holds)

-- what lines come to behind what stood in front of them
abbrev pub front_recording : Bool → Front → List ScriptLine → Recording
front_recording explains (fronts.Bare kind phase) lines =
    recording_of_lines explains kind phase lines
front_recording explains (fronts.Told kind phase) lines =
    recording_from explains kind phase lines

abbrev pub line_at : ℕ → List ℕ → ScriptLine
line_at number text = record { number = number; text = text }

-- what an opening turn comes to, whatever the line's number is, and the lines behind it
abbrev pub OpensSo : Bool → ScriptKind → OpeningPhase → List ℕ → OpeningTurn → Type 0
OpensSo explains kind phase text (openings.Goes next) =
    (number : ℕ) (lines : List ScriptLine)
    → recording_from explains kind phase (line_at number text ∷ lines)
    ≡ recording_from explains kind next lines
OpensSo explains kind phase text (openings.Runs run) =
    (o : Origin) × PhaseRunsOn run o (start explains kind)
    × ((number : ℕ) (lines : List ScriptLine)
    → recording_from explains kind phase (line_at number text ∷ lines)
    ≡ recording_opened o (start explains kind) (line_at number text ∷ lines))
OpensSo explains kind phase text (openings.Bad fault) =
    (number : ℕ) (lines : List ScriptLine)
    → recording_from explains kind phase (line_at number text ∷ lines) ≡ stops 2

-- what a line in front comes to
abbrev pub TurnsSo : Bool → Bool → Front → List ℕ → FrontTurn → Type 0
TurnsSo explains remarks front text (turns.Goes next) =
    (number : ℕ) (lines : List ScriptLine)
    → front_recording explains front (without_remarks remarks (line_at number text ∷ lines))
    ≡ front_recording explains next (without_remarks remarks lines)
TurnsSo explains remarks front text (turns.Runs run) =
    (o : Origin) × (kind : ScriptKind) × PhaseRunsOn run o (start explains kind)
    × ((number : ℕ) (lines : List ScriptLine)
    → front_recording explains front (without_remarks remarks (line_at number text ∷ lines))
    ≡ recording_opened o (start explains kind)
    (without_remarks remarks (line_at number text ∷ lines)))
TurnsSo explains remarks front text (turns.Bad fault) =
    (number : ℕ) (lines : List ScriptLine)
    → front_recording explains front (without_remarks remarks (line_at number text ∷ lines))
    ≡ stops 2

-- an opening turn as that of a line in front, in a script of this kind
abbrev pub front_turn : ScriptKind → OpeningTurn → FrontTurn
front_turn kind (openings.Goes phase) = turns.Goes (fronts.Told kind phase)
front_turn kind (openings.Runs run) = turns.Runs run
front_turn kind (openings.Bad fault) = turns.Bad fault

-- what the lines in front leave to come
abbrev pub FrontComesTo : Bool → Bool → Opened → Recording → List ℕ → Option (List ℕ) → Type 0
FrontComesTo explains remarks (Ended end) whole line left = whole ≡ stops (exit_status end)
FrontComesTo explains remarks (Runs run lines) whole line left =
    (o : Origin) × (kind : ScriptKind) × (text : List ℕ) × PhaseRunsOn run o (start explains kind)
    × (left ≡ Some text)
    × (whole ≡ recording_opened o (start explains kind) (lines_from remarks lines line text))

-- where the line at hand is in front of this text
abbrev pub FrontLeads : Bool → Bool → Opened → OpeningPhase → List ℕ → Option (List ℕ) → List ℕ
    → Option (List ℕ) → Type 0
FrontLeads explains remarks opened phase first before line left =
    IfSome before
    (λ text. FrontComesTo explains remarks opened
    (recording_of_lines explains (drive_kind remarks) phase (lines_from remarks 0 first text)) line
    left)

-- this is the status; the text is written behind what was written before, and the frames are held
pub record RecordsAs (recording : Recording) (ended : ℕ) (before after : Option (List ℕ))
    (held holds : Option (List ℕ) → List Frame → Type 0) : Type 0 where
  pub status : ended ≡ recording.status
  pub written : Appends before after recording.text
  pub kept : HoldsMore recording.frames held holds

-- of a script of these bytes, where they are known
abbrev pub Records : Bool → Config → Option (List ℕ) → ℕ → Option (List ℕ) → Option (List ℕ)
    → (Option (List ℕ) → List Frame → Type 0) → (Option (List ℕ) → List Frame → Type 0) → Type 0
Records explains config input status before after held holds =
    IfSome input
    (λ text. RecordsAs (recording_by explains config text) status before after held holds)

-- what runs, where something does, is as an origin and a course leave it
abbrev pub FrontStands : Opened → Type 0
FrontStands (Ended end) = ⊤
FrontStands (Runs run lines) = PhaseStands run
