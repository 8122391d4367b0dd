-- What a line makes of the course of a script on a drive.
use Rattle.std.specs.Prelude.{◌≡◌, ℕ, Bool, true, false, if◌then◌else◌, List, [], ◌++◌, None, Some, Result, Ok, Err}
use Rattle.std.specs.Str.{bytes_eq}
use Rattle.history.specs.Opening.{Origin}
use Rattle.history.specs.History.{Act}
use Rattle.reasons.specs.declared.explained.onset.Source.{Source}
use Rattle.drive_scripts.specs.Kept.{KeptReasons, RecountsAll}
use Rattle.reasons.specs.Onsets.{Sourced, bare_acts}
use Rattle.script_lines.specs.Lines.{line_said, expected_text}
use Rattle.script_lines.specs.declared.fault.LineFault.{LineFault}
use Rattle.script_lines.specs.declared.line.Line as told
use Rattle.script_lines.specs.declared.line.Line.TheVariants as lines
use Rattle.script_lines.specs.declared.report.Report.{Report}
use Rattle.drive_scripts.specs.Explanations.{attributed, told_reasons}
use Rattle.drive_scripts.specs.Sources.{source_of}
use Rattle.drive_scripts.specs.Turns.{AdvanceOf, PrintsWithReasons}
use Rattle.drive_scripts.specs.Effects.{LineEffect, Has, RunsOn, effect_of}
use Rattle.drive_scripts.specs.declared.drive_phase.DrivePhase.{DrivePhase}
use Rattle.drive_scripts.specs.declared.running.RunningPhase.{RunningPhase}
use Rattle.drive_scripts.specs.declared.turn.Turn.{Turn}
use Rattle.drive_scripts.specs.declared.turn.Turn.TheVariants as turns

-- what a line does that says this, or the status that it ends the run with: a `range` line comes
-- too late, and an `expect` line asks for the last printed line
abbrev pub step_by : Origin → List Act → List ℕ → List ℕ → told.Line → Result LineEffect ℕ
step_by o acts last text (lines.Range row) = Err 2
step_by o acts last text lines.Expect =
    if bytes_eq last (expected_text text) then Ok (effect_of o acts lines.Expect) else Err 1
step_by o acts last text line = Ok (effect_of o acts line)

-- a line that says nothing ends the run
abbrev pub line_course : Origin → List Act → List ℕ → List ℕ → Result told.Line LineFault
    → Result LineEffect ℕ
line_course o acts last text (Ok line) = step_by o acts last text line
line_course o acts last text (Err fault) = Err 2

-- what was done on the drive so far, the newest first: acts, and where a run tells reasons, the acts
-- with the lines that they come from
pub data DriveCourse : Type 0 where
  OnDrive : (acts : List Act) → DriveCourse
  ExplainedDrive : (past : List Sourced) → DriveCourse

-- nothing was done: whether reasons are told
abbrev pub drive_start : Bool → DriveCourse
drive_start false = OnDrive []
drive_start true = ExplainedDrive []

abbrev pub goes_on_drive : Result LineEffect ℕ → Result (AdvanceOf DriveCourse) ℕ
goes_on_drive (Ok effect) =
    Ok (record { course = OnDrive effect.acts; lines = effect.lines; reasons = [] })
goes_on_drive (Err status) = Err status

-- where the acts of a line come from
abbrev pub source_said : ℕ → Result told.Line LineFault → Source
source_said number (Ok line) = source_of number line
source_said number (Err fault) = record { line = number; client = 0 }

-- with reasons: of the acts of a line, by those before it
abbrev pub explained_drive : Origin → List Sourced → Source → Result LineEffect ℕ
    → Result (AdvanceOf DriveCourse) ℕ
explained_drive o past source (Ok effect) = Ok (record {
  course = ExplainedDrive (attributed source effect.acts past);
  lines = effect.lines;
  reasons = told_reasons o past effect.acts;
})
explained_drive o past source (Err status) = Err status

-- what the line of a number makes of the course, or the status that it ends the run with
abbrev pub drive_course_step : Origin → DriveCourse → List ℕ → ℕ → List ℕ
    → Result (AdvanceOf DriveCourse) ℕ
drive_course_step o (OnDrive acts) last number text =
    goes_on_drive (line_course o acts last text (line_said text))
drive_course_step o (ExplainedDrive past) last number text =
    explained_drive o past (source_said number (line_said text))
    (line_course o (bare_acts past) last text (line_said text))

-- a drive is as its origin and the course leave it; where reasons are told, what is kept for them is
-- what the course says
abbrev pub DriveRunsOn : DrivePhase → Origin → DriveCourse → Type 0
DriveRunsOn drive o (OnDrive acts) = RunsOn drive.run o acts × (drive.explainer ≡ None)
DriveRunsOn drive o (ExplainedDrive past) =
    RunsOn drive.run o (bare_acts past)
    × (kept : KeptReasons) × (drive.explainer ≡ Some kept) × RecountsAll kept o past

abbrev pub DriveStands : DrivePhase → Type 0
DriveStands drive = (o : Origin) × (course : DriveCourse) × DriveRunsOn drive o course

-- a turn is what the line does, or the status that it ends the run with
abbrev pub DriveSteps : Turn → Result LineEffect ℕ → RunningPhase → Origin → Report → Report
    → Type 0
DriveSteps (turns.Goes aborted) (Ok effect) new o before after = Has new o before after effect
DriveSteps turns.ExpectationFailed (Err status) new o before after =
    (status ≡ 1) × (after ≡ before)
DriveSteps (turns.Bad fault) (Err status) new o before after = (status ≡ 2) × (after ≡ before)
DriveSteps turn result new o before after = ⊥

-- behind what a line printed its reasons are told, and what is kept for them goes on
pub record Explains (source : Source) (o : Origin) (past : List Sourced) (acts : List Act)
    (kept : KeptReasons) (before after : Report) : Type 0 where
  pub bare : bare_acts (attributed source acts past) ≡ acts
  pub recounts : RecountsAll kept o (attributed source acts past)
  pub pending : after.pending.items ≡ before.pending.items ++ told_reasons o past acts
  pub last : after.last ≡ before.last

-- the same where reasons are told, with what is kept for them
pub record ExplainedHas (new : RunningPhase) (kept : KeptReasons) (o : Origin) (past : List Sourced)
    (source : Source) (before after : Report) (effect : LineEffect) : Type 0 where
  pub runs : RunsOn new o effect.acts
  pub bare : bare_acts (attributed source effect.acts past) ≡ effect.acts
  pub recounts : RecountsAll kept o (attributed source effect.acts past)
  pub tells : PrintsWithReasons before after effect.lines (told_reasons o past effect.acts)

abbrev pub ExplainedSteps : Turn → Result LineEffect ℕ → Source → Origin → List Sourced
    → RunningPhase → KeptReasons → Report → Report → Type 0
ExplainedSteps (turns.Goes aborted) (Ok effect) source o past new kept before after =
    ExplainedHas new kept o past source before after effect
ExplainedSteps turns.ExpectationFailed (Err status) source o past new kept before after =
    (status ≡ 1) × (after ≡ before)
ExplainedSteps (turns.Bad fault) (Err status) source o past new kept before after =
    (status ≡ 2) × (after ≡ before)
ExplainedSteps turn result source o past new kept before after = ⊥
