-- What a line makes of the course of a script on a port.
use Rattle.std.specs.Prelude.{◌≡◌, ℕ, Bool, true, false, if◌then◌else◌, List, [], Option, None, Some, Result, Ok, Err}
use Rattle.std.specs.Str.{bytes_eq}
use Rattle.history.specs.Opening.{Origin}
use Rattle.port_history.specs.declared.step.Step.{Step}
use Rattle.script_lines.specs.Lines.{expected_text}
use Rattle.script_lines.specs.PortLines.{port_line_of}
use Rattle.script_lines.specs.declared.fault.LineFault.{LineFault}
use Rattle.script_lines.specs.declared.port_line.PortLine as told
use Rattle.script_lines.specs.declared.port_line.PortLine.TheVariants as lines
use Rattle.script_lines.specs.declared.report.Report.{Report}
use Rattle.drive_scripts.specs.Turns.{AdvanceOf, PrintsWithReasons}
use Rattle.drive_scripts.specs.declared.turn.Turn.{Turn}
use Rattle.drive_scripts.specs.declared.turn.Turn.TheVariants as turns
use Rattle.drive_scripts.specs.Kept.{KeptReasons, RecountsAll}
use Rattle.port_scripts.specs.PortActs.{LinedStep, bare_steps, steps_done}
use Rattle.port_scripts.specs.PortEffects.{PortEffect, PortRunsOn, port_effect_of, step_effect, step_in}
use Rattle.port_scripts.specs.PortReasons.{step_reasons, steps_after}
use Rattle.port_scripts.specs.declared.port_desk.PortDesk.{PortDesk}
use Rattle.port_scripts.specs.declared.port_phase.PortPhase.{PortPhase}

-- what a line does that says this, or the status that it ends the run with: a `range` line comes
-- too late, and an `expect` line asks for the last printed line
abbrev pub port_step_by : Origin → List Step → List ℕ → List ℕ → told.PortLine
    → Result PortEffect ℕ
port_step_by o list last text (lines.Range row) = Err 2
port_step_by o list last text lines.Expect =
    if bytes_eq last (expected_text text) then Ok (port_effect_of o list lines.Expect)
    else Err 1
port_step_by o list last text line = Ok (port_effect_of o list line)

-- a line that says nothing ends the run
abbrev pub port_step : Origin → List Step → List ℕ → List ℕ → Result told.PortLine LineFault
    → Result PortEffect ℕ
port_step o list last text (Ok line) = port_step_by o list last text line
port_step o list last text (Err fault) = Err 2

-- the steps that the port did so far, the newest first, and where a run tells reasons, with the lines
-- that they come from
pub data PortCourse : Type 0 where
  OnPort : (list : List Step) → PortCourse
  ExplainedPort : (past : List LinedStep) → PortCourse

-- nothing was done: whether reasons are told
abbrev pub port_start : Bool → PortCourse
port_start false = OnPort []
port_start true = ExplainedPort []

abbrev pub on_port : Result PortEffect ℕ → Result (AdvanceOf PortCourse) ℕ
on_port (Ok effect) =
    Ok (record { course = OnPort effect.steps; lines = effect.lines; reasons = [] })
on_port (Err status) = Err status

-- the step of a line
abbrev pub step_said : Result told.PortLine LineFault → Option Step
step_said (Ok line) = step_in line
step_said (Err fault) = None

-- with reasons: what is told of the step, and the steps behind it
abbrev pub explained_port : List LinedStep → List ℕ → Result PortEffect ℕ
    → Result (AdvanceOf PortCourse) ℕ
explained_port after reasons (Ok effect) =
    Ok (record { course = ExplainedPort after; lines = effect.lines; reasons = reasons })
explained_port after reasons (Err status) = Err status

-- the same by the step that a line asks for
abbrev pub explained_step : Origin → List LinedStep → ℕ → Step → Result (AdvanceOf PortCourse) ℕ
explained_step o past number step =
    explained_port (steps_after o past number (Some step)) (step_reasons o past (Some step))
    (Ok (step_effect o (bare_steps past) step))

-- what the line of a number makes of the course, or the status that it ends the run with
abbrev pub port_course_step : Origin → PortCourse → List ℕ → ℕ → List ℕ
    → Result (AdvanceOf PortCourse) ℕ
port_course_step o (OnPort list) last number text =
    on_port (port_step o list last text (port_line_of text))
port_course_step o (ExplainedPort past) last number text =
    explained_port (steps_after o past number (step_said (port_line_of text)))
    (step_reasons o past (step_said (port_line_of text)))
    (port_step o (bare_steps past) last text (port_line_of text))

-- a port is as its origin and the steps leave it, and what is kept for reasons is what the steps say
pub record KeepsPort (phase : PortPhase) (kept : KeptReasons) (o : Origin)
    (past : List LinedStep) : Type 0 where
  pub runs : PortRunsOn phase o (bare_steps past)
  pub recounts : RecountsAll kept o (steps_done o past)

-- a port is as its origin and the course leave it
abbrev pub DeskRunsOn : PortDesk → Origin → PortCourse → Type 0
DeskRunsOn desk o (OnPort list) = PortRunsOn desk.phase o list × (desk.explainer ≡ None)
DeskRunsOn desk o (ExplainedPort past) =
    (kept : KeptReasons) × (desk.explainer ≡ Some kept) × KeepsPort desk.phase kept o past

-- where reasons are told
abbrev pub KeepsCourse : PortPhase → KeptReasons → Origin → PortCourse → Type 0
KeepsCourse phase kept o (OnPort list) = ⊥
KeepsCourse phase kept o (ExplainedPort past) = KeepsPort phase kept o past

-- the port has done a step, with the reasons that are told
pub record PortGoes (new : PortPhase) (o : Origin) (before after : Report)
    (effect : PortEffect) (reasons : List ℕ) : Type 0 where
  pub runs : PortRunsOn new o effect.steps
  pub tells : PrintsWithReasons before after effect.lines reasons

-- a turn is what the line does, or the status that it ends the run with
abbrev pub PortSteps : Turn → Result PortEffect ℕ → List ℕ → PortPhase → Origin → Report → Report
    → Type 0
PortSteps (turns.Goes aborted) (Ok effect) reasons new o before after =
    PortGoes new o before after effect reasons
PortSteps turns.ExpectationFailed (Err status) reasons new o before after =
    (status ≡ 1) × (after ≡ before)
PortSteps (turns.Bad fault) (Err status) reasons new o before after =
    (status ≡ 2) × (after ≡ before)
PortSteps turn result reasons new o before after = ⊥
