-- A run of a script whose lines come piece by piece: how far it has come.
use Rattle.std.specs.Prelude.{◌≡◌, ◌+◌, ℕ, Bool, true, false, List, [], ◌∷◌, ◌++◌, ⊤, Option, None, Some}
use Rattle.sp_cells.specs.Config.{Config}
use Rattle.history.specs.Opening.{Origin}
use Rattle.script_lines.specs.declared.report.Report.{Report}
use Rattle.drive_scripts.specs.declared.turn.Turn.{Turn}
use Rattle.drive_scripts.specs.declared.turn.Turn.TheVariants as turns
use Rattle.tool.specs.Scripts.{ScriptLine, script_lines, kind_of_script, effective_lines, with_numbers, without_remarks}
use Rattle.tool.specs.Courses.{Course, PhaseRunsOn, PhaseStands}
use Rattle.tool.specs.Outcomes.{RunOutcome, ends, printed_first, outcome_on, outcome_of_lines}
use Rattle.tool.specs.Progress.{Steps, step_or_skip}
use Rattle.tool.specs.declared.phase.Phase.{Phase}
use Rattle.runs.specs.Recordings.{Recording}
use Rattle.runs.specs.Progress.{front_recording, line_at}
use Rattle.runs.specs.declared.recorded.front.Front.{Front}
use Rattle.runs.specs.declared.recorded.stepped.Stage.{Stage}
use Rattle.runs.specs.declared.recorded.stepped.Stage.TheVariants.{Untold, InFront, Runs, Ended}
use Rattle.runs.specs.declared.recorded.stepped.SteppedRun.{SteppedRun}

-- a text of whole lines: none of its lines goes on in what stands behind it
abbrev pub WholeLines : List ℕ → Type 0
WholeLines text = (behind : List ℕ)
    → script_lines (text ++ behind) ≡ script_lines text ++ script_lines behind

-- the status that a turn ends the script with, if it does
abbrev pub script_end : Turn → Option ℕ
script_end (turns.Goes aborted) = None
script_end turns.ExpectationFailed = Some 1
script_end (turns.Bad fault) = Some 2

-- what a turn makes of what ran
abbrev pub stage_with : Option ℕ → Bool → Phase → Stage
stage_with None remarks run = Runs remarks run
stage_with (Some status) remarks run = Ended status

abbrev pub stage_behind : Turn → Bool → Phase → Stage
stage_behind turn remarks run = stage_with (script_end turn) remarks run

-- the same of a stage at which something runs
abbrev pub stage_by : Option ℕ → Stage → Stage
stage_by None stage = stage
stage_by (Some status) stage = Ended status

-- something runs
abbrev pub runs_at : Stage → Bool
runs_at Untold = false
runs_at (InFront remarks front) = false
runs_at (Runs remarks run) = true
runs_at (Ended status) = false

-- what runs, where something does, is as an origin and a course leave it
abbrev pub StageStands : Stage → Type 0
StageStands Untold = ⊤
StageStands (InFront remarks front) = ⊤
StageStands (Runs remarks run) = PhaseStands run
StageStands (Ended status) = ⊤

-- what lines come to as a script
abbrev pub outcome_of_texts : Bool → Config → List (List ℕ) → RunOutcome
outcome_of_texts explains config texts =
    outcome_of_lines explains (kind_of_script texts) config (effective_lines texts)

-- what a recording prints, and its status
abbrev pub outcome_recorded : Recording → RunOutcome
outcome_recorded recording = record { text = recording.text; status = recording.status }

-- lines behind so many others, without the remarks
abbrev pub lines_behind : Bool → ℕ → List (List ℕ) → List ScriptLine
lines_behind remarks lines texts = without_remarks remarks (with_numbers lines texts)

-- what lines come to behind those in front
abbrev pub front_comes : Bool → Bool → Front → ℕ → List (List ℕ) → RunOutcome
front_comes explains remarks front lines texts =
    outcome_recorded (front_recording explains front (lines_behind remarks lines texts))

-- what lines come to on what runs, behind what was printed
abbrev pub run_comes : Bool → Origin → Course → Report → ℕ → List (List ℕ) → RunOutcome
run_comes remarks o course report lines texts =
    printed_first report.pending.items
    (outcome_on o course report.last.items (lines_behind remarks lines texts))

-- nothing is printed
abbrev pub IsSilent : Report → Type 0
IsSilent report = (report.pending.items ≡ []) × (report.last.items ≡ [])

-- so many lines made this stage and this report, and what lines behind them come to is this
abbrev pub StageLeads : Bool → Config → ℕ → Report → Stage → (List (List ℕ) → RunOutcome) → Type 0
StageLeads explains config lines report Untold comes = (lines ≡ 0) × IsSilent report
    × ((texts : List (List ℕ)) → comes texts ≡ outcome_of_texts explains config texts)
StageLeads explains config lines report (InFront remarks front) comes = IsSilent report
    × ((texts : List (List ℕ)) → comes texts ≡ front_comes explains remarks front lines texts)
StageLeads explains config lines report (Runs remarks run) comes =
    (o : Origin) × (course : Course) × PhaseRunsOn run o course
    × ((texts : List (List ℕ)) → comes texts ≡ run_comes remarks o course report lines texts)
StageLeads explains config lines report (Ended status) comes =
    (texts : List (List ℕ)) → comes texts ≡ printed_first report.pending.items (ends status)

-- a line of this number is done on what runs, which stays
abbrev pub TurnsInPlace : Stage → ℕ → List ℕ → Report → Turn → Stage → Report → Type 0
TurnsInPlace old number text before turn new after = (remarks : Bool) × (run : Phase)
    × (later : Phase) × (old ≡ Runs remarks run) × (new ≡ Runs remarks later)
    × ((o : Origin) (course : Course) → PhaseRunsOn run o course → Steps turn
    (step_or_skip remarks o course before.last.items (line_at number text)) later o before after)

-- a line of this number makes a stage of what runs, whatever lines come behind it
abbrev pub RunMakes : Bool → Phase → ℕ → List ℕ → Report → Stage → Report → Type 0
RunMakes remarks run number text before stage after = (explains : Bool) (config : Config)
    (o : Origin) (course : Course) (lines : ℕ) (comes : List (List ℕ) → RunOutcome)
    → number ≡ lines + 1 → PhaseRunsOn run o course
    → ((texts : List (List ℕ)) → comes texts
    ≡ run_comes remarks o course before lines (text ∷ texts))
    → StageLeads explains config number after stage comes

-- so does one behind lines in front
abbrev pub FrontMakes : Bool → Config → Bool → Front → ℕ → List ℕ → Report → Stage → Report → Type 0
FrontMakes explains config remarks front number text before stage after =
    (lines : ℕ) (comes : List (List ℕ) → RunOutcome) → number ≡ lines + 1 → IsSilent before
    → ((texts : List (List ℕ)) → comes texts
    ≡ front_comes explains remarks front lines (text ∷ texts))
    → StageLeads explains config number after stage comes

-- a line makes a stage of another
abbrev pub LineMakes : Bool → Config → Stage → ℕ → List ℕ → Report → Stage → Report → Type 0
LineMakes explains config old number text before stage after =
    (lines : ℕ) (comes : List (List ℕ) → RunOutcome) → number ≡ lines + 1
    → StageLeads explains config lines before old comes
    → StageLeads explains config number after stage (λ texts. comes (text ∷ texts))

-- these lines came
abbrev pub LinesCame : SteppedRun → Config → List (List ℕ) → Type 0
LinesCame run config came = StageLeads run.explains config run.lines run.report run.stage
    (λ texts. outcome_of_texts run.explains config (came ++ texts))

-- what runs stands
abbrev pub RunStands : SteppedRun → Type 0
RunStands run = StageStands run.stage

-- this script came, in whole lines, to a run with reasons or without
abbrev pub RanTo : SteppedRun → Bool → Config → List ℕ → Type 0
RanTo run explains config text = (run.explains ≡ explains) × RunStands run × WholeLines text
    × LinesCame run config (script_lines text)
