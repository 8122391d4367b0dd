-- How far a run of a script has come, within the program.
use Rattle.std.specs.Prelude.{◌≡◌, ℕ, Bool, false, if◌then◌else◌, List, [], ◌++◌, Option, None, Some, IfSome, Result, Ok, Err}
use Rattle.std.specs.Io.KnownBytes.{Appends}
use Rattle.sp_cells.specs.Config.{Config}
use Rattle.history.specs.Opening.{Origin}
use Rattle.script_lines.specs.declared.report.Report.{Report}
use Rattle.tool.specs.Scripts.{ScriptLine, bare, script_lines, kind_of_script, is_skipped, effective_lines, lines_from, without_remarks}
use Rattle.tool.specs.Ends.{exit_status}
use Rattle.drive_scripts.specs.Turns.{StepsBy}
use Rattle.tool.specs.Courses.{Course, Advance, PhaseRunsOn, course_step, start}
use Rattle.tool.specs.Outcomes.{RunOutcome, ends, printed_first, outcome_on, outcome_from, outcome_by}
use Rattle.tool.specs.declared.ending.End.{End}
use Rattle.tool.specs.declared.opening.OpeningPhase.{OpeningPhase}
use Rattle.tool.specs.declared.opening.OpeningPhase.TheVariants.{Factory}
use Rattle.tool.specs.declared.named_phase.NamedPhase.{NamedPhase}
use Rattle.tool.specs.declared.phase.Phase.{Phase}
use Rattle.tool.specs.declared.phase.Phase.TheVariants as phases
use Rattle.drive_scripts.specs.declared.turn.Turn.{Turn}
use Rattle.tool.specs.declared.head.Head.{Head}
use Rattle.tool.specs.declared.script.Opened.{Opened}
use Rattle.tool.specs.declared.script.Opened.TheVariants.{Ended, Runs}

-- what was pending is written as far as it is not pending still
abbrev pub HandsOn : Option (List ℕ) → Option (List ℕ) → List ℕ → List ℕ → Type 0
HandsOn before after pending left =
    (bytes : List ℕ) × Appends before after bytes × (pending ≡ bytes ++ left)

-- of all that is to come a rest is still to come; what comes before it is written or pending,
-- behind what was pending before
pub record LeadsTo (whole rest : RunOutcome) (before after : Option (List ℕ))
    (pending left : List ℕ) : Type 0 where
  pub earlier : List ℕ
  pub comes : whole ≡ printed_first earlier rest
  pub written : HandsOn before after (pending ++ earlier) left

-- the same, by what two reports have pending
abbrev pub Leads : RunOutcome → RunOutcome → Option (List ℕ) → Option (List ℕ) → Report → Report
    → Type 0
Leads whole rest before after old new =
    LeadsTo whole rest before after old.pending.items new.pending.items

-- the line at hand, behind so many others, and those that are left come to this end, whatever origin
-- and course left the drive or the port so
abbrev pub RunLeads : Head → Phase → List ℕ → Option (List ℕ) → End → Report → Report
    → Option (List ℕ) → Option (List ℕ) → Type 0
RunLeads head run line left end old new before after =
    (o : Origin) (course : Course) → PhaseRunsOn run o course
    → IfSome left
    (λ text. Leads
    (outcome_on o course old.last.items (lines_from head.remarks head.lines line text))
    (ends (exit_status end)) before after old new)

-- a whole script comes to this end, with reasons or without
abbrev pub ScriptLeads : Bool → Config → Option (List ℕ) → End → Report → Report → Option (List ℕ)
    → Option (List ℕ) → Type 0
ScriptLeads explains config left end old new before after =
    IfSome left
    (λ text. Leads (outcome_by explains config text) (ends (exit_status end)) before after old new)

-- a turn on a drive whose lines may write calls by name is what the line does, or the status that it
-- ends the run with
abbrev pub NamedSteps : Turn → Result Advance ℕ → NamedPhase → Origin → Report → Report → Type 0
NamedSteps turn result new o before after =
    StepsBy Course (λ course. PhaseRunsOn (phases.Named new) o course) turn result before after

-- a turn is what the line does, or the status that it ends the run with
abbrev pub Steps : Turn → Result Advance ℕ → Phase → Origin → Report → Report → Type 0
Steps turn result new o before after =
    StepsBy Course (PhaseRunsOn new o) turn result before after

-- what a line makes of the course of a script: one that is skipped changes nothing
abbrev pub step_or_skip : Bool → Origin → Course → List ℕ → ScriptLine → Result Advance ℕ
step_or_skip remarks o course last line =
    if is_skipped remarks line.text then Ok (record { course = course; lines = []; reasons = [] })
    else course_step o course last line

-- what the range lines in front leave to come
abbrev pub OpensTo : Head → Opened → RunOutcome → List ℕ → Option (List ℕ) → Type 0
OpensTo head (Ended end) whole line left = whole ≡ ends (exit_status end)
OpensTo head (Runs run count) whole line left =
    (o : Origin) × (text : List ℕ) × PhaseRunsOn run o (start head.explains head.kind)
    × (left ≡ Some text)
    × (whole
    ≡ outcome_on o (start head.explains head.kind) [] (lines_from head.remarks count line text))

-- where the line at hand is in front of this text
abbrev pub LinesOpenTo : Head → Opened → OpeningPhase → List ℕ → Option (List ℕ) → List ℕ
    → Option (List ℕ) → Type 0
LinesOpenTo head opened phase first before line left =
    IfSome before
    (λ text. OpensTo head opened
    (outcome_from head.explains head.kind phase
    (lines_from head.remarks head.lines first text)) line left)

-- all of these lines are skipped, or the line at hand, behind so many others, is the first that is
-- not
abbrev pub SkipsTo : Bool → Option ℕ → List ScriptLine → List ℕ → Option (List ℕ) → Type 0
SkipsTo remarks None lines line left = without_remarks remarks lines ≡ []
SkipsTo remarks (Some count) lines line left =
    (text : List ℕ) × (left ≡ Some text) × (is_skipped remarks (bare line) ≡ false)
    × (without_remarks remarks lines ≡ lines_from remarks count line text)

-- a script has no line that is not skipped, or the line at hand is the first of these
abbrev pub BeginsScript : Bool → Option Head → List ℕ → List ℕ → Option (List ℕ) → Type 0
BeginsScript explains None text line left = effective_lines (script_lines text) ≡ []
BeginsScript explains (Some head) text line left =
    (rest : List ℕ) × (left ≡ Some rest) × (is_skipped head.remarks (bare line) ≡ false)
    × (head.kind ≡ kind_of_script (script_lines text)) × (head.explains ≡ explains)
    × (effective_lines (script_lines text) ≡ lines_from head.remarks head.lines line rest)

-- there is no line, or the line at hand is the first of a script on a drive or of a port script
abbrev pub FirstLine : Bool → Option Head → List ℕ → List ℕ → Option (List ℕ) → Type 0
FirstLine explains None text line left =
    (config : Config) → outcome_by explains config text ≡ ends 0
FirstLine explains (Some head) text line left =
    (rest : List ℕ) × (left ≡ Some rest)
    × ((config : Config) → outcome_by explains config text
    ≡ outcome_from head.explains head.kind (Factory config)
    (lines_from head.remarks head.lines line rest))
