-- A run of a script whose lines come piece by piece.
use Rattle.std.proofs.Common.{◌≡◌, ◌∙◌, ℕ, ◌+◌, Bool, true, false, List, [], ◌∷◌, ◌++◌, refl, sym, ap, subst, append_assoc, append-nil, Option, None, Some, Result, Ok, Err}
use Rattle.std.proofs.lemmas.Bool.{false≢true}
use Rattle.std.specs.Prelude.{if◌then◌else◌}
use Rattle.sp_cells.specs.Config.{Config}
use Rattle.history.specs.Opening.{Origin}
use Rattle.script_lines.specs.Texts.{last_of}
use Rattle.script_lines.specs.declared.report.Report.{Report}
use Rattle.drive_scripts.specs.declared.turn.Turn.{Turn}
use Rattle.drive_scripts.specs.declared.turn.Turn.TheVariants as turns
use Rattle.tool.specs.Scripts.{ScriptLine, lines_of_text, script_lines, with_numbers, without_remarks, is_skipped, may_hold_remarks, drive_kind}
use Rattle.tool.specs.Courses.{Course, Advance, PhaseRunsOn, PhaseStands, course_step, start}
use Rattle.tool.specs.Outcomes.{RunOutcome, ends, printed_first, printed_by, onward, outcome_on, outcome_by}
use Rattle.tool.specs.Progress.{Steps, step_or_skip}
use Rattle.tool.specs.declared.opening.OpeningPhase.TheVariants.{Factory}
use Rattle.tool.specs.declared.phase.Phase.{Phase}
use Rattle.runs.specs.Recordings.{recording_from, recording_of_lines, stops}
use Rattle.runs.specs.Progress.{TurnsSo, front_recording, line_at}
use Rattle.runs.specs.Stepped.{WholeLines, script_end, stage_with, stage_by, stage_behind, runs_at, TurnsInPlace, StageStands, outcome_of_texts, outcome_recorded, lines_behind, front_comes, run_comes, StageLeads, RunMakes, FrontMakes, LineMakes, LinesCame, RanTo, RunStands}
use Rattle.runs.specs.declared.recorded.front.Front.{Front}
use Rattle.runs.specs.declared.recorded.front.Front.TheVariants as fronts
use Rattle.runs.specs.declared.recorded.front.FrontTurn.TheVariants as front_turns
use Rattle.runs.specs.declared.recorded.stepped.Stage.{Stage}
use Rattle.runs.specs.declared.recorded.stepped.Stage.TheVariants.{Untold, InFront, Runs, Ended}
use Rattle.runs.specs.declared.recorded.stepped.SteppedRun.{SteppedRun}
use Rattle.runs.proofs.WholeTexts.{none-whole, both-whole}
use Rattle.runs.proofs.recorded.Outcomes.{on-so, lines-so}

-- a line that is skipped, or done, with what comes behind it
by-skip : (skipped : Bool) (o : Origin) (course : Course) (last : List ℕ) (line : ScriptLine) (lines : List ScriptLine)
    → outcome_on o course last (if skipped then lines else line ∷ lines)
    ≡ onward (λ made. outcome_on o made.course (last_of last made.lines) lines)
    (if skipped then Ok (record { course = course; lines = []; reasons = [] }) else course_step o course last line)
unfolding outcome_on
by-skip true o course last line lines = refl
by-skip false o course last line lines = refl

outcome-first : (remarks : Bool) (o : Origin) (course : Course) (last : List ℕ) (line : ScriptLine) (lines : List ScriptLine)
    → outcome_on o course last (without_remarks remarks (line ∷ lines))
    ≡ onward (λ made. outcome_on o made.course (last_of last made.lines) (without_remarks remarks lines))
    (step_or_skip remarks o course last line)
unfolding without_remarks
outcome-first remarks o course last line lines =
    by-skip (is_skipped remarks line.text) o course last line (without_remarks remarks lines)

-- what comes behind the line, by its step
abbrev behind : Bool → Origin → List ℕ → ℕ → List (List ℕ) → Advance → RunOutcome
behind remarks o last number texts made = outcome_on o made.course (last_of last made.lines) (lines_behind remarks number texts)

first-comes : (remarks : Bool) (o : Origin) (course : Course) (report : Report) (lines number : ℕ) (text : List ℕ) (texts : List (List ℕ))
    → number ≡ lines + 1
    → run_comes remarks o course report lines (text ∷ texts)
    ≡ printed_first report.pending.items
    (onward (behind remarks o report.last.items number texts) (step_or_skip remarks o course report.last.items (line_at number text)))
unfolding with_numbers
first-comes remarks o course report lines number text texts is =
    ap (λ n. printed_first report.pending.items (outcome_on o course report.last.items (without_remarks remarks (line_at n text ∷ with_numbers n texts)))) (sym is)
    ∙ ap (printed_first report.pending.items)
    (outcome-first remarks o course report.last.items (line_at number text) (with_numbers number texts))

of-text : ℕ → List ℕ → RunOutcome
of-text status text = record { text = text; status = status }

printed-twice : (earlier text : List ℕ) (later : RunOutcome) → printed_first earlier (printed_first text later) ≡ printed_first (earlier ++ text) later
unfolding of-text
printed-twice earlier text later = ap (of-text later.status) (sym (append_assoc earlier text later.text))

-- what a turn makes, by what its step is
by-step : (turn : Turn) (result : Result Advance ℕ) (remarks : Bool) (new : Phase) (o : Origin) (number : ℕ) (before after : Report)
    (explains : Bool) (config : Config) (comes : List (List ℕ) → RunOutcome)
    → Steps turn result new o before after
    → ((texts : List (List ℕ)) → comes texts
    ≡ printed_first before.pending.items (onward (behind remarks o before.last.items number texts) result))
    → StageLeads explains config number after (stage_behind turn remarks new) comes
by-step (turns.Goes aborted) (Ok made) remarks new o number before after explains config comes steps is = (
  o,
  made.course,
  steps.runs,
  λ texts. is texts
      ∙ printed-twice before.pending.items (printed_by made) (behind remarks o before.last.items number texts made)
      ∙ ap (λ text. printed_first text (behind remarks o before.last.items number texts made)) (sym steps.tells.pending)
      ∙ ap (λ last. printed_first after.pending.items (outcome_on o made.course last (lines_behind remarks number texts))) (sym steps.tells.last),
)
by-step (turns.Goes aborted) (Err status) remarks new o number before after explains config comes steps is = absurd steps
by-step turns.ExpectationFailed (Ok made) remarks new o number before after explains config comes steps is = absurd steps
by-step turns.ExpectationFailed (Err status) remarks new o number before after explains config comes steps is = λ texts.
    is texts ∙ ap (λ s. printed_first before.pending.items (ends s)) steps.0
    ∙ ap (λ (report : Report). printed_first report.pending.items (ends 1)) (sym steps.1)
by-step (turns.Bad fault) (Ok made) remarks new o number before after explains config comes steps is = absurd steps
by-step (turns.Bad fault) (Err status) remarks new o number before after explains config comes steps is = λ texts.
    is texts ∙ ap (λ s. printed_first before.pending.items (ends s)) steps.0
    ∙ ap (λ (report : Report). printed_first report.pending.items (ends 2)) (sym steps.1)

pub run-makes : (turn : Turn) (remarks : Bool) (old new : Phase) (number : ℕ) (text : List ℕ) (before after : Report)
    → ((o : Origin) (course : Course) → PhaseRunsOn old o course
    → Steps turn (step_or_skip remarks o course before.last.items (line_at number text)) new o before after)
    → RunMakes remarks old number text before (stage_behind turn remarks new) after
run-makes turn remarks old new number text before after steps explains config o course lines comes next runs is =
    by-step turn (step_or_skip remarks o course before.last.items (line_at number text)) remarks new o number before after explains config comes
    (steps o course runs) (λ texts. is texts ∙ first-comes remarks o course before lines number text texts next)

-- behind a turn that goes on what runs stands again
stands-by : (turn : Turn) (result : Result Advance ℕ) (remarks : Bool) (new : Phase) (o : Origin) (before after : Report)
    → Steps turn result new o before after → StageStands (stage_behind turn remarks new)
stands-by (turns.Goes aborted) (Ok made) remarks new o before after steps = (o, made.course, steps.runs)
stands-by (turns.Goes aborted) (Err status) remarks new o before after steps = absurd steps
stands-by turns.ExpectationFailed result remarks new o before after steps = tt
stands-by (turns.Bad fault) result remarks new o before after steps = tt

pub run-stands : (turn : Turn) (remarks : Bool) (old new : Phase) (number : ℕ) (text : List ℕ) (before after : Report)
    → PhaseStands old
    → ((o : Origin) (course : Course) → PhaseRunsOn old o course
    → Steps turn (step_or_skip remarks o course before.last.items (line_at number text)) new o before after)
    → StageStands (stage_behind turn remarks new)
run-stands turn remarks old new number text before after (o, course, runs) steps =
    stands-by turn (step_or_skip remarks o course before.last.items (line_at number text)) remarks new o before after (steps o course runs)

-- lines in front
pub goes-makes : (explains : Bool) (config : Config) (remarks : Bool) (front next : Front) (number : ℕ) (text : List ℕ) (report : Report)
    → TurnsSo explains remarks front text (front_turns.Goes next)
    → FrontMakes explains config remarks front number text report (InFront remarks next) report
unfolding with_numbers
goes-makes explains config remarks front next number text report so = λ lines comes is silent leads. (
  silent,
  λ texts. leads texts
      ∙ ap (λ n. outcome_recorded (front_recording explains front (without_remarks remarks (line_at n text ∷ with_numbers n texts)))) (sym is)
      ∙ ap outcome_recorded (so number (with_numbers number texts)),
)

pub bad-makes : (explains : Bool) (config : Config) (remarks : Bool) (front : Front) (number : ℕ) (text : List ℕ) (report : Report)
    → ((number : ℕ) (lines : List ScriptLine)
    → front_recording explains front (without_remarks remarks (line_at number text ∷ lines)) ≡ stops 2)
    → FrontMakes explains config remarks front number text report (Ended 2) report
unfolding with_numbers
bad-makes explains config remarks front number text report so = λ lines comes is silent leads. λ texts.
    leads texts ∙ ap outcome_recorded (so (lines + 1) (with_numbers (lines + 1) texts))
    ∙ ap (λ pending. printed_first pending (ends 2)) (sym silent.0)

pub front-stands : (explains remarks : Bool) (front : Front) (text : List ℕ) (run : Phase)
    → TurnsSo explains remarks front text (front_turns.Runs run) → PhaseStands run
front-stands explains remarks front text run (o, kind, runs, so) = (o, start explains kind, runs)

pub runs-makes : (explains : Bool) (config : Config) (remarks : Bool) (front : Front) (run : Phase) (number : ℕ) (text : List ℕ)
    (before after : Report) (stage : Stage)
    → TurnsSo explains remarks front text (front_turns.Runs run)
    → RunMakes remarks run number text before stage after
    → FrontMakes explains config remarks front number text before stage after
unfolding with_numbers
runs-makes explains config remarks front run number text before after stage (o, kind, runs, so) makes = λ lines comes is silent leads.
    makes explains config o (start explains kind) lines comes is runs
    (λ texts.
    let these = without_remarks remarks (line_at (lines + 1) text ∷ with_numbers (lines + 1) texts) in
    leads texts ∙ ap outcome_recorded (so (lines + 1) (with_numbers (lines + 1) texts))
    ∙ sym (on-so o (start explains kind) [] these)
    ∙ ap (λ last. printed_first [] (outcome_on o (start explains kind) last these)) (sym silent.1)
    ∙ ap (λ pending. printed_first pending (outcome_on o (start explains kind) before.last.items these)) (sym silent.0))

-- the first line
first-so : (explains : Bool) (config : Config) (remarks : Bool) (front : Front) (lines : ℕ) (text : List ℕ) (texts : List (List ℕ))
    → remarks ≡ may_hold_remarks text → front ≡ fronts.Bare (drive_kind remarks) (Factory config) → lines ≡ 0
    → outcome_of_texts explains config (text ∷ texts) ≡ front_comes explains remarks front lines (text ∷ texts)
first-so explains config remarks front lines text texts may bare none =
    lines-so explains (drive_kind (may_hold_remarks text)) config (without_remarks (may_hold_remarks text) (with_numbers 0 (text ∷ texts)))
    ∙ ap (λ (r : Bool). outcome_recorded (recording_of_lines explains (drive_kind r) (Factory config) (without_remarks r (with_numbers 0 (text ∷ texts))))) (sym may)
    ∙ ap (λ n. outcome_recorded (recording_of_lines explains (drive_kind remarks) (Factory config) (without_remarks remarks (with_numbers n (text ∷ texts))))) (sym none)
    ∙ ap (λ front. front_comes explains remarks front lines (text ∷ texts)) (sym bare)

pub untold-makes : (explains : Bool) (config : Config) (remarks : Bool) (front : Front) (number : ℕ) (text : List ℕ) (before after : Report) (stage : Stage)
    → remarks ≡ may_hold_remarks text → front ≡ fronts.Bare (drive_kind remarks) (Factory config)
    → FrontMakes explains config remarks front number text before stage after
    → LineMakes explains config Untold number text before stage after
untold-makes explains config remarks front number text before after stage may bare makes = λ lines comes is leads.
    makes lines (λ texts. comes (text ∷ texts)) is leads.1
    (λ texts. leads.2 (text ∷ texts) ∙ first-so explains config remarks front lines text texts may bare leads.0)

pub front-makes : (explains : Bool) (config : Config) (remarks : Bool) (front : Front) (number : ℕ) (text : List ℕ) (before after : Report) (stage : Stage)
    → FrontMakes explains config remarks front number text before stage after
    → LineMakes explains config (InFront remarks front) number text before stage after
front-makes explains config remarks front number text before after stage makes = λ lines comes is leads.
    makes lines (λ texts. comes (text ∷ texts)) is leads.0 (λ texts. leads.1 (text ∷ texts))

pub running-makes : (explains : Bool) (config : Config) (remarks : Bool) (run : Phase) (number : ℕ) (text : List ℕ) (before after : Report) (stage : Stage)
    → RunMakes remarks run number text before stage after
    → LineMakes explains config (Runs remarks run) number text before stage after
running-makes explains config remarks run number text before after stage makes = λ lines comes is leads.
    makes explains config leads.0 leads.1 lines (λ texts. comes (text ∷ texts)) is leads.2 (λ texts. leads.3 (text ∷ texts))

pub ended-makes : (explains : Bool) (config : Config) (status number : ℕ) (text : List ℕ) (report : Report)
    → LineMakes explains config (Ended status) number text report (Ended status) report
ended-makes explains config status number text report = λ lines comes is leads. λ texts. leads (text ∷ texts)

-- where nothing runs, and no line may stand in front any more, the script has ended
pub kept-makes : (explains : Bool) (config : Config) (stage : Stage) (number : ℕ) (text : List ℕ) (report : Report) → runs_at stage ≡ false
    → (stage ≡ Untold → ⊥) → ((remarks : Bool) (front : Front) → stage ≡ InFront remarks front → ⊥)
    → LineMakes explains config stage number text report stage report
kept-makes explains config Untold number text report waits told none = absurd (told refl)
kept-makes explains config (InFront remarks front) number text report waits told none = absurd (none remarks front refl)
kept-makes explains config (Runs remarks run) number text report waits told none = absurd (false≢true (sym waits))
kept-makes explains config (Ended status) number text report waits told none = ended-makes explains config status number text report

-- a turn that was made in place
stage-so : (end : Option ℕ) (remarks : Bool) (run : Phase) → stage_with end remarks run ≡ stage_by end (Runs remarks run)
stage-so None remarks run = refl
stage-so (Some status) remarks run = refl

pub placed-makes : (explains : Bool) (config : Config) (turn : Turn) (old new next : Stage) (number : ℕ) (text : List ℕ) (before after : Report)
    → TurnsInPlace old number text before turn new after → next ≡ stage_by (script_end turn) new
    → LineMakes explains config old number text before next after
placed-makes explains config turn old new next number text before after (remarks, run, later, is_old, is_new, steps) is =
    let so : stage_behind turn remarks later ≡ next =
    stage-so (script_end turn) remarks later ∙ sym (ap (stage_by (script_end turn)) is_new) ∙ sym is in
    subst (λ stage. LineMakes explains config stage number text before next after) (sym is_old)
    (running-makes explains config remarks run number text before after next
    (subst (λ stage. RunMakes remarks run number text before stage after) so
    (run-makes turn remarks run later number text before after steps)))

pub placed-stands : (turn : Turn) (old new next : Stage) (number : ℕ) (text : List ℕ) (before after : Report) → StageStands old
    → TurnsInPlace old number text before turn new after → next ≡ stage_by (script_end turn) new → StageStands next
placed-stands turn old new next number text before after stands (remarks, run, later, is_old, is_new, steps) is =
    let so : stage_behind turn remarks later ≡ next =
    stage-so (script_end turn) remarks later ∙ sym (ap (stage_by (script_end turn)) is_new) ∙ sym is in
    subst StageStands so
    (run-stands turn remarks run later number text before after (subst StageStands is_old stands) steps)

-- what comes may be told in other words
leads-same : (explains : Bool) (config : Config) (lines : ℕ) (report : Report) (stage : Stage) (comes same : List (List ℕ) → RunOutcome)
    → ((texts : List (List ℕ)) → same texts ≡ comes texts)
    → StageLeads explains config lines report stage comes → StageLeads explains config lines report stage same
leads-same explains config lines report Untold comes same is leads = (leads.0, leads.1, λ texts. is texts ∙ leads.2 texts)
leads-same explains config lines report (InFront remarks front) comes same is leads = (leads.0, λ texts. is texts ∙ leads.1 texts)
leads-same explains config lines report (Runs remarks run) comes same is leads = (leads.0, leads.1, leads.2, λ texts. is texts ∙ leads.3 texts)
leads-same explains config lines report (Ended status) comes same is leads = λ texts. is texts ∙ leads texts

-- one line more came
pub one-came : (explains : Bool) (config : Config) (lines number : ℕ) (text : List ℕ) (came : List (List ℕ)) (before after : Report) (old next : Stage)
    → number ≡ lines + 1 → LineMakes explains config old number text before next after
    → StageLeads explains config lines before old (λ texts. outcome_of_texts explains config (came ++ texts))
    → StageLeads explains config number after next (λ texts. outcome_of_texts explains config ((came ++ text ∷ []) ++ texts))
one-came explains config lines number text came before after old next is makes leads =
    leads-same explains config number after next (λ texts. outcome_of_texts explains config (came ++ text ∷ texts)) _
    (λ texts. ap (outcome_of_texts explains config) (append_assoc came (text ∷ []) texts))
    (makes lines (λ texts. outcome_of_texts explains config (came ++ texts)) is leads)

-- the lines that a run has done, and those that are left
abbrev pub CameSo : SteppedRun → SteppedRun → Config → List (List ℕ) → List (List ℕ) → Type 0
CameSo old new config left lines = (came : List (List ℕ)) → LinesCame old config came
    → (now : List (List ℕ)) × LinesCame new config now × (now ++ left ≡ came ++ lines)

pub none-came : (run : SteppedRun) (config : Config) (lines : List (List ℕ)) → CameSo run run config lines lines
none-came run config lines = λ came leads. (came, leads, refl)

pub next-came : (old run new : SteppedRun) (config : Config) (left rest whole : List (List ℕ)) (text : List ℕ) → left ≡ text ∷ rest
    → ((came : List (List ℕ)) → LinesCame run config came → LinesCame new config (came ++ text ∷ []))
    → CameSo old run config left whole → CameSo old new config rest whole
next-came old run new config left rest whole text is makes kept = λ came leads.
    let (now, comes, same) = kept came leads in (
      now ++ text ∷ [],
      makes now comes,
      append_assoc now (text ∷ []) rest ∙ ap (λ ls. now ++ ls) (sym is) ∙ same,
    )

pub all-came : (old new : SteppedRun) (config : Config) (text : List ℕ) (left : List (List ℕ)) → WholeLines text → left ≡ []
    → new.explains ≡ old.explains → RunStands new → CameSo old new config left (script_lines text)
    → (explains : Bool) (before : List ℕ) → RanTo old explains config before → RanTo new explains config (before ++ text)
all-came old new config text left whole none same stands kept = λ explains before ran.
    let (now, comes, is) = kept (script_lines before) ran.3 in
    let all : now ≡ script_lines (before ++ text) =
    sym (append-nil now) ∙ ap (λ ls. now ++ ls) (sym none) ∙ is ∙ sym (ran.2 text) in (
      same ∙ ran.0,
      stands,
      both-whole before text ran.2 whole,
      subst (LinesCame new config) all comes,
    )

-- what was printed, and the status where no line comes
abbrev pub status_at : Stage → ℕ
status_at Untold = 0
status_at (InFront remarks front) = 0
status_at (Runs remarks run) = 0
status_at (Ended status) = status

pub no-end : (stage : Stage) → ((status : ℕ) → stage ≡ Ended status → ⊥) → status_at stage ≡ 0
no-end Untold none = refl
no-end (InFront remarks front) none = refl
no-end (Runs remarks run) none = refl
no-end (Ended status) none = absurd (none status refl)

no-lines : (explains : Bool) (front : Front) → front_recording explains front [] ≡ stops 0
unfolding recording_from
no-lines explains (fronts.Bare kind phase) = refl
no-lines explains (fronts.Told kind phase) = refl

comes-to : (explains : Bool) (config : Config) (lines : ℕ) (report : Report) (stage : Stage) (comes : List (List ℕ) → RunOutcome)
    → StageLeads explains config lines report stage comes
    → comes [] ≡ printed_first report.pending.items (ends (status_at stage))
unfolding outcome_on without_remarks with_numbers
comes-to explains config lines report Untold comes leads =
    leads.2 [] ∙ ap (λ pending. printed_first pending (ends 0)) (sym leads.1.0)
comes-to explains config lines report (InFront remarks front) comes leads =
    leads.1 [] ∙ ap outcome_recorded (no-lines explains front) ∙ ap (λ pending. printed_first pending (ends 0)) (sym leads.0.0)
comes-to explains config lines report (Runs remarks run) comes leads = leads.3 []
comes-to explains config lines report (Ended status) comes leads = leads []

outcome-came : (run : SteppedRun) (explains : Bool) (config : Config) (text : List ℕ) → RanTo run explains config text
    → outcome_by explains config text ≡ printed_first run.report.pending.items (ends (status_at run.stage))
outcome-came run explains config text ran =
    ap (λ (e : Bool). outcome_of_texts e config (script_lines text)) (sym ran.0)
    ∙ ap (outcome_of_texts run.explains config) (sym (append-nil (script_lines text)))
    ∙ comes-to run.explains config run.lines run.report run.stage (λ texts. outcome_of_texts run.explains config (script_lines text ++ texts)) ran.3

pub printed-came : (run : SteppedRun) (explains : Bool) (config : Config) (text : List ℕ) → RanTo run explains config text
    → run.report.pending.items ≡ (outcome_by explains config text).text
printed-came run explains config text ran =
    sym (append-nil run.report.pending.items)
    ∙ ap (λ (outcome : RunOutcome). outcome.text) (sym (outcome-came run explains config text ran))

pub status-came : (run : SteppedRun) (explains : Bool) (config : Config) (text : List ℕ) → RanTo run explains config text
    → status_at run.stage ≡ (outcome_by explains config text).status
status-came run explains config text ran =
    ap (λ (outcome : RunOutcome). outcome.status) (sym (outcome-came run explains config text ran))

-- no line came
pub untold : (explains : Bool) (config : Config) (report : Report) → report.pending.items ≡ [] → report.last.items ≡ []
    → WholeLines [] × StageLeads explains config 0 report Untold (λ texts. outcome_of_texts explains config (script_lines [] ++ texts))
unfolding lines_of_text
untold explains config report pending last = (none-whole, (refl, (pending, last), λ texts. refl))
