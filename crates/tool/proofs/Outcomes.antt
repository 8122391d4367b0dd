-- How a run of a script comes to its outcome.
use Rattle.std.proofs.Common.{◌≡◌, ◌∙◌, ℕ, ◌+◌, Bool, true, false, List, [], ◌∷◌, ◌++◌, refl, sym, ap, subst, append_assoc, append-nil, Option, Some, None, IfSome, Result, Ok, Err, IfOk, inl, inr}
use Rattle.std.specs.Prelude.{◌⊎◌, if◌then◌else◌}
use Rattle.std.specs.Io.BufRead.{drop_through}
use Rattle.std.specs.Io.KnownBytes.{Appends}
use Rattle.std.proofs.KnownBytes.{Appends-nil, Appends-trans}
use Rattle.sp_cells.specs.Config.{Config}
use Rattle.locking.specs.declared.range.RangeRow.{RangeRow}
use Rattle.history.specs.Opening.{Origin}
use Rattle.script_lines.specs.PortLines.{is_port_line}
use Rattle.script_lines.specs.Texts.{last_of}
use Rattle.script_lines.specs.declared.fault.LineFault.{LineFault}
use Rattle.script_lines.specs.declared.report.Report.{Report}
use Rattle.tool.specs.Scripts.{ScriptLine, with_numbers, bare, lines_of_text, script_lines, may_hold_remarks, drive_kind, kind_of_script, is_skipped, without_remarks, effective_lines, lines_from, TakesLine}
use Rattle.tool.specs.Courses.{Course, Advance, Advances, PhaseRunsOn, PhaseStands, course_step, start}
use Rattle.tool.specs.Openings.{origin_of, base_of, row_said, OpensBy}
use Rattle.tool.specs.Ends.{exit_status}
use Rattle.tool.specs.Outcomes.{RunOutcome, ends, printed_first, onward, outcome_on, set_then, opened_by, opened, outcome_from, outcome_of_lines, outcome_by, printed_by, Yields}
use Rattle.tool.specs.Progress.{HandsOn, LeadsTo, Steps, step_or_skip, OpensTo, LinesOpenTo, SkipsTo, BeginsScript, FirstLine}
use Rattle.tool.specs.declared.ending.End.{End}
use Rattle.drive_scripts.specs.declared.turn.Fault.{Fault}
use Rattle.drive_scripts.specs.declared.turn.Fault.TheVariants as faults
use Rattle.tool.specs.declared.ending.RunError.{RunError}
use Rattle.tool.specs.declared.opening.OpeningPhase.{OpeningPhase}
use Rattle.tool.specs.declared.opening.OpeningPhase.TheVariants.{Factory}
use Rattle.tool.specs.declared.opening.OpeningTurn.{OpeningTurn}
use Rattle.tool.specs.declared.opening.OpeningTurn.TheVariants as openings
use Rattle.tool.specs.declared.phase.Phase.{Phase}
use Rattle.drive_scripts.specs.declared.turn.Turn.{Turn}
use Rattle.tool.specs.declared.head.Head.{Head}
use Rattle.tool.specs.declared.head.ScriptKind.{ScriptKind}
use Rattle.tool.specs.declared.head.ScriptKind.TheVariants as kinds
use Rattle.tool.specs.declared.script.Opened.{Opened}
use Rattle.drive_scripts.specs.declared.turn.Turn.TheVariants as turns
use Rattle.tool.proofs.SkippedLines.{skips-first, keeps-first}
use Rattle.tool.proofs.Texts.{taken}

-- what a turn says of its step
failed-so : (result : Result Advance ℕ) (new : Phase) (o : Origin) (before after : Report)
    → Steps turns.ExpectationFailed result new o before after
    → (result ≡ Err 1) × (after ≡ before)
failed-so (Ok effect) new o before after is = absurd is
failed-so (Err status) new o before after is = (ap Err is.0, is.1)

bad-so : (result : Result Advance ℕ) (fault : Fault) (new : Phase) (o : Origin)
    (before after : Report) → Steps (turns.Bad fault) result new o before after
    → (result ≡ Err 2) × (after ≡ before)
bad-so (Ok effect) fault new o before after is = absurd is
bad-so (Err status) fault new o before after is = (ap Err is.0, is.1)

gone-so : (result : Result Advance ℕ) (aborted : Bool) (new : Phase) (o : Origin)
    (before after : Report) → Steps (turns.Goes aborted) result new o before after
    → (effect : Advance) × (result ≡ Ok effect) × Advances new o before after effect
gone-so (Ok effect) aborted new o before after has = (effect, refl, has)
gone-so (Err status) aborted new o before after has = absurd has

-- behind a turn that goes on what runs is again as an origin and a course leave it
pub stands-so : (remarks : Bool) (turn : Turn) (aborted : Bool) (old new : Phase) (last : List ℕ)
    (line : ScriptLine) (before after : Report) → turn ≡ turns.Goes aborted → PhaseStands old
    → ((o : Origin) (course : Course) → PhaseRunsOn old o course
    → Steps turn (step_or_skip remarks o course last line) new o before after) → PhaseStands new
stands-so remarks turn aborted old new last line before after is (o, course, runs) steps =
    let gone =
    gone-so (step_or_skip remarks o course last line) aborted new o before after
    (subst (λ turn. Steps turn (step_or_skip remarks o course last line) new o before after) is
    (steps o course runs)) in
    (o, gone.0.course, gone.2.runs)

-- what is still to come

pub all-to-come : (whole : RunOutcome) (bytes : Option (List ℕ)) (pending : List ℕ)
    → LeadsTo whole whole bytes bytes pending pending
all-to-come whole bytes pending = record {
  earlier = [];
  comes = refl;
  written = ([], Appends-nil bytes, append-nil pending);
}

of-text : ℕ → List ℕ → RunOutcome
of-text status text = record { text = text; status = status }

-- more is printed
printed-more : (whole rest later : RunOutcome) (old now : Option (List ℕ))
    (pending before after text : List ℕ)
    → LeadsTo whole rest old now pending before → rest ≡ printed_first text later
    → after ≡ before ++ text → LeadsTo whole later old now pending after
unfolding of-text
printed-more whole rest later old now pending before after text leads is prints = record {
  earlier = leads.earlier ++ text;
  comes = leads.comes ∙ ap (printed_first leads.earlier) is
      ∙ ap (of-text later.status)
      (sym (append_assoc leads.earlier text later.text));
  written = (
    leads.written.0,
    leads.written.1,
    sym (append_assoc pending leads.earlier text)
        ∙ ap (λ all. all ++ text) leads.written.2
        ∙ append_assoc leads.written.0 before text
        ∙ ap (λ all. leads.written.0 ++ all) (sym prints),
  );
}

-- some of what is pending is written
pub written-more : (whole rest : RunOutcome) (old now new : Option (List ℕ))
    (pending before after : List ℕ) → LeadsTo whole rest old now pending before
    → HandsOn now new before after → LeadsTo whole rest old new pending after
written-more whole rest old now new pending before after leads hands = record {
  earlier = leads.earlier;
  comes = leads.comes;
  written = (
    leads.written.0 ++ hands.0,
    Appends-trans old now new leads.written.0 hands.0 leads.written.1 hands.1,
    leads.written.2 ∙ ap (λ all. leads.written.0 ++ all) hands.2
        ∙ sym (append_assoc leads.written.0 hands.0 after),
  );
}

-- nothing more is to come, and what is pending is written
pub all-written : (whole : RunOutcome) (status : ℕ) (old now new : Option (List ℕ))
    (pending : List ℕ) → LeadsTo whole (ends status) old now [] pending
    → Appends now new pending → Yields whole status old new
all-written whole status old now new pending leads appends = (
  sym (ap (λ (outcome : RunOutcome). outcome.status) leads.comes),
  subst (Appends old new)
      (sym leads.written.2
      ∙ sym (append-nil leads.earlier) ∙ sym (ap (λ (outcome : RunOutcome). outcome.text) leads.comes))
      (Appends-trans old now new leads.written.0 pending leads.written.1 appends),
)

-- lines on a drive

-- a line is at hand, behind so many others: on a drive that stands so, this is how far the run has
-- come
abbrev pub AtHand : Bool → ℕ → RunOutcome → Origin → Phase → List ℕ → List ℕ → Option (List ℕ)
    → Option (List ℕ) → Option (List ℕ) → List ℕ → List ℕ → Type 0
AtHand remarks count whole o run last line left old now pending after =
    (course : Course) × (text : List ℕ) × PhaseRunsOn run o course × (left ≡ Some text)
    × LeadsTo whole (outcome_on o course last (lines_from remarks count line text)) old now pending after

-- so many lines are done
abbrev pub Behind : Bool → ℕ → RunOutcome → Origin → Phase → List ℕ → Option (List ℕ)
    → Option (List ℕ) → Option (List ℕ) → List ℕ → List ℕ → Type 0
Behind remarks count whole o run last left old now pending after =
    (course : Course) × (text : List ℕ) × PhaseRunsOn run o course × (left ≡ Some text)
    × LeadsTo whole
    (outcome_on o course last (without_remarks remarks (with_numbers count (script_lines text)))) old now
    pending after

pub at-first : (remarks : Bool) (count : ℕ) (left : Option (List ℕ)) (o : Origin) (course : Course) (run : Phase)
    (last line : List ℕ) (bytes : Option (List ℕ)) (pending : List ℕ) → PhaseRunsOn run o course
    → IfSome left
    (λ text. AtHand remarks count (outcome_on o course last (lines_from remarks count line text)) o run last line
    left bytes bytes pending pending)
at-first remarks count None o course run last line bytes pending runs = tt
at-first remarks count (Some text) o course run last line bytes pending runs =
    (course, text, runs, refl, all-to-come _ bytes pending)

-- the outcome of a line that is skipped, or done, with what comes behind it
by-skip : (skipped : Bool) (o : Origin) (course : Course) (last : List ℕ) (line : ScriptLine)
    (lines : List ScriptLine)
    → outcome_on o course last (if skipped then lines else line ∷ lines)
    ≡ onward (λ made. outcome_on o made.course (last_of last made.lines) lines)
    (if skipped then Ok (record { course = course; lines = []; reasons = [] })
    else course_step o course last line)
unfolding outcome_on
by-skip true o course last line lines = refl
by-skip false o course last line lines = refl

-- a line behind so many others
abbrev line-at : ℕ → List ℕ → ScriptLine
line-at count text = record { number = count + 1; text = text }

outcome-first : (remarks : Bool) (count : ℕ) (o : Origin) (course : Course) (last text : List ℕ)
    (texts : List (List ℕ))
    → outcome_on o course last (without_remarks remarks (with_numbers count (text ∷ texts)))
    ≡ onward
    (λ made. outcome_on o made.course (last_of last made.lines)
    (without_remarks remarks (with_numbers (count + 1) texts)))
    (step_or_skip remarks o course last (line-at count text))
unfolding without_remarks with_numbers
outcome-first remarks count o course last text texts =
    by-skip (is_skipped remarks text) o course last (line-at count text)
    (without_remarks remarks (with_numbers (count + 1) texts))

-- the outcome of a line that ends the run, and of one that does not
outcome-ends : (remarks : Bool) (count : ℕ) (o : Origin) (course : Course) (last text : List ℕ)
    (texts : List (List ℕ)) (status : ℕ)
    → step_or_skip remarks o course last (line-at count text) ≡ Err status
    → outcome_on o course last (without_remarks remarks (with_numbers count (text ∷ texts))) ≡ ends status
outcome-ends remarks count o course last text texts status is =
    outcome-first remarks count o course last text texts
    ∙ ap
    (onward
    (λ made. outcome_on o made.course (last_of last made.lines)
    (without_remarks remarks (with_numbers (count + 1) texts)))) is

outcome-goes : (remarks : Bool) (count : ℕ) (o : Origin) (course : Course) (last text : List ℕ)
    (texts : List (List ℕ)) (made : Advance)
    → step_or_skip remarks o course last (line-at count text) ≡ Ok made
    → outcome_on o course last (without_remarks remarks (with_numbers count (text ∷ texts)))
    ≡ printed_first (printed_by made)
    (outcome_on o made.course (last_of last made.lines)
    (without_remarks remarks (with_numbers (count + 1) texts)))
outcome-goes remarks count o course last text texts made is =
    outcome-first remarks count o course last text texts
    ∙ ap
    (onward
    (λ made. outcome_on o made.course (last_of last made.lines)
    (without_remarks remarks (with_numbers (count + 1) texts)))) is

-- what a turn leaves to come, behind so many lines
abbrev pub TurnLeads : Bool → ℕ → Turn → RunOutcome → Origin → Phase → Report → Option (List ℕ)
    → Option (List ℕ) → Option (List ℕ) → List ℕ → Type 0
TurnLeads remarks count (turns.Goes aborted) whole o run report left old now pending =
    Behind remarks count whole o run report.last.items left old now pending report.pending.items
TurnLeads remarks count turns.ExpectationFailed whole o run report left old now pending =
    LeadsTo whole (ends 1) old now pending report.pending.items
TurnLeads remarks count (turns.Bad fault) whole o run report left old now pending =
    LeadsTo whole (ends 2) old now pending report.pending.items

led : (remarks : Bool) (count : ℕ) (turn : Turn) (whole : RunOutcome) (o : Origin) (course : Course) (new : Phase)
    (before after : Report) (text rest : List ℕ) (left was now : Option (List ℕ))
    (pending : List ℕ) → left ≡ Some rest
    → Steps turn (step_or_skip remarks o course before.last.items (line-at count text)) new o before after
    → LeadsTo whole
    (outcome_on o course before.last.items
    (without_remarks remarks (with_numbers count (text ∷ script_lines rest)))) was now
    pending before.pending.items
    → TurnLeads remarks (count + 1) turn whole o new after left was now pending
led remarks count (turns.Goes aborted) whole o course new before after text rest left was now pending is steps
    leads =
    let last = before.last.items in
    let gone = gone-so (step_or_skip remarks o course last (line-at count text)) aborted new o before after steps in
    let made = gone.0 in
    let has = gone.2 in
    let later = without_remarks remarks (with_numbers (count + 1) (script_lines rest)) in (
      made.course,
      rest,
      has.runs,
      is,
      subst
          (λ shown. LeadsTo whole (outcome_on o made.course shown later) was now pending
          after.pending.items)
          (sym has.tells.last)
          (printed-more whole
          (outcome_on o course last
          (without_remarks remarks (with_numbers count (text ∷ script_lines rest))))
          (outcome_on o made.course (last_of last made.lines) later) was now
          pending before.pending.items after.pending.items (printed_by made) leads
          (outcome-goes remarks count o course last text (script_lines rest) made gone.1)
          has.tells.pending),
    )
led remarks count turns.ExpectationFailed whole o course new before after text rest left was now pending is steps
    leads =
    let last = before.last.items in
    let failed = failed-so (step_or_skip remarks o course last (line-at count text)) new o before after steps in
    subst (λ report. LeadsTo whole (ends 1) was now pending report.pending.items) (sym failed.1)
    (subst (λ later. LeadsTo whole later was now pending before.pending.items)
    (outcome-ends remarks count o course last text (script_lines rest) 1 failed.0) leads)
led remarks count (turns.Bad fault) whole o course new before after text rest left was now pending is steps leads =
    let last = before.last.items in
    let bad = bad-so (step_or_skip remarks o course last (line-at count text)) fault new o before after steps in
    subst (λ report. LeadsTo whole (ends 2) was now pending report.pending.items) (sym bad.1)
    (subst (λ later. LeadsTo whole later was now pending before.pending.items)
    (outcome-ends remarks count o course last text (script_lines rest) 2 bad.0) leads)

-- what a turn on the line at hand leaves to come
pub turned : (remarks : Bool) (count : ℕ) (turn : Turn) (whole : RunOutcome) (o : Origin) (old new : Phase)
    (before after : Report) (line text : List ℕ) (left was now : Option (List ℕ))
    (pending : List ℕ) → text ≡ bare line
    → ((o : Origin) (course : Course) → PhaseRunsOn old o course
    → Steps turn (step_or_skip remarks o course before.last.items (line-at count text)) new o before after)
    → AtHand remarks count whole o old before.last.items line left was now pending before.pending.items
    → TurnLeads remarks (count + 1) turn whole o new after left was now pending
turned remarks count turn whole o old new before after line text left was now pending shown steps
    (course, rest, runs, is, leads) =
    led remarks count turn whole o course new before after text rest left was now pending is (steps o course runs)
    (subst
    (λ first. LeadsTo whole
    (outcome_on o course before.last.items
    (without_remarks remarks (with_numbers count (first ∷ script_lines rest)))) was
    now pending before.pending.items)
    (sym shown) leads)

-- what is printed is handed on
pub handed-on : (remarks : Bool) (count : ℕ) (whole : RunOutcome) (o : Origin) (run : Phase) (last still : List ℕ)
    (left was now new : Option (List ℕ)) (pending before after : List ℕ)
    → Behind remarks count whole o run last left was now pending before → still ≡ last
    → HandsOn now new before after → Behind remarks count whole o run still left was new pending after
handed-on remarks count whole o run last still left was now new pending before after
    (course, text, runs, is, leads) same hands = (
      course,
      text,
      runs,
      is,
      subst
          (λ shown. LeadsTo whole
          (outcome_on o course shown (without_remarks remarks (with_numbers count (script_lines text)))) was
          new pending after)
          (sym same) (written-more whole _ was now new pending before after leads hands),
    )

-- the next line is read
pub next-at-hand : (remarks : Bool) (count : ℕ) (whole : RunOutcome) (o : Origin) (run : Phase) (last line : List ℕ)
    (left later was now : Option (List ℕ)) (pending after : List ℕ)
    → Behind remarks count whole o run last left was now pending after
    → IfSome left (λ text. TakesLine true line text later)
    → AtHand remarks count whole o run last line later was now pending after
next-at-hand remarks count whole o run last line left later was now pending after
    (course, text, runs, is, leads) takes =
    let first = taken left later line text is takes in (
      course,
      drop_through 10 text,
      runs,
      first.0,
      subst
          (λ texts. LeadsTo whole
          (outcome_on o course last (without_remarks remarks (with_numbers count texts))) was now
          pending after)
          first.1 leads,
    )

-- none is left
pub none-at-hand : (remarks : Bool) (count : ℕ) (whole : RunOutcome) (o : Origin) (run : Phase) (last line : List ℕ)
    (left later was now : Option (List ℕ)) (pending after : List ℕ)
    → Behind remarks count whole o run last left was now pending after
    → IfSome left (λ text. TakesLine false line text later)
    → LeadsTo whole (ends 0) was now pending after
unfolding outcome_on without_remarks with_numbers lines_of_text
none-at-hand remarks count whole o run last line left later was now pending after
    (course, text, runs, is, leads) takes =
    let none : text ≡ [] = subst (λ o. IfSome o (λ text. TakesLine false line text later)) is takes in
    subst
    (λ text. LeadsTo whole
    (outcome_on o course last (without_remarks remarks (with_numbers count (script_lines text)))) was
    now pending after) none leads

-- range lines

-- what lines come to behind what range lines made so far, and where what runs starts
abbrev from : Head → OpeningPhase → List ScriptLine → RunOutcome
from head = outcome_from head.explains head.kind

abbrev at-start : Head → Course
at-start head = start head.explains head.kind

-- of a whole script this is still to come, where the line at hand is in front, behind so many others
abbrev pub StillOpens : Head → ℕ → RunOutcome → OpeningPhase → List ℕ → Option (List ℕ) → Type 0
StillOpens head count whole phase line left =
    (text : List ℕ) × (left ≡ Some text)
    × (whole ≡ outcome_from head.explains head.kind phase (lines_from head.remarks count line text))

-- or with no line at hand
abbrev pub OpensOn : Head → ℕ → RunOutcome → OpeningPhase → Option (List ℕ) → Type 0
OpensOn head count whole phase left =
    (text : List ℕ) × (left ≡ Some text)
    × (whole ≡ outcome_from head.explains head.kind phase
    (without_remarks head.remarks (with_numbers count (script_lines text))))

pub opens-all : (left : Option (List ℕ)) (head : Head) (count : ℕ) (phase : OpeningPhase) (line : List ℕ)
    → IfSome left
    (λ text. StillOpens head count
    (outcome_from head.explains head.kind phase (lines_from head.remarks count line text)) phase line left)
opens-all None head count phase line = tt
opens-all (Some text) head count phase line = (text, refl, refl)

-- what a turn on the line behind so many others leaves to come
abbrev pub OpeningLeads : Head → ℕ → OpeningTurn → RunOutcome → List ℕ → Option (List ℕ) → Type 0
OpeningLeads head count (openings.Goes next) whole line left = OpensOn head (count + 1) whole next left
OpeningLeads head count (openings.Runs run) whole line left =
    (o : Origin) × (rest : List ℕ) × PhaseRunsOn run o (start head.explains head.kind) × (left ≡ Some rest)
    × (whole ≡ outcome_on o (start head.explains head.kind) [] (lines_from head.remarks count line rest))
OpeningLeads head count (openings.Bad fault) whole line left = whole ≡ ends 2

-- the lines behind the one at hand
abbrev later-lines : Head → ℕ → List ℕ → List ScriptLine
later-lines head count rest = without_remarks head.remarks (with_numbers (count + 1) (script_lines rest))

-- what a line that is not skipped opens
abbrev opened-then : Head → ℕ → OpeningPhase → List ℕ → List ℕ → Result (Option RangeRow) LineFault
    → RunOutcome
opened-then head count phase line rest read =
    opened (λ next. from head next (later-lines head count rest))
    (outcome_on (origin_of phase) (at-start head) [] (line-at count (bare line) ∷ later-lines head count rest))
    phase read

row-led : (head : Head) (count : ℕ) (row : Option RangeRow) (turn : OpeningTurn) (whole : RunOutcome)
    (phase : OpeningPhase) (line rest : List ℕ) (left : Option (List ℕ)) → left ≡ Some rest
    → is_skipped head.remarks (bare line) ≡ false
    → OpensBy head phase row turn
    → whole ≡ opened-then head count phase line rest (Ok row)
    → OpeningLeads head count turn whole line left
row-led head count (Some row) (openings.Goes next) whole phase line rest left is stays does all =
    let then_comes = λ (next : OpeningPhase). from head next (later-lines head count rest) in (
      rest,
      is,
      all ∙ ap (set_then then_comes (base_of phase) row) does.0
          ∙ sym (ap then_comes does.1),
    )
row-led head count (Some row) (openings.Runs run) whole phase line rest left is stays does all = absurd does
row-led head count (Some row) (openings.Bad fault) whole phase line rest left is stays does all =
    all ∙ ap
    (set_then
    (λ next. from head next (later-lines head count rest))
    (base_of phase) row) does.2
row-led head count None (openings.Goes next) whole phase line rest left is stays does all = absurd does
row-led head count None (openings.Runs run) whole phase line rest left is stays does all = (
  origin_of phase,
  rest,
  does,
  is,
  all ∙ ap (outcome_on (origin_of phase) (at-start head) [])
      (sym (keeps-first head.remarks count (bare line) (script_lines rest) stays)),
)
row-led head count None (openings.Bad fault) whole phase line rest left is stays does all = absurd does

line-led : (head : Head) (count : ℕ) (read : Result (Option RangeRow) LineFault) (turn : OpeningTurn)
    (whole : RunOutcome) (phase : OpeningPhase) (line rest : List ℕ) (left : Option (List ℕ))
    → left ≡ Some rest → is_skipped head.remarks (bare line) ≡ false
    → row_said head.kind (bare line) ≡ read
    → ((row : Option RangeRow) → row_said head.kind (bare line) ≡ Ok row
    → OpensBy head phase row turn)
    → ((fault : LineFault) → row_said head.kind (bare line) ≡ Err fault
    → turn ≡ openings.Bad (faults.Line fault))
    → whole ≡ opened-then head count phase line rest read
    → OpeningLeads head count turn whole line left
line-led head count (Ok row) turn whole phase line rest left is stays reads does bad all =
    row-led head count row turn whole phase line rest left is stays (does row reads) all
line-led head count (Err fault) turn whole phase line rest left is stays reads does bad all =
    subst (λ turn. OpeningLeads head count turn whole line left) (sym (bad fault reads)) all

-- a line that is not skipped, in front
outcome-opens : (head : Head) (count : ℕ) (phase : OpeningPhase) (line rest : List ℕ)
    → is_skipped head.remarks (bare line) ≡ false
    → from head phase (lines_from head.remarks count line rest)
    ≡ opened-then head count phase line rest (row_said head.kind (bare line))
unfolding outcome_from
outcome-opens head count phase line rest stays =
    ap (from head phase) (keeps-first head.remarks count (bare line) (script_lines rest) stays)

-- what a turn on the line at hand leaves to come, where it is skipped and where it is not
turned-by : {E : Type 0} (skipped : Bool) (head : Head) (count : ℕ) (turn : OpeningTurn) (whole : RunOutcome)
    (phase : OpeningPhase) (line rest : List ℕ) (left : Option (List ℕ)) → left ≡ Some rest
    → is_skipped head.remarks (bare line) ≡ skipped
    → (is_skipped head.remarks (bare line) ≡ true
    → ◌≡◌ {A = Result OpeningTurn E} (Ok turn) (Ok (openings.Goes phase)))
    → (is_skipped head.remarks (bare line) ≡ false
    → (row : Option RangeRow) → row_said head.kind (bare line) ≡ Ok row
    → OpensBy head phase row turn)
    → (is_skipped head.remarks (bare line) ≡ false
    → (fault : LineFault) → row_said head.kind (bare line) ≡ Err fault
    → ◌≡◌ {A = Result OpeningTurn E} (Ok turn) (Ok (openings.Bad (faults.Line fault))))
    → whole ≡ from head phase (lines_from head.remarks count line rest)
    → OpeningLeads head count turn whole line left
turned-by true head count turn whole phase line rest left is skipped goes does bad comes =
    let same : openings.Goes phase ≡ turn = cc (goes skipped) in
    subst (λ turn. OpeningLeads head count turn whole line left) same (
      rest,
      is,
      comes ∙ ap (from head phase)
          (skips-first head.remarks count (bare line) (script_lines rest) skipped),
    )
turned-by false head count turn whole phase line rest left is stays goes does bad comes =
    line-led head count (row_said head.kind (bare line)) turn whole phase line rest left is stays refl
    (does stays)
    (λ fault reads. cc (bad stays fault reads))
    (comes ∙ outcome-opens head count phase line rest stays)

pub opening-turned : {E : Type 0} (head : Head) (count : ℕ) (turn : OpeningTurn) (whole : RunOutcome)
    (phase : OpeningPhase) (line text : List ℕ) (left : Option (List ℕ)) → text ≡ bare line
    → StillOpens head count whole phase line left
    → (is_skipped head.remarks text ≡ true
    → ◌≡◌ {A = Result OpeningTurn E} (Ok turn) (Ok (openings.Goes phase)))
    → (is_skipped head.remarks text ≡ false
    → (row : Option RangeRow) → row_said head.kind text ≡ Ok row
    → OpensBy head phase row turn)
    → (is_skipped head.remarks text ≡ false
    → (fault : LineFault) → row_said head.kind text ≡ Err fault
    → ◌≡◌ {A = Result OpeningTurn E} (Ok turn) (Ok (openings.Bad (faults.Line fault))))
    → OpeningLeads head count turn whole line left
opening-turned {E} head count turn whole phase line text left shown (all, is, comes) goes does bad =
    let skipped = ap (is_skipped head.remarks) shown in
    let read = ap (row_said head.kind) shown in
    turned-by {E = E} (is_skipped head.remarks (bare line)) head count turn whole phase line all left is refl
    (λ yes. goes (skipped ∙ yes))
    (λ stays row reads. does (skipped ∙ stays) row (read ∙ reads))
    (λ stays fault reads. bad (skipped ∙ stays) fault (read ∙ reads))
    comes

-- the next line is read
pub next-opens : (head : Head) (count : ℕ) (whole : RunOutcome) (phase : OpeningPhase) (line : List ℕ)
    (left later : Option (List ℕ)) → OpensOn head count whole phase left
    → IfSome left (λ text. TakesLine true line text later)
    → StillOpens head count whole phase line later
next-opens head count whole phase line left later (text, is, comes) takes =
    let first = taken left later line text is takes in (
      drop_through 10 text,
      first.0,
      comes ∙ ap (λ texts. from head phase (without_remarks head.remarks (with_numbers count texts))) first.1,
    )

-- none is left
pub nothing-opens : (head : Head) (count : ℕ) (whole : RunOutcome) (phase : OpeningPhase) (line : List ℕ)
    (left later : Option (List ℕ)) → OpensOn head count whole phase left
    → IfSome left (λ text. TakesLine false line text later) → whole ≡ ends 0
unfolding outcome_from without_remarks with_numbers lines_of_text
nothing-opens head count whole phase line left later (text, is, comes) takes =
    let none : text ≡ [] = subst (λ o. IfSome o (λ text. TakesLine false line text later)) is takes in
    comes
    ∙ ap (λ text. from head phase (without_remarks head.remarks (with_numbers count (script_lines text)))) none

-- the first line

-- remarks are skipped: of these lines this is still to come
abbrev pub StillSkips : Bool → ℕ → List ScriptLine → List ℕ → Option (List ℕ) → Type 0
StillSkips remarks count lines line left =
    (text : List ℕ) × (left ≡ Some text)
    × (without_remarks remarks lines ≡ lines_from remarks count line text)

pub skips-none : (left : Option (List ℕ)) (remarks : Bool) (line : List ℕ)
    → IfSome left (λ text. StillSkips remarks 0 (with_numbers 0 (bare line ∷ script_lines text)) line left)
skips-none None remarks line = tt
skips-none (Some text) remarks line = (text, refl, refl)

-- the line at hand is not skipped
pub skipped-to : (remarks : Bool) (count : ℕ) (lines : List ScriptLine) (line shown : List ℕ)
    (left : Option (List ℕ)) → shown ≡ bare line → is_skipped remarks shown ≡ false
    → StillSkips remarks count lines line left → SkipsTo remarks (Some count) lines line left
skipped-to remarks count lines line shown left is stays (text, at, comes) =
    (text, at, ap (is_skipped remarks) (sym is) ∙ stays, comes)

-- it is, and the next line is read
pub skips-on : (remarks : Bool) (count : ℕ) (lines : List ScriptLine) (line shown next : List ℕ)
    (left later : Option (List ℕ)) → shown ≡ bare line → is_skipped remarks shown ≡ true
    → StillSkips remarks count lines line left
    → IfSome left (λ text. TakesLine true next text later)
    → StillSkips remarks (count + 1) lines next later
skips-on remarks count lines line shown next left later is skipped (text, at, comes) takes =
    let first = taken left later next text at takes in (
      drop_through 10 text,
      first.0,
      comes
          ∙ skips-first remarks count (bare line) (script_lines text)
          (ap (is_skipped remarks) (sym is) ∙ skipped)
          ∙ ap (λ texts. without_remarks remarks (with_numbers (count + 1) texts)) first.1,
    )

-- none is left
pub skips-all : (remarks : Bool) (count : ℕ) (lines : List ScriptLine) (line shown next : List ℕ)
    (left later : Option (List ℕ)) → shown ≡ bare line → is_skipped remarks shown ≡ true
    → StillSkips remarks count lines line left
    → IfSome left (λ text. TakesLine false next text later)
    → without_remarks remarks lines ≡ []
unfolding without_remarks with_numbers lines_of_text
skips-all remarks count lines line shown next left later is skipped (text, at, comes) takes =
    let none : text ≡ [] = subst (λ o. IfSome o (λ text. TakesLine false next text later)) at takes in
    comes
    ∙ skips-first remarks count (bare line) (script_lines text)
    (ap (is_skipped remarks) (sym is) ∙ skipped)
    ∙ ap (λ text. without_remarks remarks (with_numbers (count + 1) (script_lines text))) none

-- there is no first line
pub no-first : (explains : Bool) (line : List ℕ) (old new : Option (List ℕ))
    → IfSome old (λ text. TakesLine false line text new)
    → IfSome old (λ text. BeginsScript explains None text line new)
unfolding lines_of_text
no-first explains line None new takes = tt
no-first explains line (Some text) new takes = ap (λ text. effective_lines (script_lines text)) takes

-- it says whether remarks may stand in the script
effective-from : (line text shown : List ℕ) (now : Option (List ℕ)) (remarks : Bool)
    → TakesLine true line text now → shown ≡ bare line → remarks ≡ may_hold_remarks shown
    → effective_lines (script_lines text)
    ≡ without_remarks remarks (with_numbers 0 (bare line ∷ script_lines (drop_through 10 text)))
effective-from line text shown now remarks takes is held =
    let first = taken (Some text) now line text refl takes in
    ap effective_lines first.1
    ∙ ap
    (λ (remarks : Bool). without_remarks remarks
    (with_numbers 0 (bare line ∷ script_lines (drop_through 10 text))))
    (ap may_hold_remarks (sym is) ∙ sym held)

-- and so whether lines may write calls by name
kind-from : (line text shown : List ℕ) (now : Option (List ℕ)) (remarks : Bool)
    → TakesLine true line text now → shown ≡ bare line → remarks ≡ may_hold_remarks shown
    → drive_kind remarks ≡ kind_of_script (script_lines text)
kind-from line text shown now remarks takes is held =
    ap drive_kind (held ∙ ap may_hold_remarks is)
    ∙ sym (ap kind_of_script (taken (Some text) now line text refl takes).1)

-- all lines are skipped
pub begins-none : (explains remarks : Bool) (found : Option ℕ) (line next shown : List ℕ)
    (old now new : Option (List ℕ)) → found ≡ None
    → IfSome old (λ text. TakesLine true line text now)
    → shown ≡ bare line → remarks ≡ may_hold_remarks shown
    → IfSome now
    (λ text. SkipsTo remarks found (with_numbers 0 (bare line ∷ script_lines text)) next new)
    → IfSome old (λ text. BeginsScript explains None text next new)
begins-none explains remarks found line next shown None now new none takes is held to = tt
begins-none explains remarks found line next shown (Some text) now new none takes is held to =
    let left : now ≡ Some (drop_through 10 text) = (taken (Some text) now line text refl takes).0 in
    effective-from line text shown now remarks takes is held
    ∙ subst
    (λ found. SkipsTo remarks found
    (with_numbers 0 (bare line ∷ script_lines (drop_through 10 text))) next new) none
    (subst
    (λ now. IfSome now
    (λ text. SkipsTo remarks found (with_numbers 0 (bare line ∷ script_lines text)) next new)) left to)

-- the first that is not is at hand
pub begins-some : (explains : Bool) (head : Head) (found : Option ℕ) (line next shown : List ℕ)
    (old now new : Option (List ℕ)) → found ≡ Some head.lines
    → IfSome old (λ text. TakesLine true line text now)
    → shown ≡ bare line → head.remarks ≡ may_hold_remarks shown → head.kind ≡ drive_kind head.remarks
    → head.explains ≡ explains
    → IfSome now
    (λ text. SkipsTo head.remarks found (with_numbers 0 (bare line ∷ script_lines text)) next new)
    → IfSome old (λ text. BeginsScript explains (Some head) text next new)
begins-some explains head found line next shown None now new some takes is held kind so to = tt
begins-some explains head found line next shown (Some text) now new some takes is held kind so to =
    let left : now ≡ Some (drop_through 10 text) = (taken (Some text) now line text refl takes).0 in
    let lines = λ (text : List ℕ). with_numbers 0 (bare line ∷ script_lines text) in
    let first : SkipsTo head.remarks (Some head.lines) (lines (drop_through 10 text)) next new =
    subst
    (λ found. SkipsTo head.remarks found (lines (drop_through 10 text)) next new) some
    (subst
    (λ now. IfSome now (λ text. SkipsTo head.remarks found (lines text) next new)) left to) in (
      first.0,
      first.1,
      first.2,
      kind ∙ kind-from line text shown now head.remarks takes is held,
      so,
      effective-from line text shown now head.remarks takes is held ∙ first.3,
    )

-- no line is left, or the first one is of a script on a drive
pub nothing-first : (explains : Bool) (line : List ℕ) (old new : Option (List ℕ))
    → IfSome old (λ text. BeginsScript explains None text line new)
    → IfSome old (λ text. FirstLine explains None text line new)
nothing-first explains line None new begins = tt
nothing-first explains line (Some text) new begins =
    λ config. ap (outcome_of_lines explains (kind_of_script (script_lines text)) config) begins

outcome-comes : (explains : Bool) (kind : ScriptKind) (head : Head) (line rest shown : List ℕ) (config : Config)
    (port : Bool) → shown ≡ bare line → is_port_line shown ≡ port
    → is_skipped head.remarks (bare line) ≡ false
    → outcome_of_lines explains kind config (lines_from head.remarks head.lines line rest)
    ≡ (if port then outcome_from explains kinds.Port (Factory config) (later-lines head head.lines rest)
    else outcome_from explains kind (Factory config)
    (line-at head.lines (bare line) ∷ later-lines head head.lines rest))
outcome-comes explains kind head line rest shown config port is told stays =
    let lines = later-lines head head.lines rest in
    ap (outcome_of_lines explains kind config)
    (keeps-first head.remarks head.lines (bare line) (script_lines rest) stays)
    ∙ ap
    (λ (b : Bool). if b then outcome_from explains kinds.Port (Factory config) lines
    else outcome_from explains kind (Factory config) (line-at head.lines (bare line) ∷ lines))
    (ap is_port_line (sym is) ∙ told)

pub drive-first : (explains : Bool) (head : Head) (line shown : List ℕ) (old new : Option (List ℕ))
    → IfSome old (λ text. BeginsScript explains (Some head) text line new) → shown ≡ bare line
    → is_port_line shown ≡ false → IfSome old (λ text. FirstLine explains (Some head) text line new)
drive-first explains head line shown None new begins is other = tt
drive-first explains head line shown (Some text) new (rest, at, stays, kind, so, comes) is other = (
  rest,
  at,
  λ config.
      let told = kind_of_script (script_lines text) in
      ap (outcome_of_lines explains told config) comes
      ∙ outcome-comes explains told head line rest shown config false is other stays
      ∙ ap (outcome_from explains told (Factory config))
      (sym (keeps-first head.remarks head.lines (bare line) (script_lines rest) stays))
      ∙ ap
      (λ (k : ScriptKind). outcome_from explains k (Factory config)
      (lines_from head.remarks head.lines line rest))
      (sym kind)
      ∙ ap
      (λ (b : Bool). outcome_from b head.kind (Factory config)
      (lines_from head.remarks head.lines line rest))
      (sym so),
)

-- it says that a port script follows, whose first line is read
port-comes : (explains : Bool) (head : Head) (line text rest shown : List ℕ)
    → is_skipped head.remarks (bare line) ≡ false
    → effective_lines (script_lines text) ≡ lines_from head.remarks head.lines line rest
    → shown ≡ bare line → is_port_line shown ≡ true → (config : Config)
    → outcome_by explains config text
    ≡ outcome_from explains kinds.Port (Factory config) (later-lines head head.lines rest)
port-comes explains head line text rest shown stays comes is port config =
    let told = kind_of_script (script_lines text) in
    ap (outcome_of_lines explains told config) comes
    ∙ outcome-comes explains told head line rest shown config true is port stays

pub port-first : (explains : Bool) (head next_head : Head) (line next shown : List ℕ)
    (old now new : Option (List ℕ))
    → next_head ≡ record { remarks = head.remarks; explains = head.explains; kind = kinds.Port; lines = head.lines + 1 }
    → IfSome old (λ text. BeginsScript explains (Some head) text line now) → shown ≡ bare line
    → is_port_line shown ≡ true → IfSome now (λ text. TakesLine true next text new)
    → IfSome old (λ text. FirstLine explains (Some next_head) text next new)
port-first explains head next_head line next shown None now new same begins is port more = tt
port-first explains head next_head line next shown (Some text) now new same
    (rest, at, stays, drive, so, comes) is port more =
    let second = taken now new next rest at more in (
      drop_through 10 rest,
      second.0,
      λ config. port-comes explains head line text rest shown stays comes is port config
          ∙ ap
          (λ texts. outcome_from explains kinds.Port (Factory config)
          (without_remarks head.remarks (with_numbers (head.lines + 1) texts))) second.1
          ∙ ap
          (λ (b : Bool). outcome_from b kinds.Port (Factory config)
          (lines_from head.remarks (head.lines + 1) next (drop_through 10 rest)))
          (sym so)
          ∙ ap
          (λ (h : Head). outcome_from h.explains h.kind (Factory config)
          (lines_from h.remarks h.lines next (drop_through 10 rest)))
          (sym same),
    )

pub port-alone : (explains : Bool) (head : Head) (line next shown : List ℕ) (old now new : Option (List ℕ))
    → IfSome old (λ text. BeginsScript explains (Some head) text line now) → shown ≡ bare line
    → is_port_line shown ≡ true → IfSome now (λ text. TakesLine false next text new)
    → IfSome old (λ text. FirstLine explains None text next new)
unfolding outcome_from without_remarks with_numbers lines_of_text
port-alone explains head line next shown None now new begins is port more = tt
port-alone explains head line next shown (Some text) now new (rest, at, stays, drive, so, comes) is port more =
    let none : rest ≡ [] = subst (λ o. IfSome o (λ text. TakesLine false next text new)) at more in
    λ config. port-comes explains head line text rest shown stays comes is port config
    ∙ ap
    (λ rest. outcome_from explains kinds.Port (Factory config) (later-lines head head.lines rest)) none

-- what the lines behind the first come to, the script does
pub first-opens : (explains : Bool) (head : Head) (config : Config) (opened : Opened) (text first line : List ℕ)
    (left later : Option (List ℕ)) → FirstLine explains (Some head) text first left
    → LinesOpenTo head opened (Factory config) first left line later
    → OpensTo head opened (outcome_by explains config text) line later
first-opens explains head config opened text first line left later (rest, is, comes) opens =
    subst (λ whole. OpensTo head opened whole line later) (sym (comes config))
    (subst
    (λ left. IfSome left
    (λ rest. OpensTo head opened
    (from head (Factory config) (lines_from head.remarks head.lines first rest)) line later))
    is opens)

-- a whole script

-- the range lines end it
pub opened-ends : (whole : RunOutcome) (status : ℕ) (bytes : Option (List ℕ)) (pending : List ℕ)
    → whole ≡ ends status → LeadsTo whole (ends status) bytes bytes pending pending
opened-ends whole status bytes pending is =
    subst (λ later. LeadsTo whole later bytes bytes pending pending) is
    (all-to-come whole bytes pending)

-- the lines behind them do
pub opened-runs : (head : Head) (count : ℕ) (whole later : RunOutcome) (run : Phase) (last line : List ℕ)
    (left was now : Option (List ℕ)) (pending after : List ℕ)
    → ((o : Origin) × (text : List ℕ) × PhaseRunsOn run o (start head.explains head.kind) × (left ≡ Some text)
    × (whole ≡ outcome_on o (start head.explains head.kind) [] (lines_from head.remarks count line text)))
    → last ≡ []
    → ((o : Origin) (course : Course) → PhaseRunsOn run o course
    → IfSome left
    (λ text. LeadsTo (outcome_on o course last (lines_from head.remarks count line text)) later was now pending
    after))
    → LeadsTo whole later was now pending after
opened-runs head count whole later run last line left was now pending after (o, text, runs, is, comes) none
    leads =
    subst (λ whole. LeadsTo whole later was now pending after)
    (ap (λ last. outcome_on o (at-start head) last (lines_from head.remarks count line text)) none ∙ sym comes)
    (subst
    (λ left. IfSome left
    (λ text. LeadsTo (outcome_on o (at-start head) last (lines_from head.remarks count line text)) later was now pending
    after))
    is (leads o (at-start head) runs))

-- a status is told, and what was pending is handed on
pub yields-so : {E : Type 0} (r : Result ℕ E) (end : End) (start : Option (List ℕ))
    (whole : List ℕ → RunOutcome) (old now new : Option (List ℕ)) (before pending : List ℕ)
    → IfOk r (λ status. status ≡ exit_status end) → before ≡ [] → Appends now new pending
    → IfSome start (λ text. LeadsTo (whole text) (ends (exit_status end)) old now before pending)
    → IfOk r (λ status. IfSome start (λ text. Yields (whole text) status old new))
yields-so (Err e) end start whole old now new before pending told none appends leads = told
yields-so (Ok status) end None whole old now new before pending told none appends leads = tt
yields-so (Ok status) end (Some text) whole old now new before pending told none appends leads =
    let yields =
    all-written (whole text) (exit_status end) old now new pending
    (subst (λ before. LeadsTo (whole text) (ends (exit_status end)) old now before pending) none
    leads)
    appends in
    (told ∙ yields.0, yields.1)

-- what was pending is handed on behind the lines, whatever ended them
pub answered-so : (r ended : Result End RunError) (failed : RunError) (from : Option (List ℕ))
    (whole : List ℕ → RunOutcome) (old now new : Option (List ℕ)) (before pending : List ℕ)
    → ((r ≡ ended) × Appends now new pending) ⊎ (r ≡ Err failed) → before ≡ []
    → IfOk ended (λ end. IfSome from
    (λ text. LeadsTo (whole text) (ends (exit_status end)) old now before pending))
    → IfOk r (λ end. IfSome from (λ text. Yields (whole text) (exit_status end) old new))
answered-so r (Ok end) failed from whole old now new before pending (inl (is, appends)) none leads =
    let told : Result ℕ RunError = Ok (exit_status end) in
    subst (λ r. IfOk r (λ end. IfSome from (λ text. Yields (whole text) (exit_status end) old new)))
    (sym is)
    (yields-so told end from whole old now new before pending refl none appends leads)
answered-so r (Err e) failed from whole old now new before pending (inl (is, appends)) none leads =
    subst (λ r. IfOk r (λ end. IfSome from (λ text. Yields (whole text) (exit_status end) old new)))
    (sym is) tt
answered-so r ended failed from whole old now new before pending (inr is) none leads =
    subst (λ r. IfOk r (λ end. IfSome from (λ text. Yields (whole text) (exit_status end) old new)))
    (sym is) tt

-- the status that is told is that of the end
pub told-so : {E : Type 0} (r : Result ℕ E) (status : ℕ) (from : Option (List ℕ))
    (whole : List ℕ → RunOutcome) (old new : Option (List ℕ))
    → IfOk r (λ told. told ≡ status)
    → IfSome from (λ text. Yields (whole text) status old new)
    → IfOk r (λ told. IfSome from (λ text. Yields (whole text) told old new))
told-so (Err e) status from whole old new told yields = tt
told-so (Ok it) status from whole old new told yields =
    subst (λ it. IfSome from (λ text. Yields (whole text) it old new)) (sym told) yields
