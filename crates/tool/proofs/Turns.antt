-- What the turn of a line is, on what a script runs on.
use Rattle.std.proofs.Common.{◌≡◌, ℕ, Bool, true, false, List, [], refl, sym, ap, ◌∙◌, subst, Option, Result, Ok, Err, IfOk}
use Rattle.std.proofs.lemmas.List.{append-nil}
use Rattle.std.specs.Prelude.{if◌then◌else◌}
use Rattle.history.specs.Opening.{Origin}
use Rattle.script_lines.specs.CallVerbs.{call_verb_of}
use Rattle.script_lines.specs.KnownSessions.{Known, learned, plain_by, plain_line}
use Rattle.script_lines.specs.Words.{first_word}
use Rattle.script_lines.specs.declared.named_lines.fault.CallFault.{CallFault}
use Rattle.script_lines.specs.declared.named_lines.verb.CallVerb.{CallVerb}
use Rattle.script_lines.specs.declared.report.Report.{Report}
use Rattle.drive_scripts.specs.DriveCourses.{DriveCourse, DriveRunsOn, DriveStands, drive_course_step}
use Rattle.drive_scripts.specs.Turns.{AdvanceOf, StepsBy}
use Rattle.drive_scripts.specs.declared.drive_phase.DrivePhase.{DrivePhase}
use Rattle.drive_scripts.specs.declared.turn.Fault.TheVariants as faults
use Rattle.drive_scripts.specs.declared.turn.Turn.{Turn}
use Rattle.drive_scripts.specs.declared.turn.Turn.TheVariants as turns
use Rattle.port_scripts.specs.PortCourses.{PortCourse, DeskRunsOn, port_course_step}
use Rattle.port_scripts.specs.declared.port_desk.PortDesk.{PortDesk}
use Rattle.tool.specs.Courses.{Course, DriveScript, NamedScript, PortScript, NamedRunsOn, PhaseRunsOn, PhaseStands, advance_in, learns_of, named_step, course_step}
use Rattle.tool.specs.Progress.{NamedSteps, Steps, step_or_skip}
use Rattle.tool.specs.Scripts.{ScriptLine, is_skipped}
use Rattle.tool.specs.declared.named_phase.NamedPhase.{NamedPhase}
use Rattle.tool.specs.declared.phase.Phase.{Phase}
use Rattle.tool.specs.declared.phase.Phase.TheVariants as phases

-- what a line makes of the course of a drive, or of a port, it makes of the course of the script
steps-in : {C : Type 0} (on : C → Course) (Runs : C → Type 0) (turn : Turn) (result : Result (AdvanceOf C) ℕ)
    (new : Phase) (o : Origin) (before after : Report)
    → ((course : C) → Runs course → PhaseRunsOn new o (on course))
    → StepsBy C Runs turn result before after → Steps turn (advance_in on result) new o before after
steps-in on Runs (turns.Goes aborted) (Ok made) new o before after so steps =
    record { runs = so made.course steps.runs; tells = steps.tells }
steps-in on Runs (turns.Goes aborted) (Err status) new o before after so steps = absurd steps
steps-in on Runs turns.ExpectationFailed (Ok made) new o before after so steps = absurd steps
steps-in on Runs turns.ExpectationFailed (Err status) new o before after so steps = steps
steps-in on Runs (turns.Bad fault) (Ok made) new o before after so steps = absurd steps
steps-in on Runs (turns.Bad fault) (Err status) new o before after so steps = steps

-- the turn of a drive is that of what the script runs on
pub drive-turns : {E : Type 0} (r : Result Turn E) (old new : DrivePhase) (number : ℕ) (text : List ℕ)
    (before after : Report)
    → IfOk r
    (λ turn. (o : Origin) (course : DriveCourse) → DriveRunsOn old o course
    → StepsBy DriveCourse (DriveRunsOn new o) turn (drive_course_step o course before.last.items number text) before after)
    → IfOk r
    (λ turn. (o : Origin) (course : Course) → PhaseRunsOn (phases.Drive old) o course
    → Steps turn
    (course_step o course before.last.items (record { number = number; text = text })) (phases.Drive new) o before after)
drive-turns (Ok turn) old new number text before after does = by-course
  where
    by-course : (o : Origin) (course : Course) → PhaseRunsOn (phases.Drive old) o course
        → Steps turn
        (course_step o course before.last.items (record { number = number; text = text })) (phases.Drive new) o before after
    by-course o (DriveScript course) runs =
        steps-in DriveScript (DriveRunsOn new o) turn (drive_course_step o course before.last.items number text)
        (phases.Drive new) o before after (λ course now. now) (does o course runs)
    by-course o (NamedScript known course) runs = absurd runs
    by-course o (PortScript course) runs = absurd runs
drive-turns (Err e) old new number text before after does = does

-- and so is that of a port
pub port-turns : {E : Type 0} (r : Result Turn E) (old new : PortDesk) (number : ℕ) (text : List ℕ)
    (before after : Report)
    → IfOk r
    (λ turn. (o : Origin) (course : PortCourse) → DeskRunsOn old o course
    → StepsBy PortCourse (DeskRunsOn new o) turn (port_course_step o course before.last.items number text) before after)
    → IfOk r
    (λ turn. (o : Origin) (course : Course) → PhaseRunsOn (phases.Port old) o course
    → Steps turn
    (course_step o course before.last.items (record { number = number; text = text })) (phases.Port new) o before after)
port-turns (Ok turn) old new number text before after does = by-course
  where
    by-course : (o : Origin) (course : Course) → PhaseRunsOn (phases.Port old) o course
        → Steps turn
        (course_step o course before.last.items (record { number = number; text = text })) (phases.Port new) o before after
    by-course o (PortScript course) runs =
        steps-in PortScript (DeskRunsOn new o) turn (port_course_step o course before.last.items number text)
        (phases.Port new) o before after (λ course now. now) (does o course runs)
    by-course o (DriveScript course) runs = absurd runs
    by-course o (NamedScript known course) runs = absurd runs
port-turns (Err e) old new number text before after does = does

-- what a line without names makes of a drive it makes of one whose lines may have names, with what is learned from it
learning-steps : (turn : Turn) (result : Result (AdvanceOf DriveCourse) ℕ) (new : NamedPhase) (o : Origin) (known : Known)
    (text : List ℕ) (before after : Report) → new.known ≡ learned known text after.last.items
    → StepsBy DriveCourse (DriveRunsOn new.drive o) turn result before after
    → NamedSteps turn (learns_of known text before.last.items result) new o before after
learning-steps (turns.Goes aborted) (Ok made) new o known text before after learns steps = record {
  runs = (steps.runs, learns ∙ ap (learned known text) steps.tells.last);
  tells = steps.tells;
}
learning-steps (turns.Goes aborted) (Err status) new o known text before after learns steps = absurd steps
learning-steps turns.ExpectationFailed (Ok made) new o known text before after learns steps = absurd steps
learning-steps turns.ExpectationFailed (Err status) new o known text before after learns steps = steps
learning-steps (turns.Bad fault) (Ok made) new o known text before after learns steps = absurd steps
learning-steps (turns.Bad fault) (Err status) new o known text before after learns steps = steps

pub learning-turns : (turn : Turn) (old new : NamedPhase) (number : ℕ) (text : List ℕ) (before after : Report)
    → new.known ≡ learned old.known text after.last.items
    → ((o : Origin) (course : DriveCourse) → DriveRunsOn old.drive o course
    → StepsBy DriveCourse (DriveRunsOn new.drive o) turn (drive_course_step o course before.last.items number text) before
    after)
    → (o : Origin) (known : Known) (course : DriveCourse) → NamedRunsOn old o known course
    → NamedSteps turn (named_step o known course before.last.items number (Ok text)) new o before after
learning-turns turn old new number text before after learns does o known course runs =
    learning-steps turn (drive_course_step o course before.last.items number text) new o known text before after
    (learns ∙ ap (λ (k : Known). learned k text after.last.items) runs.1) (does o course runs.0)

-- what is called of a client's session is called of the one that it knows
pub calling-turns : {E : Type 0} (r : Result Turn E) (old new : NamedPhase) (number : ℕ)
    (call : Known → Result (List ℕ) CallFault) (text : List ℕ) (before after : Report) → call old.known ≡ Ok text
    → IfOk r
    (λ turn. (o : Origin) (known : Known) (course : DriveCourse) → NamedRunsOn old o known course
    → NamedSteps turn (named_step o known course before.last.items number (Ok text)) new o before after)
    → IfOk r
    (λ turn. (o : Origin) (known : Known) (course : DriveCourse) → NamedRunsOn old o known course
    → NamedSteps turn (named_step o known course before.last.items number (call known)) new o before after)
calling-turns (Ok turn) old new number call text before after is does = λ o known course runs.
    subst
    (λ (said : Result (List ℕ) CallFault). NamedSteps turn (named_step o known course before.last.items number said) new o
    before after)
    (sym (ap call (sym runs.1) ∙ is)) (does o known course runs)
calling-turns (Err e) old new number call text before after is does = does

-- a line that stands for no call ends the run
pub calls-nothing : (old : NamedPhase) (number : ℕ) (call : Known → Result (List ℕ) CallFault) (fault : CallFault)
    (report : Report) → call old.known ≡ Err fault
    → (o : Origin) (known : Known) (course : DriveCourse) → NamedRunsOn old o known course
    → NamedSteps (turns.Bad (faults.Call fault)) (named_step o known course report.last.items number (call known)) old o
    report report
calls-nothing old number call fault report is o known course runs =
    subst
    (λ (said : Result (List ℕ) CallFault). NamedSteps (turns.Bad (faults.Call fault))
    (named_step o known course report.last.items number said) old o report report)
    (sym (ap call (sym runs.1) ∙ is)) (refl, refl)

-- a line of any verb, and of none
pub by-verb : {E : Type 0} (r : Result Turn E) (old new : NamedPhase) (number : ℕ) (verb : Option CallVerb)
    (text : List ℕ) (before after : Report) → call_verb_of (first_word text) ≡ verb
    → IfOk r
    (λ turn. (o : Origin) (known : Known) (course : DriveCourse) → NamedRunsOn old o known course
    → NamedSteps turn (named_step o known course before.last.items number (plain_by known verb text)) new o before after)
    → IfOk r
    (λ turn. (o : Origin) (known : Known) (course : DriveCourse) → NamedRunsOn old o known course
    → NamedSteps turn (named_step o known course before.last.items number (plain_line known text)) new o before after)
by-verb r old new number verb text before after is does =
    subst
    (λ (v : Option CallVerb). IfOk r
    (λ turn. (o : Origin) (known : Known) (course : DriveCourse) → NamedRunsOn old o known course
    → NamedSteps turn (named_step o known course before.last.items number (plain_by known v text)) new o before after))
    (sym is) does

-- the turn of a drive whose lines may write calls by name is that of what the script runs on
pub named-turns : {E : Type 0} (r : Result Turn E) (old new : NamedPhase) (number : ℕ) (text : List ℕ)
    (before after : Report)
    → IfOk r
    (λ turn. (o : Origin) (known : Known) (course : DriveCourse) → NamedRunsOn old o known course
    → NamedSteps turn (named_step o known course before.last.items number (plain_line known text)) new o before after)
    → IfOk r
    (λ turn. (o : Origin) (course : Course) → PhaseRunsOn (phases.Named old) o course
    → Steps turn
    (course_step o course before.last.items (record { number = number; text = text })) (phases.Named new) o before after)
named-turns (Ok turn) old new number text before after does = by-course
  where
    by-course : (o : Origin) (course : Course) → PhaseRunsOn (phases.Named old) o course
        → Steps turn
        (course_step o course before.last.items (record { number = number; text = text })) (phases.Named new) o before after
    by-course o (NamedScript known course) runs = does o known course runs
    by-course o (DriveScript course) runs = absurd runs
    by-course o (PortScript course) runs = absurd runs
named-turns (Err e) old new number text before after does = does

-- a drive that a script runs on stands
pub named-stands : (named : NamedPhase) → PhaseStands (phases.Named named) → DriveStands named.drive
named-stands named (o, NamedScript known course, runs) = (o, course, runs.0)
named-stands named (o, DriveScript course, runs) = absurd runs
named-stands named (o, PortScript course, runs) = absurd runs

pub drive-stands : (drive : DrivePhase) → PhaseStands (phases.Drive drive) → DriveStands drive
drive-stands drive (o, DriveScript course, runs) = (o, course, runs)
drive-stands drive (o, NamedScript known course, runs) = absurd runs
drive-stands drive (o, PortScript course, runs) = absurd runs

-- a line that is skipped does nothing
pub skip-steps : (remarks : Bool) (phase : Phase) (o : Origin) (course : Course) (line : ScriptLine)
    (report : Report) → is_skipped remarks line.text ≡ true → PhaseRunsOn phase o course
    → Steps (turns.Goes false) (step_or_skip remarks o course report.last.items line) phase o report report
skip-steps remarks phase o course line report skipped runs =
    subst
    (λ (b : Bool). Steps (turns.Goes false)
    (if b then Ok (record { course = course; lines = []; reasons = [] })
    else course_step o course report.last.items line) phase o report report)
    (sym skipped) (record {
      runs = runs;
      tells = record { pending = sym (append-nil report.pending.items); last = refl };
    })

-- any other line makes its step
pub line-steps : {E : Type 0} (r : Result Turn E) (remarks : Bool) (old new : Phase) (line : ScriptLine)
    (before after : Report) → is_skipped remarks line.text ≡ false
    → IfOk r
    (λ turn. (o : Origin) (course : Course) → PhaseRunsOn old o course
    → Steps turn (course_step o course before.last.items line) new o before after)
    → IfOk r
    (λ turn. (o : Origin) (course : Course) → PhaseRunsOn old o course
    → Steps turn (step_or_skip remarks o course before.last.items line) new o before after)
line-steps r remarks old new line before after stays steps =
    subst
    (λ (b : Bool). IfOk r
    (λ turn. (o : Origin) (course : Course) → PhaseRunsOn old o course
    → Steps turn
    (if b then Ok (record { course = course; lines = []; reasons = [] })
    else course_step o course before.last.items line) new o before after))
    (sym stays) steps
