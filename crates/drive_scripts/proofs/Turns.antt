-- What the turn of a line is, on a drive.
use Rattle.std.proofs.Common.{◌≡◌, ◌∙◌, ℕ, Bool, true, false, List, [], ◌++◌, refl, sym, ap, subst, append-nil, None, Some, Result, Ok, Err, IfOk}
use Rattle.std.specs.Prelude.{if◌then◌else◌}
use Rattle.std.specs.Str.{bytes_eq}
use Rattle.history.specs.Opening.{Origin}
use Rattle.history.specs.Events.{Event}
use Rattle.history.specs.History.{Act}
use Rattle.script_lines.specs.Lines.{line_said, expected_text}
use Rattle.script_lines.specs.declared.fault.LineFault.{LineFault}
use Rattle.script_lines.specs.declared.line.Line as told
use Rattle.script_lines.specs.declared.line.Line.TheVariants as lines
use Rattle.script_lines.specs.declared.report.Report.{Report}
use Rattle.reasons.specs.declared.explained.onset.Source.{Source}
use Rattle.drive_scripts.specs.Kept.{KeptReasons, RecountsAll}
use Rattle.reasons.specs.Onsets.{Sourced, bare_acts}
use Rattle.drive_scripts.specs.Explanations.{told_reasons}
use Rattle.drive_scripts.specs.Sources.{source_of}
use Rattle.drive_scripts.specs.DriveCourses.{DriveCourse, OnDrive, ExplainedDrive, DriveSteps, DriveRunsOn, DriveStands, Explains, ExplainedHas, ExplainedSteps, drive_course_step, drive_start, explained_drive, goes_on_drive, line_course, step_by, source_said}
use Rattle.drive_scripts.specs.Turns.{StepsBy}
use Rattle.drive_scripts.specs.Effects.{LineEffect, RunsOn, IsReached, Has, GoesTruly, Does, Acted}
use Rattle.drive_scripts.specs.declared.drive_phase.DrivePhase.{DrivePhase}
use Rattle.drive_scripts.specs.declared.running.RunningPhase.{RunningPhase}
use Rattle.drive_scripts.specs.declared.turn.Turn.{Turn}
use Rattle.drive_scripts.specs.declared.turn.Turn.TheVariants as turns
use Rattle.drive_scripts.proofs.Printed.{plainly, with-reasons}

-- a turn that goes on has the effect of its line
goes-so : (turn : Turn) (past : List Event) (new : RunningPhase) (o : Origin)
    (before after : Report) (effect : LineEffect) → GoesTruly turn past → Has new o before after effect
    → DriveSteps turn (Ok effect) new o before after
goes-so (turns.Goes aborted) past new o before after effect goes has = has
goes-so turns.ExpectationFailed past new o before after effect goes has = absurd goes
goes-so (turns.Bad fault) past new o before after effect goes has = absurd goes

-- nothing is done
nothing-done : (old new : RunningPhase) (o : Origin) (acts : List Act) (before after : Report)
    → RunsOn old o acts → new ≡ old → after ≡ before
    → Has new o before after (record { acts = acts; lines = [] })
nothing-done old new o acts before after runs same kept = record {
  runs = subst (λ run. RunsOn run o acts) (sym same) runs;
  prints = record {
    pending = ap (λ (report : Report). report.pending.items) kept ∙ sym (append-nil before.pending.items);
    last = ap (λ (report : Report). report.last.items) kept;
  };
}

expects-so : (held : Bool) (turn : Turn) (old new : RunningPhase) (o : Origin) (acts : List Act)
    (before after : Report) → RunsOn old o acts → new ≡ old → after ≡ before
    → turn ≡ (if held then turns.Goes false else turns.ExpectationFailed)
    → DriveSteps turn (if held then Ok (record { acts = acts; lines = [] }) else Err 1) new o before after
expects-so true turn old new o acts before after runs same kept is =
    subst
    (λ turn. DriveSteps turn (Ok (record { acts = acts; lines = [] })) new o before after)
    (sym is) (nothing-done old new o acts before after runs same kept)
expects-so false turn old new o acts before after runs same kept is =
    subst (λ turn. DriveSteps turn (Err 1) new o before after) (sym is) (refl, kept)

does-so : (line : told.Line) (text : List ℕ) (turn : Turn) (old new : RunningPhase) (o : Origin)
    (acts : List Act) (before after : Report)
    → RunsOn old o acts → Does line text turn old new o acts before after
    → DriveSteps turn (step_by o acts before.last.items text line) new o before after
does-so (lines.Read transfer) text turn old new o acts before after runs does =
    goes-so turn _ new o before after _ does.1 does.0
does-so (lines.Write transfer byte) text turn old new o acts before after runs does =
    goes-so turn _ new o before after _ does.1 does.0
does-so (lines.ReadDma transfer) text turn old new o acts before after runs does =
    goes-so turn _ new o before after _ does.1 does.0
does-so (lines.WriteDma transfer byte) text turn old new o acts before after runs does =
    goes-so turn _ new o before after _ does.1 does.0
does-so (lines.Call client com_id session tokens) text turn old new o acts before after runs does =
    goes-so turn _ new o before after _ does.1 does.0
does-so (lines.Send client com_id packet) text turn old new o acts before after runs does =
    goes-so turn _ new o before after _ does.1 does.0
does-so (lines.Receive client com_id blocks) text turn old new o acts before after runs does =
    goes-so turn _ new o before after _ does.1 does.0
does-so (lines.SecurityIn client protocol sp_specific blocks) text turn old new o acts before after runs does =
    goes-so turn _ new o before after _ does.1 does.0
does-so (lines.SecurityOut client protocol sp_specific payload) text turn old new o acts before after runs does =
    goes-so turn _ new o before after _ does.1 does.0
does-so (lines.Identify client) text turn old new o acts before after runs does =
    goes-so turn _ new o before after _ does.1 does.0
does-so (lines.Log client) text turn old new o acts before after runs does =
    goes-so turn _ new o before after _ does.1 does.0
does-so (lines.Reset client kind) text turn old new o acts before after runs does =
    goes-so turn _ new o before after _ does.1 does.0
does-so (lines.TperReset client) text turn old new o acts before after runs does =
    goes-so turn _ new o before after _ does.1 does.0
does-so lines.Expect text turn old new o acts before after runs does =
    expects-so (bytes_eq before.last.items (expected_text text)) turn old new o acts before after
    runs does.0 does.1 does.2
does-so (lines.Range row) text turn old new o acts before after runs does =
    subst (λ turn. DriveSteps turn (Err 2) new o before after) (sym does.2) (refl, does.1)

-- what a line does is its step
pub steps-after : {E : Type 0} (r : Result Turn E) (line : told.Line) (text : List ℕ)
    (old new : RunningPhase) (before after : Report) → line_said text ≡ Ok line
    → IfOk r
    (λ turn. (o : Origin) (acts : List Act) → RunsOn old o acts
    → Does line text turn old new o acts before after)
    → IfOk r
    (λ turn. (o : Origin) (acts : List Act) → RunsOn old o acts
    → DriveSteps turn (line_course o acts before.last.items text (line_said text)) new o before after)
steps-after (Ok turn) line text old new before after reads does = λ o acts runs.
    subst
    (λ read. DriveSteps turn (line_course o acts before.last.items text read) new o before after)
    (sym reads)
    (does-so line text turn old new o acts before after runs (does o acts runs))
steps-after (Err e) line text old new before after reads does = does

-- reasons that are told behind what a line did

has-explains : (new : RunningPhase) (kept : KeptReasons) (o : Origin) (past : List Sourced) (source : Source)
    (before mid after : Report) (effect : LineEffect) → Has new o before mid effect
    → Explains source o past effect.acts kept mid after
    → ExplainedHas new kept o past source before after effect
has-explains new kept o past source before mid after effect has explains = record {
  runs = has.runs;
  bare = explains.bare;
  recounts = explains.recounts;
  tells = with-reasons before mid after effect.lines (told_reasons o past effect.acts) has.prints
      explains.pending explains.last;
}

gone-explained : (turn : Turn) (aborted : Bool) (new : RunningPhase) (kept : KeptReasons) (o : Origin)
    (past : List Sourced) (source : Source) (before mid after : Report) (effect : LineEffect)
    → turn ≡ turns.Goes aborted → Has new o before mid effect
    → Explains source o past effect.acts kept mid after
    → ExplainedSteps turn (Ok effect) source o past new kept before after
gone-explained turn aborted new kept o past source before mid after effect is has explains =
    subst (λ turn. ExplainedSteps turn (Ok effect) source o past new kept before after) (sym is)
    (has-explains new kept o past source before mid after effect has explains)

expects-explained : (held : Bool) (turn : Turn) (aborted : Bool) (old new : RunningPhase) (kept : KeptReasons)
    (o : Origin) (past : List Sourced) (source : Source) (before mid after : Report)
    → turn ≡ turns.Goes aborted → RunsOn old o (bare_acts past) → new ≡ old → mid ≡ before
    → turn ≡ (if held then turns.Goes false else turns.ExpectationFailed)
    → (RunsOn new o (bare_acts past) → Explains source o past (bare_acts past) kept mid after)
    → ExplainedSteps turn (if held then Ok (record { acts = bare_acts past; lines = [] }) else Err 1)
    source o past new kept before after
expects-explained true turn aborted old new kept o past source before mid after is runs same quiet so explains =
    let has = nothing-done old new o (bare_acts past) before mid runs same quiet in
    gone-explained turn aborted new kept o past source before mid after
    (record { acts = bare_acts past; lines = [] }) is has (explains has.runs)
expects-explained false turn aborted old new kept o past source before mid after is runs same quiet so explains =
    absurd (cc (is, so))

explained-so : (line : told.Line) (text : List ℕ) (turn : Turn) (aborted : Bool) (old new : RunningPhase)
    (kept : KeptReasons) (o : Origin) (past : List Sourced) (source : Source) (before mid after : Report)
    → turn ≡ turns.Goes aborted → RunsOn old o (bare_acts past)
    → Does line text turn old new o (bare_acts past) before mid
    → ((acts : List Act) → RunsOn new o acts → Acted line new o (bare_acts past) acts
    → Explains source o past acts kept mid after)
    → ExplainedSteps turn (step_by o (bare_acts past) before.last.items text line) source o past new kept before after
explained-so (lines.Read transfer) text turn aborted old new kept o past source before mid after is runs does explains =
    gone-explained turn aborted new kept o past source before mid after _ is does.0
    (explains _ does.0.runs does.2)
explained-so (lines.Write transfer byte) text turn aborted old new kept o past source before mid after is runs does explains =
    gone-explained turn aborted new kept o past source before mid after _ is does.0
    (explains _ does.0.runs does.2)
explained-so (lines.ReadDma transfer) text turn aborted old new kept o past source before mid after is runs does explains =
    gone-explained turn aborted new kept o past source before mid after _ is does.0
    (explains _ does.0.runs does.2)
explained-so (lines.WriteDma transfer byte) text turn aborted old new kept o past source before mid after is runs does explains =
    gone-explained turn aborted new kept o past source before mid after _ is does.0
    (explains _ does.0.runs does.2)
explained-so (lines.Call client com_id session tokens) text turn aborted old new kept o past source before mid after is runs does explains =
    gone-explained turn aborted new kept o past source before mid after _ is does.0
    (explains _ does.0.runs does.2)
explained-so (lines.Send client com_id packet) text turn aborted old new kept o past source before mid after is runs does explains =
    gone-explained turn aborted new kept o past source before mid after _ is does.0
    (explains _ does.0.runs does.2)
explained-so (lines.Receive client com_id blocks) text turn aborted old new kept o past source before mid after is runs does explains =
    gone-explained turn aborted new kept o past source before mid after _ is does.0
    (explains _ does.0.runs does.2)
explained-so (lines.SecurityIn client protocol sp_specific blocks) text turn aborted old new kept o past source before mid after is runs does explains =
    gone-explained turn aborted new kept o past source before mid after _ is does.0
    (explains _ does.0.runs does.2)
explained-so (lines.SecurityOut client protocol sp_specific payload) text turn aborted old new kept o past source before mid after is runs does explains =
    gone-explained turn aborted new kept o past source before mid after _ is does.0
    (explains _ does.0.runs does.2)
explained-so (lines.Identify client) text turn aborted old new kept o past source before mid after is runs does explains =
    gone-explained turn aborted new kept o past source before mid after _ is does.0
    (explains _ does.0.runs does.2)
explained-so (lines.Log client) text turn aborted old new kept o past source before mid after is runs does explains =
    gone-explained turn aborted new kept o past source before mid after _ is does.0
    (explains _ does.0.runs does.2)
explained-so (lines.TperReset client) text turn aborted old new kept o past source before mid after is runs does explains =
    gone-explained turn aborted new kept o past source before mid after _ is does.0
    (explains _ does.0.runs does.2)
explained-so (lines.Reset client kind) text turn aborted old new kept o past source before mid after is runs does explains =
    gone-explained turn aborted new kept o past source before mid after _ is does.0
    (explains _ does.0.runs refl)
explained-so lines.Expect text turn aborted old new kept o past source before mid after is runs does explains =
    expects-explained (bytes_eq before.last.items (expected_text text)) turn aborted old new kept o past source
    before mid after is runs does.0 does.1 does.2 (λ now. explains (bare_acts past) now refl)
explained-so (lines.Range row) text turn aborted old new kept o past source before mid after is runs does explains =
    absurd (cc (is, does.2))

-- what a line that was done did, with its reasons
pub explained-after : (line : told.Line) (text : List ℕ) (turn : Turn) (aborted : Bool)
    (old new : RunningPhase) (kept : KeptReasons) (o : Origin) (past : List Sourced) (number : ℕ)
    (before mid after : Report)
    → line_said text ≡ Ok line → turn ≡ turns.Goes aborted → RunsOn old o (bare_acts past)
    → Does line text turn old new o (bare_acts past) before mid
    → ((acts : List Act) → RunsOn new o acts → Acted line new o (bare_acts past) acts
    → Explains (source_of number line) o past acts kept mid after)
    → ExplainedSteps turn (line_course o (bare_acts past) before.last.items text (line_said text))
    (source_said number (line_said text)) o past new kept before after
explained-after line text turn aborted old new kept o past number before mid after reads is runs does explains =
    subst
    (λ read. ExplainedSteps turn (line_course o (bare_acts past) before.last.items text read)
    (source_said number read) o past new kept before after)
    (sym reads)
    (explained-so line text turn aborted old new kept o past (source_of number line) before mid after is
    runs does explains)

-- a line that ended the run has no reasons
pub explained-ends : (turn : Turn) (result : Result LineEffect ℕ) (source : Source) (o : Origin)
    (past : List Sourced) (new : RunningPhase) (kept : KeptReasons) (before after : Report)
    → ((aborted : Bool) → turn ≡ turns.Goes aborted → ⊥) → DriveSteps turn result new o before after
    → ExplainedSteps turn result source o past new kept before after
explained-ends (turns.Goes aborted) result source o past new kept before after ends steps =
    absurd (ends aborted refl)
explained-ends turns.ExpectationFailed (Ok effect) source o past new kept before after ends is = absurd is
explained-ends turns.ExpectationFailed (Err status) source o past new kept before after ends is = is
explained-ends (turns.Bad fault) (Ok effect) source o past new kept before after ends is = absurd is
explained-ends (turns.Bad fault) (Err status) source o past new kept before after ends is = is

-- a line that says nothing does not go on
pub says-something : (turn : Turn) (aborted : Bool) (result : Result told.Line LineFault) (fault : LineFault)
    (o : Origin) (acts : List Act) (last text : List ℕ) (new : RunningPhase) (before after : Report)
    → turn ≡ turns.Goes aborted → result ≡ Err fault
    → DriveSteps turn (line_course o acts last text result) new o before after → ⊥
says-something turn aborted result fault o acts last text new before after is none steps =
    subst (λ turn. DriveSteps turn (Err 2) new o before after) is
    (subst (λ read. DriveSteps turn (line_course o acts last text read) new o before after) none steps)

-- a line that went on, with its reasons
pub explained-gone : (read : Result told.Line LineFault) (text : List ℕ) (turn : Turn) (aborted : Bool)
    (old new : RunningPhase) (kept : KeptReasons) (o : Origin) (past : List Sourced) (number : ℕ)
    (before mid after : Report)
    → line_said text ≡ read → turn ≡ turns.Goes aborted → RunsOn old o (bare_acts past)
    → ((line : told.Line) → line_said text ≡ Ok line → Does line text turn old new o (bare_acts past) before mid)
    → DriveSteps turn (line_course o (bare_acts past) before.last.items text (line_said text)) new o before mid
    → ((line : told.Line) → line_said text ≡ Ok line
    → (acts : List Act) → RunsOn new o acts → Acted line new o (bare_acts past) acts
    → Explains (source_of number line) o past acts kept mid after)
    → ExplainedSteps turn (line_course o (bare_acts past) before.last.items text (line_said text))
    (source_said number (line_said text)) o past new kept before after
explained-gone (Ok line) text turn aborted old new kept o past number before mid after reads is runs does steps explains =
    explained-after line text turn aborted old new kept o past number before mid after reads is runs
    (does line reads) (explains line reads)
explained-gone (Err fault) text turn aborted old new kept o past number before mid after reads is runs does steps explains =
    absurd (says-something turn aborted (line_said text) fault o (bare_acts past) before.last.items text new before mid
    is reads steps)

-- a drive that a script runs on

drive-plain : (turn : Turn) (result : Result LineEffect ℕ) (new : DrivePhase) (o : Origin)
    (before after : Report) → new.explainer ≡ None → DriveSteps turn result new.run o before after
    → StepsBy DriveCourse (DriveRunsOn new o) turn (goes_on_drive result) before after
drive-plain (turns.Goes aborted) (Ok effect) new o before after none has =
    record { runs = (has.runs, none); tells = plainly before after effect.lines has.prints }
drive-plain (turns.Goes aborted) (Err status) new o before after none is = absurd is
drive-plain turns.ExpectationFailed (Ok effect) new o before after none is = absurd is
drive-plain turns.ExpectationFailed (Err status) new o before after none is = is
drive-plain (turns.Bad fault) (Ok effect) new o before after none is = absurd is
drive-plain (turns.Bad fault) (Err status) new o before after none is = is

drive-explained : (turn : Turn) (result : Result LineEffect ℕ) (new : DrivePhase) (kept : KeptReasons)
    (source : Source) (o : Origin) (past : List Sourced) (before after : Report)
    → new.explainer ≡ Some kept
    → ExplainedSteps turn result source o past new.run kept before after
    → StepsBy DriveCourse (DriveRunsOn new o) turn (explained_drive o past source result) before after
drive-explained (turns.Goes aborted) (Ok effect) new kept source o past before after is has = record {
  runs = (
    subst (λ acts. RunsOn new.run o acts) (sym has.bare) has.runs,
    kept,
    is,
    has.recounts,
  );
  tells = has.tells;
}
drive-explained (turns.Goes aborted) (Err status) new kept source o past before after is never = absurd never
drive-explained turns.ExpectationFailed (Ok effect) new kept source o past before after is never = absurd never
drive-explained turns.ExpectationFailed (Err status) new kept source o past before after is never = never
drive-explained (turns.Bad fault) (Ok effect) new kept source o past before after is never = absurd never
drive-explained (turns.Bad fault) (Err status) new kept source o past before after is never = never

-- a turn of a drive that keeps nothing for reasons
pub plain-turn : {E : Type 0} (r : Result Turn E) (old new : DrivePhase) (number : ℕ) (text : List ℕ)
    (before after : Report) → old.explainer ≡ None → new.explainer ≡ None
    → IfOk r
    (λ turn. (o : Origin) (acts : List Act) → RunsOn old.run o acts
    → DriveSteps turn (line_course o acts before.last.items text (line_said text)) new.run o before after)
    → IfOk r
    (λ turn. (o : Origin) (course : DriveCourse) → DriveRunsOn old o course
    → StepsBy DriveCourse (DriveRunsOn new o) turn
    (drive_course_step o course before.last.items number text) before after)
plain-turn (Ok turn) old new number text before after was none does = by-course
  where
    by-course : (o : Origin) (course : DriveCourse) → DriveRunsOn old o course
        → StepsBy DriveCourse (DriveRunsOn new o) turn
        (drive_course_step o course before.last.items number text) before after
    by-course o (OnDrive acts) runs =
        drive-plain turn (line_course o acts before.last.items text (line_said text)) new o before after
        none (does o acts runs.0)
    by-course o (ExplainedDrive past) runs = absurd (cc (was, runs.2))
plain-turn (Err e) old new number text before after was none does = does

-- and of one that keeps something
pub kept-turn : {E : Type 0} (r : Result Turn E) (old new : DrivePhase) (kept now : KeptReasons) (number : ℕ)
    (text : List ℕ) (before after : Report) → old.explainer ≡ Some kept → new.explainer ≡ Some now
    → IfOk r
    (λ turn. (o : Origin) (past : List Sourced) → RunsOn old.run o (bare_acts past)
    → RecountsAll kept o past
    → ExplainedSteps turn (line_course o (bare_acts past) before.last.items text (line_said text))
    (source_said number (line_said text)) o past new.run now before after)
    → IfOk r
    (λ turn. (o : Origin) (course : DriveCourse) → DriveRunsOn old o course
    → StepsBy DriveCourse (DriveRunsOn new o) turn
    (drive_course_step o course before.last.items number text) before after)
kept-turn (Ok turn) old new kept now number text before after was is does = by-course
  where
    by-course : (o : Origin) (course : DriveCourse) → DriveRunsOn old o course
        → StepsBy DriveCourse (DriveRunsOn new o) turn
        (drive_course_step o course before.last.items number text) before after
    by-course o (OnDrive acts) runs = absurd (cc (was, runs.1))
    by-course o (ExplainedDrive past) runs =
        let same : runs.1 ≡ kept = cc (runs.2, was) in
        drive-explained turn (line_course o (bare_acts past) before.last.items text (line_said text)) new now
        (source_said number (line_said text)) o past before after is
        (does o past runs.0 (subst (λ k. RecountsAll k o past) same runs.3))
kept-turn (Err e) old new kept now number text before after was is does = does

-- where nothing was done

pub drive-starts : (explains : Bool) (drive : DrivePhase) (o : Origin) → explains ≡ false → drive.explainer ≡ None
    → RunsOn drive.run o [] → DriveRunsOn drive o (drive_start explains)
drive-starts explains drive o plain none runs =
    subst (λ (b : Bool). DriveRunsOn drive o (drive_start b)) (sym plain) (runs, none)

pub explained-starts : (explains : Bool) (drive : DrivePhase) (kept : KeptReasons) (o : Origin) → explains ≡ true
    → drive.explainer ≡ Some kept → RunsOn drive.run o [] → RecountsAll kept o []
    → DriveRunsOn drive o (drive_start explains)
explained-starts explains drive kept o so is runs recounts =
    subst (λ (b : Bool). DriveRunsOn drive o (drive_start b)) (sym so) (runs, kept, is, recounts)

-- a drive that stands is one that some acts leave so
pub stands-reached : (drive : DrivePhase) → DriveStands drive → IsReached drive.run
stands-reached drive (o, OnDrive acts, runs) = (o, acts, runs.0)
stands-reached drive (o, ExplainedDrive past, runs) = (o, bare_acts past, runs.0)
