-- What the turn of a line is, on a port.
use Rattle.std.proofs.Common.{◌≡◌, ◌∙◌, ℕ, Bool, true, false, List, [], ◌++◌, refl, sym, ap, subst, append-nil, Option, None, Some, Result, Ok, Err, IfOk}
use Rattle.std.specs.Prelude.{if◌then◌else◌}
use Rattle.std.specs.Str.{bytes_eq}
use Rattle.history.specs.Opening.{Origin}
use Rattle.port_history.specs.declared.step.Step.{Step}
use Rattle.script_lines.specs.Lines.{expected_text}
use Rattle.script_lines.specs.PortLines.{port_line_of}
use Rattle.script_lines.specs.declared.fault.LineFault.{LineFault}
use Rattle.script_lines.specs.declared.port_line.PortLine as told_of_port
use Rattle.script_lines.specs.declared.port_line.PortLine.TheVariants as port_lines
use Rattle.script_lines.specs.declared.report.Report.{Report}
use Rattle.port_history.specs.Refusals.{refusal}
use Rattle.port_history.specs.Steps.{trace}
use Rattle.port_history.specs.declared.error.PortError.{PortError}
use Rattle.port_history.specs.declared.step.Step.TheVariants as steps
use Rattle.drive_scripts.specs.Kept.{KeptReasons, RecountsAll}
use Rattle.drive_scripts.specs.Turns.{AdvanceOf, StepsBy}
use Rattle.drive_scripts.specs.declared.turn.Fault.TheVariants as faults
use Rattle.drive_scripts.specs.declared.turn.Turn.{Turn}
use Rattle.drive_scripts.specs.declared.turn.Turn.TheVariants as turns
use Rattle.drive_scripts.proofs.Printed.{plainly, with-reasons}
use Rattle.port_scripts.specs.PortActs.{LinedStep, bare_steps, steps_done}
use Rattle.port_scripts.specs.PortCourses.{PortCourse, OnPort, ExplainedPort, DeskRunsOn, KeepsCourse, KeepsPort, PortSteps, explained_port, explained_step, on_port, port_course_step, port_start, port_step, port_step_by, step_said}
use Rattle.port.specs.Live.{LiveAgrees}
use Rattle.port_scripts.specs.PortEffects.{PortEffect, PortRunsOn, PortHas, PortDoes, request_of, step_effect, step_in, stepped, turn_without}
use Rattle.port_scripts.specs.PortReasons.{ExplainsStep, reasons_by, step_reasons, steps_after, steps_behind}
use Rattle.drive_scripts.specs.Acts.{kind_named}
use Rattle.port_scripts.specs.declared.port_desk.PortDesk.{PortDesk}
use Rattle.port_scripts.specs.declared.port_phase.PortPhase.{PortPhase}

-- a port

port-goes-plain : (turn : Turn) (new : PortPhase) (o : Origin) (before after : Report)
    (effect : PortEffect) → PortHas new o before after effect → turn ≡ turns.Goes false
    → PortSteps turn (Ok effect) [] new o before after
port-goes-plain turn new o before after effect has is =
    subst (λ turn. PortSteps turn (Ok effect) [] new o before after) (sym is)
    (record { runs = has.runs; tells = plainly before after effect.lines has.prints })

port-expects : (held : Bool) (turn : Turn) (old new : PortPhase) (o : Origin) (list : List Step)
    (before after : Report) → PortRunsOn old o list → new ≡ old → after ≡ before
    → turn ≡ (if held then turns.Goes false else turns.ExpectationFailed)
    → PortSteps turn (if held then Ok (record { steps = list; lines = [] }) else Err 1) [] new o before after
port-expects true turn old new o list before after runs same kept is =
    port-goes-plain turn new o before after (record { steps = list; lines = [] })
    (record {
      runs = subst (λ phase. PortRunsOn phase o list) (sym same) runs;
      prints = record {
        pending = ap (λ (report : Report). report.pending.items) kept ∙ sym (append-nil before.pending.items);
        last = ap (λ (report : Report). report.last.items) kept;
      };
    }) is
port-expects false turn old new o list before after runs same kept is =
    subst (λ turn. PortSteps turn (Err 1) [] new o before after) (sym is) (refl, kept)

port-does : (line : told_of_port.PortLine) (text : List ℕ) (turn : Turn) (old new : PortPhase)
    (o : Origin) (list : List Step) (before after : Report)
    → PortRunsOn old o list → PortDoes line text turn old new o list before after
    → PortSteps turn (port_step_by o list before.last.items text line) [] new o before after
port-does (port_lines.Put client tag request) text turn old new o list before after runs does =
    port-goes-plain turn new o before after _ does.0 does.1
port-does (port_lines.Issue tag) text turn old new o list before after runs does =
    port-goes-plain turn new o before after _ does.0 does.1
port-does (port_lines.Accept tag) text turn old new o list before after runs does =
    port-goes-plain turn new o before after _ does.0 does.1
port-does (port_lines.Complete tag) text turn old new o list before after runs does =
    port-goes-plain turn new o before after _ does.0 does.1
port-does port_lines.Recover text turn old new o list before after runs does =
    port-goes-plain turn new o before after _ does.0 does.1
port-does (port_lines.Reset client kind) text turn old new o list before after runs does =
    port-goes-plain turn new o before after _ does.0 does.1
port-does (port_lines.Take client tag) text turn old new o list before after runs does =
    port-goes-plain turn new o before after _ does.0 does.1
port-does port_lines.Expect text turn old new o list before after runs does =
    port-expects (bytes_eq before.last.items (expected_text text)) turn old new o list before after
    runs does.0 does.1 does.2
port-does (port_lines.Range row) text turn old new o list before after runs does =
    subst (λ turn. PortSteps turn (Err 2) [] new o before after) (sym does.2) (refl, does.1)

-- what a port's turn is, by what its line says
port-by : {E : Type 0} (read : Result told_of_port.PortLine LineFault) (r : Result Turn E) (text : List ℕ)
    (old new : PortPhase) (before after : Report) → port_line_of text ≡ read
    → ((line : told_of_port.PortLine) → port_line_of text ≡ Ok line → IfOk r
    (λ turn. (o : Origin) (list : List Step) → PortRunsOn old o list
    → PortDoes line text turn old new o list before after))
    → ((fault : LineFault) → port_line_of text ≡ Err fault → r ≡ Ok (turns.Bad (faults.Line fault)))
    → ((fault : LineFault) → port_line_of text ≡ Err fault → after ≡ before)
    → IfOk r
    (λ turn. (o : Origin) (list : List Step) → PortRunsOn old o list
    → PortSteps turn (port_step o list before.last.items text read) [] new o before after)
port-by (Ok line) (Ok turn) text old new before after reads does bad kept = λ o list runs.
    port-does line text turn old new o list before after runs (does line reads o list runs)
port-by (Ok line) (Err e) text old new before after reads does bad kept = does line reads
port-by (Err fault) r text old new before after reads does bad kept =
    subst
    (λ r. IfOk r
    (λ turn. (o : Origin) (list : List Step) → PortRunsOn old o list
    → PortSteps turn (Err 2) [] new o before after))
    (sym (bad fault reads)) (λ o list runs. (refl, kept fault reads))

pub port-steps : {E : Type 0} (r : Result Turn E) (text : List ℕ)
    (old new : PortPhase) (before after : Report)
    → ((line : told_of_port.PortLine) → port_line_of text ≡ Ok line → IfOk r
    (λ turn. (o : Origin) (list : List Step) → PortRunsOn old o list
    → PortDoes line text turn old new o list before after))
    → ((fault : LineFault) → port_line_of text ≡ Err fault → r ≡ Ok (turns.Bad (faults.Line fault)))
    → ((fault : LineFault) → port_line_of text ≡ Err fault → after ≡ before)
    → IfOk r
    (λ turn. (o : Origin) (list : List Step) → PortRunsOn old o list
    → PortSteps turn (port_step o list before.last.items text (port_line_of text)) [] new o before after)
port-steps r text old new before after does bad kept =
    port-by (port_line_of text) r text old new before after refl does bad kept

same-value : {A : Type 0} (a b : A) → ◌≡◌ {A = Option A} (Some a) (Some b) → a ≡ b
same-value a b same = cc same

-- a line that asks for a step does it
pub does-asked : (line : told_of_port.PortLine) (step : Step) (text : List ℕ) (old new : PortPhase) (o : Origin)
    (list : List Step) (before after : Report) → step_in line ≡ Some step
    → PortHas new o before after (step_effect o list step)
    → PortDoes line text (turns.Goes false) old new o list before after
does-asked (port_lines.Put client tag request) step text old new o list before after asks has =
    (subst (λ (s : Step). PortHas new o before after (step_effect o list s)) (sym (same-value _ step asks)) has, refl)
does-asked (port_lines.Issue tag) step text old new o list before after asks has =
    (subst (λ (s : Step). PortHas new o before after (step_effect o list s)) (sym (same-value _ step asks)) has, refl)
does-asked (port_lines.Accept tag) step text old new o list before after asks has =
    (subst (λ (s : Step). PortHas new o before after (step_effect o list s)) (sym (same-value _ step asks)) has, refl)
does-asked (port_lines.Complete tag) step text old new o list before after asks has =
    (subst (λ (s : Step). PortHas new o before after (step_effect o list s)) (sym (same-value _ step asks)) has, refl)
does-asked port_lines.Recover step text old new o list before after asks has =
    (subst (λ (s : Step). PortHas new o before after (step_effect o list s)) (sym (same-value _ step asks)) has, refl)
does-asked (port_lines.Reset client kind) step text old new o list before after asks has =
    (subst (λ (s : Step). PortHas new o before after (step_effect o list s)) (sym (same-value _ step asks)) has, refl)
does-asked (port_lines.Take client tag) step text old new o list before after asks has =
    (subst (λ (s : Step). PortHas new o before after (step_effect o list s)) (sym (same-value _ step asks)) has, refl)
does-asked port_lines.Expect step text old new o list before after asks has = absurd (cc asks)
does-asked (port_lines.Range row) step text old new o list before after asks has = absurd (cc asks)

-- and one that asks for none changes nothing
pub does-unasked : (line : told_of_port.PortLine) (text : List ℕ) (phase : PortPhase) (o : Origin) (list : List Step)
    (report : Report) → step_in line ≡ None
    → PortDoes line text (turn_without line report.last.items text) phase phase o list report report
does-unasked (port_lines.Put client tag request) text phase o list report none = absurd (cc none)
does-unasked (port_lines.Issue tag) text phase o list report none = absurd (cc none)
does-unasked (port_lines.Accept tag) text phase o list report none = absurd (cc none)
does-unasked (port_lines.Complete tag) text phase o list report none = absurd (cc none)
does-unasked port_lines.Recover text phase o list report none = absurd (cc none)
does-unasked (port_lines.Reset client kind) text phase o list report none = absurd (cc none)
does-unasked (port_lines.Take client tag) text phase o list report none = absurd (cc none)
does-unasked port_lines.Expect text phase o list report none = (refl, refl, refl)
does-unasked (port_lines.Range row) text phase o list report none = (refl, refl, refl)

-- what a line makes of the course that asks for a step
asked-line : (line : told_of_port.PortLine) (o : Origin) (list : List Step) (last text : List ℕ) (step : Step)
    → step_in line ≡ Some step → port_step_by o list last text line ≡ Ok (step_effect o list step)
asked-line (port_lines.Put client tag request) o list last text step asks =
    ap (λ (s : Step). Ok (step_effect o list s)) (same-value _ step asks)
asked-line (port_lines.Issue tag) o list last text step asks =
    ap (λ (s : Step). Ok (step_effect o list s)) (same-value _ step asks)
asked-line (port_lines.Accept tag) o list last text step asks =
    ap (λ (s : Step). Ok (step_effect o list s)) (same-value _ step asks)
asked-line (port_lines.Complete tag) o list last text step asks =
    ap (λ (s : Step). Ok (step_effect o list s)) (same-value _ step asks)
asked-line port_lines.Recover o list last text step asks =
    ap (λ (s : Step). Ok (step_effect o list s)) (same-value _ step asks)
asked-line (port_lines.Reset client kind) o list last text step asks =
    ap (λ (s : Step). Ok (step_effect o list s)) (same-value _ step asks)
asked-line (port_lines.Take client tag) o list last text step asks =
    ap (λ (s : Step). Ok (step_effect o list s)) (same-value _ step asks)
asked-line port_lines.Expect o list last text step asks = absurd (cc asks)
asked-line (port_lines.Range row) o list last text step asks = absurd (cc asks)

asked-step : (read : Result told_of_port.PortLine LineFault) (o : Origin) (list : List Step) (last text : List ℕ)
    (step : Step) → step_said read ≡ Some step → port_step o list last text read ≡ Ok (step_effect o list step)
asked-step (Ok line) o list last text step asks = asked-line line o list last text step asks
asked-step (Err fault) o list last text step asks = absurd (cc asks)

asked-course : (o : Origin) (past : List LinedStep) (last : List ℕ) (number : ℕ) (text : List ℕ) (step : Step)
    → step_said (port_line_of text) ≡ Some step
    → explained_step o past number step ≡ port_course_step o (ExplainedPort past) last number text
asked-course o past last number text step asks =
    let list = bare_steps past in
    let read = port_line_of text in
    ap
    (λ (r : Result PortEffect ℕ). explained_port (steps_after o past number (Some step)) (step_reasons o past (Some step)) r)
    (sym (asked-step read o list last text step asks))
    ∙ ap
    (λ (s : Option Step). explained_port (steps_after o past number s) (step_reasons o past s)
    (port_step o list last text read))
    (sym asks)

pub asked-turn : {E : Type 0} (r : Result Turn E) (step : Step) (text : List ℕ) (old new : PortPhase)
    (kept now : KeptReasons) (number : ℕ) (before after : Report) → step_said (port_line_of text) ≡ Some step
    → IfOk r
    (λ turn. (o : Origin) (past : List LinedStep) → KeepsPort old kept o past
    → StepsBy PortCourse (KeepsCourse new now o) turn (explained_step o past number step) before after)
    → IfOk r
    (λ turn. (o : Origin) (past : List LinedStep) → KeepsPort old kept o past
    → StepsBy PortCourse (KeepsCourse new now o) turn
    (port_course_step o (ExplainedPort past) before.last.items number text) before after)
asked-turn (Ok turn) step text old new kept now number before after asks steps = λ o past keeps.
    subst (λ course. StepsBy PortCourse (KeepsCourse new now o) turn course before after)
    (asked-course o past before.last.items number text step asks) (steps o past keeps)
asked-turn (Err e) step text old new kept now number before after asks steps = steps

-- the steps that a step leaves behind it, and a line
behind-is : (o : Origin) (past : List LinedStep) (number : ℕ) (step : Step) (refused : Option PortError)
    → (stepped o (bare_steps past) step refused).steps ≡ bare_steps (steps_behind past number step refused)
behind-is o past number step None = refl
behind-is o past number step (Some error) = refl

does-behind : (o : Origin) (past : List LinedStep) (number : ℕ) (step : Step)
    → (step_effect o (bare_steps past) step).steps ≡ bare_steps (steps_after o past number (Some step))
does-behind o past number step = behind-is o past number step (refusal (trace o (bare_steps past)) step)

abbrev held-effect : Bool → List Step → Result PortEffect ℕ
held-effect held list = if held then Ok (record { steps = list; lines = [] }) else Err 1

held-steps : (held : Bool) (list : List Step) → IfOk (held-effect held list) (λ effect. effect.steps ≡ list)
held-steps true list = refl
held-steps false list = tt

line-steps : (line : told_of_port.PortLine) (o : Origin) (past : List LinedStep) (number : ℕ) (last text : List ℕ)
    → IfOk (port_step_by o (bare_steps past) last text line)
    (λ effect. effect.steps ≡ bare_steps (steps_after o past number (step_in line)))
line-steps (port_lines.Put client tag request) o past number last text =
    does-behind o past number (steps.Put client tag (request_of request))
line-steps (port_lines.Issue tag) o past number last text = does-behind o past number (steps.Issue tag)
line-steps (port_lines.Accept tag) o past number last text = does-behind o past number (steps.Accept tag)
line-steps (port_lines.Complete tag) o past number last text = does-behind o past number (steps.Complete tag)
line-steps port_lines.Recover o past number last text = does-behind o past number steps.Recover
line-steps (port_lines.Reset client kind) o past number last text =
    does-behind o past number (steps.Reset client (kind_named kind))
line-steps (port_lines.Take client tag) o past number last text = does-behind o past number (steps.Take client tag)
line-steps port_lines.Expect o past number last text =
    held-steps (bytes_eq last (expected_text text)) (bare_steps past)
line-steps (port_lines.Range row) o past number last text = tt

read-steps : (read : Result told_of_port.PortLine LineFault) (o : Origin) (past : List LinedStep) (number : ℕ)
    (last text : List ℕ)
    → IfOk (port_step o (bare_steps past) last text read)
    (λ effect. effect.steps ≡ bare_steps (steps_after o past number (step_said read)))
read-steps (Ok line) o past number last text = line-steps line o past number last text
read-steps (Err fault) o past number last text = tt

-- a turn with what is kept for reasons
kept-steps : (turn : Turn) (result : Result PortEffect ℕ) (reasons : List ℕ) (new : PortPhase) (kept : KeptReasons)
    (o : Origin) (next : List LinedStep) (before after : Report)
    → PortSteps turn result reasons new o before after
    → IfOk result (λ effect. effect.steps ≡ bare_steps next) → RecountsAll kept o (steps_done o next)
    → StepsBy PortCourse (KeepsCourse new kept o) turn (explained_port next reasons result) before after
kept-steps (turns.Goes aborted) (Ok effect) reasons new kept o next before after goes same recounts = record {
  runs = record {
    runs = subst (λ list. PortRunsOn new o list) same goes.runs;
    recounts = recounts;
  };
  tells = goes.tells;
}
kept-steps (turns.Goes aborted) (Err status) reasons new kept o next before after is same recounts = absurd is
kept-steps turns.ExpectationFailed (Ok effect) reasons new kept o next before after is same recounts = absurd is
kept-steps turns.ExpectationFailed (Err status) reasons new kept o next before after is same recounts = is
kept-steps (turns.Bad fault) (Ok effect) reasons new kept o next before after is same recounts = absurd is
kept-steps (turns.Bad fault) (Err status) reasons new kept o next before after is same recounts = is

-- where a line asks for no step, no reasons are told
pub no-step : {E : Type 0} (r : Result Turn E) (text : List ℕ) (old new : PortPhase) (kept : KeptReasons) (number : ℕ)
    (before after : Report) → step_said (port_line_of text) ≡ None
    → IfOk r
    (λ turn. (o : Origin) (list : List Step) → PortRunsOn old o list
    → PortSteps turn (port_step o list before.last.items text (port_line_of text)) [] new o before after)
    → IfOk r
    (λ turn. (o : Origin) (past : List LinedStep) → KeepsPort old kept o past
    → StepsBy PortCourse (KeepsCourse new kept o) turn
    (port_course_step o (ExplainedPort past) before.last.items number text) before after)
no-step (Ok turn) text old new kept number before after none steps = λ o past keeps.
    let read = port_line_of text in
    kept-steps turn (port_step o (bare_steps past) before.last.items text read) (step_reasons o past (step_said read)) new
    kept o (steps_after o past number (step_said read)) before after
    (subst
    (λ step. PortSteps turn (port_step o (bare_steps past) before.last.items text read) (step_reasons o past step) new o
    before after)
    (sym none) (steps o (bare_steps past) keeps.runs))
    (read-steps read o past number before.last.items text)
    (subst (λ step. RecountsAll kept o (steps_done o (steps_after o past number step))) (sym none) keeps.recounts)
no-step (Err e) text old new kept number before after none steps = steps

-- a step with what is told behind it
pub step-told : (new : PortPhase) (kept : KeptReasons) (o : Origin) (past : List LinedStep) (number : ℕ) (step : Step)
    (reason : Option PortError) (before mid after : Report)
    → PortHas new o before mid (step_effect o (bare_steps past) step)
    → reason ≡ refusal (trace o (bare_steps past)) step → after.last ≡ mid.last
    → (LiveAgrees new.port o (bare_steps (steps_behind past number step reason))
    → ExplainsStep o past step number reason kept mid after)
    → StepsBy PortCourse (KeepsCourse new kept o) (turns.Goes false) (explained_step o past number step) before after
step-told new kept o past number step reason before mid after has is same explains =
    let refused = refusal (trace o (bare_steps past)) step in
    let behind = behind-is o past number step refused in
    let agrees : LiveAgrees new.port o (bare_steps (steps_behind past number step reason)) =
    subst (λ (r : Option PortError). LiveAgrees new.port o (bare_steps (steps_behind past number step r))) (sym is)
    (subst (λ (list : List Step). LiveAgrees new.port o list) behind has.runs.stands) in
    let told : ExplainsStep o past step number refused kept mid after =
    subst (λ (r : Option PortError). ExplainsStep o past step number r kept mid after) is (explains agrees) in
    record {
      runs = record {
        runs = subst (λ (list : List Step). PortRunsOn new o list) behind has.runs;
        recounts = told.recounts;
      };
      tells = with-reasons before mid after (step_effect o (bare_steps past) step).lines (reasons_by o past step refused)
          has.prints told.pending same;
    }

-- a port that a script runs on, with reasons or without

desk-plain : (turn : Turn) (result : Result PortEffect ℕ) (new : PortDesk) (o : Origin)
    (before after : Report) → new.explainer ≡ None → PortSteps turn result [] new.phase o before after
    → StepsBy PortCourse (DeskRunsOn new o) turn (on_port result) before after
desk-plain (turns.Goes aborted) (Ok effect) new o before after none has =
    record { runs = (has.runs, none); tells = has.tells }
desk-plain (turns.Goes aborted) (Err status) new o before after none is = absurd is
desk-plain turns.ExpectationFailed (Ok effect) new o before after none is = absurd is
desk-plain turns.ExpectationFailed (Err status) new o before after none is = is
desk-plain (turns.Bad fault) (Ok effect) new o before after none is = absurd is
desk-plain (turns.Bad fault) (Err status) new o before after none is = is

keeps-runs : (new : PortDesk) (kept : KeptReasons) (o : Origin) (course : PortCourse) → new.explainer ≡ Some kept
    → KeepsCourse new.phase kept o course → DeskRunsOn new o course
keeps-runs new kept o (OnPort list) is keeps = absurd keeps
keeps-runs new kept o (ExplainedPort past) is keeps = (kept, is, keeps)

desk-kept : (turn : Turn) (result : Result (AdvanceOf PortCourse) ℕ) (new : PortDesk) (kept : KeptReasons) (o : Origin)
    (before after : Report) → new.explainer ≡ Some kept
    → StepsBy PortCourse (KeepsCourse new.phase kept o) turn result before after
    → StepsBy PortCourse (DeskRunsOn new o) turn result before after
desk-kept (turns.Goes aborted) (Ok made) new kept o before after is has =
    record { runs = keeps-runs new kept o made.course is has.runs; tells = has.tells }
desk-kept (turns.Goes aborted) (Err status) new kept o before after is never = absurd never
desk-kept turns.ExpectationFailed (Ok made) new kept o before after is never = absurd never
desk-kept turns.ExpectationFailed (Err status) new kept o before after is never = never
desk-kept (turns.Bad fault) (Ok made) new kept o before after is never = absurd never
desk-kept (turns.Bad fault) (Err status) new kept o before after is never = never

pub plain-desk : {E : Type 0} (r : Result Turn E) (old new : PortDesk) (number : ℕ) (text : List ℕ)
    (before after : Report) → old.explainer ≡ None → new.explainer ≡ None
    → IfOk r
    (λ turn. (o : Origin) (list : List Step) → PortRunsOn old.phase o list
    → PortSteps turn (port_step o list before.last.items text (port_line_of text)) [] new.phase o before after)
    → IfOk r
    (λ turn. (o : Origin) (course : PortCourse) → DeskRunsOn old o course
    → StepsBy PortCourse (DeskRunsOn new o) turn
    (port_course_step o course before.last.items number text) before after)
plain-desk (Ok turn) old new number text before after was none does = by-course
  where
    by-course : (o : Origin) (course : PortCourse) → DeskRunsOn old o course
        → StepsBy PortCourse (DeskRunsOn new o) turn
        (port_course_step o course before.last.items number text) before after
    by-course o (OnPort list) runs =
        desk-plain turn (port_step o list before.last.items text (port_line_of text)) new o before after none
        (does o list runs.0)
    by-course o (ExplainedPort past) runs = absurd (cc (was, runs.1))
plain-desk (Err e) old new number text before after was none does = does

pub kept-desk : {E : Type 0} (r : Result Turn E) (old new : PortDesk) (kept now : KeptReasons) (number : ℕ)
    (text : List ℕ) (before after : Report) → old.explainer ≡ Some kept → new.explainer ≡ Some now
    → IfOk r
    (λ turn. (o : Origin) (past : List LinedStep) → KeepsPort old.phase kept o past
    → StepsBy PortCourse (KeepsCourse new.phase now o) turn
    (port_course_step o (ExplainedPort past) before.last.items number text) before after)
    → IfOk r
    (λ turn. (o : Origin) (course : PortCourse) → DeskRunsOn old o course
    → StepsBy PortCourse (DeskRunsOn new o) turn
    (port_course_step o course before.last.items number text) before after)
kept-desk (Ok turn) old new kept now number text before after was is does = by-course
  where
    by-course : (o : Origin) (course : PortCourse) → DeskRunsOn old o course
        → StepsBy PortCourse (DeskRunsOn new o) turn
        (port_course_step o course before.last.items number text) before after
    by-course o (OnPort list) runs = absurd (cc (was, runs.1))
    by-course o (ExplainedPort past) runs =
        let same : runs.0 ≡ kept = cc (runs.1, was) in
        desk-kept turn (port_course_step o (ExplainedPort past) before.last.items number text) new now o before after is
        (does o past (subst (λ k. KeepsPort old.phase k o past) same runs.2))
kept-desk (Err e) old new kept now number text before after was is does = does

-- where nothing was done
pub plain-starts : (explains : Bool) (desk : PortDesk) (o : Origin) → explains ≡ false → desk.explainer ≡ None
    → PortRunsOn desk.phase o [] → DeskRunsOn desk o (port_start explains)
plain-starts explains desk o plain none runs =
    subst (λ (b : Bool). DeskRunsOn desk o (port_start b)) (sym plain) (runs, none)

pub kept-starts : (explains : Bool) (desk : PortDesk) (kept : KeptReasons) (o : Origin) → explains ≡ true
    → desk.explainer ≡ Some kept → PortRunsOn desk.phase o [] → RecountsAll kept o []
    → DeskRunsOn desk o (port_start explains)
kept-starts explains desk kept o so is runs recounts =
    subst (λ (b : Bool). DeskRunsOn desk o (port_start b)) (sym so)
    (kept, is, record { runs = runs; recounts = recounts })
