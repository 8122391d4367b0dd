-- What lies under the lock stands after each step.
use Rattle.std.proofs.Common.{◌≡◌, ℕ, suc, ◌+◌, ◌≤◌, ◌<◌, ◌==◌, Bool, true, false, List, [], ◌∷◌, ◌++◌, length, reverse, if◌then◌else◌, Option, Some, None, Result, Ok, Err, refl, sym, ap, ◌∙◌, arith}
use Rattle.std.specs.Prelude.{OnOk, OnErr}
use Rattle.std.proofs.lemmas.List.{reverse-append}
use Rattle.history.specs.Opening.{Origin}
use Rattle.port_history.specs.declared.error.PortError.{PortError}
use Rattle.port_history.specs.declared.stages.Stage.{Stage}
use Rattle.port_history.specs.declared.stages.Stage.TheVariants.{Free, Prepared, Issued, Accepted, Answered}
use Rattle.port_history.specs.declared.step.EngineStep.{EngineStep}
use Rattle.port_history.specs.declared.step.EngineStep.TheVariants as engine
use Rattle.port_history.specs.declared.step.Entry.{Entry}
use Rattle.port_history.specs.declared.step.Step.{Step}
use Rattle.port_history.specs.declared.step.Step.TheVariants as steps
use Rattle.port_history.specs.Ready.{as_step, with_step, chosen, engine_ready}
use Rattle.port_history.specs.Stages.{to, is_queued_command, accepted_stage, recovered, stage_after_reset}
use Rattle.port_history.specs.Steps.{Moment, trace, stage, stage_after, failed, is_tag, entry, entries}
use Rattle.port.specs.Agreement.{PortAgrees}
use Rattle.port.specs.Answers.{stage_at}
use Rattle.port.specs.State.{PortState}
use Rattle.port.proofs.Agreeing.{count_is}
use Rattle.std.proofs.Math.Logic.{∥∥₁_map, ∥∥₁_elim}
use Rattle.std.specs.Coded.{le_prop, coded_ℕ, Coded-set}
use Rattle.locked_port.specs.Counts.{is_client, client_steps, AgreesAndCounts, Stands}

abbrev pub one : Bool → ℕ
one b = if b then 1 else 0

counts_append : (xs ys : List Entry) → client_steps (xs ++ ys) ≡ client_steps xs + client_steps ys
counts_append [] ys = omega arith
counts_append (x ∷ xs) ys = let e = counts_append xs ys in omega arith

-- one step more is one client step more, or none
pub counts_more : (o : Origin) (list : List Step) (step : Step) (old new : PortState) → PortAgrees old o list → PortAgrees new o (step ∷ list)
    → client_steps new.history ≡ client_steps old.history + one (is_client step)
counts_more o list step old new was now =
    let e : Entry = entry (trace o list) step in
    ap client_steps (now.history ∙ reverse-append (e ∷ []) (entries o list))
    ∙ counts_append (reverse (entries o list)) (e ∷ [])
    ∙ ap (λ (h : List Entry). client_steps h + client_steps (e ∷ [])) (sym was.history)
    ∙ last (client_steps old.history) (one (is_client step))
  where
    last : (n b : ℕ) → n + (b + 0) ≡ n + b
    last n b = omega arith

-- a port on which nothing was done
pub opened : (o : Origin) (port : PortState) → PortAgrees port o [] → Stands port 0
opened o port h = ∣ record { origin = o; list = []; agrees = h; counted = ap client_steps h.history } ∣₁

-- a client's step, and the book has one more
client_did : (step : Step) (total now : ℕ) (old new : PortState) → is_client step ≡ true → AgreesAndCounts old total
    → ((o : Origin) (list : List Step) → PortAgrees old o list → PortAgrees new o (step ∷ list)) → now ≡ total + 1 → AgreesAndCounts new now
client_did step total now old new is_client s keeps more = record {
  origin = s.origin;
  list = step ∷ s.list;
  agrees = keeps s.origin s.list s.agrees;
  counted = counts_more s.origin s.list step old new s.agrees (keeps s.origin s.list s.agrees) ∙ ap (λ (b : Bool). client_steps old.history + one b) is_client ∙ ap (λ (n : ℕ). n + 1) s.counted ∙ sym more;
}

pub client_step : (step : Step) (total now : ℕ) (old new : PortState) → is_client step ≡ true → Stands old total
    → ((o : Origin) (list : List Step) → PortAgrees old o list → PortAgrees new o (step ∷ list)) → now ≡ total + 1 → Stands new now
client_step step total now old new is_client s keeps more = ∥∥₁_map s (λ known. client_did step total now old new is_client known keeps more)

-- the same port
pub no_step : (total : ℕ) (old new : PortState) → new ≡ old → Stands old total → Stands new total
no_step total old new is s = rw is s

-- the book's total is the number of client steps
pub total_is : (total : ℕ) (port : PortState) → Stands port total → client_steps port.history ≡ total
total_is total port s = ∥∥₁_elim s (Coded-set coded_ℕ _ _) (λ known. known.counted)

pub recounted : (total now : ℕ) (port : PortState) → Stands port total → now ≡ client_steps port.history → Stands port now
recounted total now port s is = ∥∥₁_map s (λ known. record { origin = known.origin; list = known.list; agrees = known.agrees; counted = sym is })

engine_is_none : (step : EngineStep) → is_client (as_step step) ≡ false
engine_is_none (engine.Issue tag) = refl
engine_is_none (engine.Accept tag) = refl
engine_is_none (engine.Complete tag) = refl
engine_is_none engine.Recover = refl

engine_did : (o : Origin) (list : List Step) (step : Option EngineStep) (total : ℕ) (old new : PortState) → PortAgrees old o list → client_steps old.history ≡ total
    → PortAgrees new o (with_step step list) → AgreesAndCounts new total
engine_did o list None total old new was counted now =
    record { origin = o; list = list; agrees = now; counted = ap client_steps (now.history ∙ sym was.history) ∙ counted }
engine_did o list (Some step) total old new was counted now = record {
  origin = o;
  list = as_step step ∷ list;
  agrees = now;
  counted = counts_more o list (as_step step) old new was now ∙ ap (λ (b : Bool). client_steps old.history + one b) (engine_is_none step) ∙ last (client_steps old.history) ∙ counted;
}
  where
    last : (n : ℕ) → n + 0 ≡ n
    last n = omega arith

-- what a turn of the engine leaves, done or refused
pub turned : {A : Type 0} (r : Result A PortError) (choice total : ℕ) (old new : PortState) → Stands old total
    → OnOk r ((o : Origin) (list : List Step) → PortAgrees old o list → PortAgrees new o (with_step (chosen choice (engine_ready o list)) list))
    → OnErr r (new ≡ old) → Stands new total
turned (Ok a) choice total old new s keeps same =
    ∥∥₁_map s (λ known. engine_did known.origin known.list (chosen choice (engine_ready known.origin known.list)) total old new known.agrees known.counted (keeps known.origin known.list known.agrees))
turned (Err e) choice total old new s keeps same = no_step total old new same s

-- the number of the Put of a slot
abbrev pub number_in : Stage → ℕ
number_in Free = 0
number_in (Prepared put) = put.number
number_in (Issued put) = put.number
number_in (Accepted put) = put.number
number_in (Answered put) = put.number

either : (b : Bool) (x y : Stage) (n : ℕ) → number_in x ≤ n → number_in y ≤ n → number_in (if b then x else y) ≤ n
either true x y n h k = h
either false x y n h k = k

issued_number : (s : Stage) (n : ℕ) → number_in s ≤ n → number_in (to Issued s) ≤ n
issued_number Free n h = h
issued_number (Prepared put) n h = h
issued_number (Issued put) n h = h
issued_number (Accepted put) n h = h
issued_number (Answered put) n h = h

answered_number : (s : Stage) (n : ℕ) → number_in s ≤ n → number_in (to Answered s) ≤ n
answered_number Free n h = h
answered_number (Prepared put) n h = h
answered_number (Issued put) n h = h
answered_number (Accepted put) n h = h
answered_number (Answered put) n h = h

accepted_number : (s : Stage) (n : ℕ) → number_in s ≤ n → number_in (to accepted_stage s) ≤ n
accepted_number Free n h = h
accepted_number (Prepared put) n h = either (is_queued_command put.command) (Accepted put) (Answered put) n h h
accepted_number (Issued put) n h = either (is_queued_command put.command) (Accepted put) (Answered put) n h h
accepted_number (Accepted put) n h = either (is_queued_command put.command) (Accepted put) (Answered put) n h h
accepted_number (Answered put) n h = either (is_queued_command put.command) (Accepted put) (Answered put) n h h

recovered_number : (b : Bool) (s : Stage) (n : ℕ) → number_in s ≤ n → number_in (recovered b s) ≤ n
recovered_number b Free n h = h
recovered_number b (Prepared put) n h = h
recovered_number b (Issued put) n h = either b (Answered put) (Prepared put) n h h
recovered_number b (Accepted put) n h = either b (Answered put) (Prepared put) n h h
recovered_number b (Answered put) n h = h

reset_number : (s : Stage) (n : ℕ) → number_in s ≤ n → number_in (stage_after_reset s) ≤ n
reset_number Free n h = h
reset_number (Prepared put) n h = h
reset_number (Issued put) n h = h
reset_number (Accepted put) n h = h
reset_number (Answered put) n h = h

number_after : (step : Step) (f : Option ℕ) (tag n : ℕ) (s : Stage) → number_in s ≤ n → number_in (stage_after (1 + n) f tag step s) ≤ 1 + n
number_after (steps.Put client slot request) f tag n s h = either (slot == tag) (Prepared _) s (1 + n) (omega arith) (omega arith)
number_after (steps.Issue slot) f tag n s h = either (slot == tag) (to Issued s) s (1 + n) (issued_number s (1 + n) (omega arith)) (omega arith)
number_after (steps.Accept slot) f tag n s h = either (slot == tag) (to accepted_stage s) s (1 + n) (accepted_number s (1 + n) (omega arith)) (omega arith)
number_after (steps.Complete slot) f tag n s h = either (slot == tag) (to Answered s) s (1 + n) (answered_number s (1 + n) (omega arith)) (omega arith)
number_after steps.Recover f tag n s h = recovered_number (is_tag tag f) s (1 + n) (omega arith)
number_after (steps.Reset client kind) f tag n s h = reset_number s (1 + n) (omega arith)
number_after (steps.Take client slot) f tag n s h = either (slot == tag) Free s (1 + n) (omega arith) (omega arith)

grown : (s : Stage) (n : ℕ) → number_in s ≤ 1 + n → number_in s ≤ suc n
grown s n h = omega arith

number_of : (ms : List Moment) (tag : ℕ) → number_in (stage ms tag) ≤ length ms
number_of [] tag = omega arith
number_of (m ∷ before) tag = grown (stage (m ∷ before) tag) (length before) (number_after m.step (failed before) tag (length before) (stage before tag) (number_of before tag))

stage_number_in : (port : PortState) (total tag : ℕ) → AgreesAndCounts port total → tag < 32 → number_in (stage_at port.slots tag) ≤ length port.history
stage_number_in port total tag s lt =
    let known = number_of (trace s.origin s.list) tag in
    let stands = (s.agrees.tags tag lt).stands in
    let same : number_in (stage (trace s.origin s.list) tag) ≡ number_in (stage_at port.slots tag) = ap number_in (sym stands) in
    let count = count_is port s.origin s.list s.agrees in
    omega arith

-- the number of the Put of a slot is one of the history
pub stage_number : (port : PortState) (total tag : ℕ) → Stands port total → tag < 32 → number_in (stage_at port.slots tag) ≤ length port.history
stage_number port total tag s lt = ∥∥₁_elim s le_prop (λ known. stage_number_in port total tag known lt)

-- the next number is above all of the history
pub above : (port : PortState) (total ticket number : ℕ) → Stands port total → ticket ≤ length port.history → ((o : Origin) (list : List Step) → PortAgrees port o list → number ≡ 1 + length (trace o list)) → ticket < number
above port total ticket number s le is =
    let known : ticket + 1 ≤ number = ∥∥₁_elim s le_prop (λ k. let count = count_is port k.origin k.list k.agrees in let n = is k.origin k.list k.agrees in omega arith) in
    omega arith
