-- The acts of a port's steps as reasons see them.
use Rattle.std.proofs.Common.{◌≡◌, ◌∙◌, ◌+◌, ◌<◌, ℕ, Bool, true, false, List, [], ◌∷◌, ◌++◌, length, reverse, Option, Some, None, refl, sym, ap, subst}
use Rattle.std.specs.Prelude.{if◌then◌else◌, IfSome, nat_lt, not, is_some}
use Rattle.audit.specs.declared.reason.Why.{Why}
use Rattle.fis.specs.Tags.{slot_count}
use Rattle.slots.specs.declared.fetched.Fetched.{Fetched}
use Rattle.history.specs.Answers.{payload_of}
use Rattle.history.specs.History.{Act, Accept}
use Rattle.history.specs.Opening.{Origin}
use Rattle.port.specs.Agreement.{IsLaidAt}
use Rattle.port.specs.Answers.{buffer_front, stage_at}
use Rattle.port.specs.Host.{IsLaid, fetched_of}
use Rattle.port.specs.Live.{LiveAgrees, LiveState, line_kept}
use Rattle.port.specs.State.{PortState, with_history}
use Rattle.port.proofs.Accepting.{fetched_is}
use Rattle.port.proofs.Lawful.{issued_length}
use Rattle.port.proofs.Living.{told_history, told_log}
use Rattle.port_history.proofs.Tests.{none_holds, issued_is}
use Rattle.port_history.specs.Refusals.{most_steps, refusal, tests}
use Rattle.port_history.specs.Requests.{command_fis}
use Rattle.port_history.specs.Stages.{is_queued_command, put_at}
use Rattle.port_history.specs.Steps.{acceptance, accept_payload, act_before, act_of, acts, audit, failed, moment, payload, stage, trace}
use Rattle.port_history.specs.declared.stages.Put.{Put}
use Rattle.port_history.specs.declared.stages.Stage.{Stage}
use Rattle.port_history.specs.declared.stages.Stage.TheVariants.{Issued}
use Rattle.port_history.specs.declared.step.Step.{Step}
use Rattle.port_history.specs.declared.step.Step.TheVariants as steps
use Rattle.reasons.specs.Onsets.{bare_acts, cause_at, cause_of, with_act}
use Rattle.reasons.specs.declared.explained.onset.Cause.TheVariants.{NoCause}
use Rattle.reasons.specs.declared.explained.onset.Counted.TheVariants.{Steps}
use Rattle.drive_scripts.specs.Explanations.{denial_text}
use Rattle.port_scripts.specs.PortActs.{LinedStep, act_payload, bare_steps, command_put, put_in_slot, put_named, slot_of, steps_done}
use Rattle.port_scripts.specs.PortReasons.{Brings, BringsAccepted, IsAhead, accepted_text, denied_in, line_denial}
use Rattle.port_scripts.specs.declared.ahead.Ahead.{Ahead}
use Rattle.port_scripts.specs.declared.ahead.Brought.{Brought}
use Rattle.port_scripts.proofs.PortRuns.{denied-so, noted-so}

-- the acts of the steps as reasons count them are those of the steps
with-before : (act : Option Act) (acts : List Act) → with_act act acts ≡ act_before act acts
with-before None acts = refl
with-before (Some act) acts = refl

pub bare-done : (o : Origin) (past : List LinedStep) → bare_acts (steps_done o past) ≡ acts o (bare_steps past)
bare-done o [] = refl
bare-done o (s ∷ before) =
    with-before (act_of (trace o (bare_steps before)) s.step) (bare_acts (steps_done o before))
    ∙ ap (act_before (act_of (trace o (bare_steps before)) s.step)) (bare-done o before)

-- the payload of an acceptance stands in the buffer
payload-stands : (memory bytes : List ℕ) (tag : ℕ) (queued : Bool) (n : ℕ)
    → n ≡ length (if queued then [] else bytes) → buffer_front memory tag (length bytes) ≡ bytes
    → buffer_front memory tag n ≡ (if queued then [] else bytes)
payload-stands memory bytes tag true n size stands = ap (buffer_front memory tag) size
payload-stands memory bytes tag false n size stands = ap (buffer_front memory tag) size ∙ stands

-- an acceptance that is not refused is of the command that is fetched
pub accepted-brings : (port : LiveState) (brought : Brought) (o : Origin) (list : List Step) (tag : ℕ)
    → tag < slot_count → BringsAccepted port.bare tag brought → LiveAgrees port o list
    → refusal (trace o list) (steps.Accept tag) ≡ None → Brings brought o list (steps.Accept tag)
accepted-brings port brought o list tag slot does agrees lawful =
    let ms = trace o list in
    let full = not (nat_lt (length ms) most_steps) in
    let passed = none_holds (tests full (is_some (failed ms)) (stage ms) (steps.Accept tag)) lawful in
    let issued = issued_is (stage ms tag) passed.1.1.0 in
    let put : Put = issued.0 in
    let was : stage ms tag ≡ Issued put = issued.1 in
    let fis : List ℕ = command_fis put.command tag in
    let config = port.bare.drive.tper.store.config in
    let memory = port.bare.memory in
    let kept : PortState = with_history port.bare (told_history o list) (told_log o list) in
    let bytes : List ℕ = accept_payload put (payload ms tag) in
    let given = does (fetched_of put tag) (fetched_is kept o list tag put slot agrees.stands was) refl in
    let laid : IsLaid memory tag put.command (payload ms tag) =
    subst (λ (s : Stage). IsLaidAt memory tag s (payload ms tag)) was (agrees.stands.tags tag slot).laid in
    let stands : brought.payload.items ≡ bytes =
    given.1
    ∙ payload-stands memory (payload ms tag) tag (is_queued_command put.command) (payload_of config fis)
    (issued_length config o list tag put slot agrees.stands.lawful was) laid.buffer in
    let act : act_of ms (steps.Accept tag) ≡ Some (Accept fis bytes) =
    ap (λ (x : Option Put). acceptance tag x (payload ms tag)) (ap put_at was) in
    record {
      cause = given.0 ∙ ap (λ (xs : List ℕ). cause_of (Accept fis xs)) stands ∙ sym (ap cause_at act);
      payload = stands ∙ sym (ap act_payload act);
    }

-- the command of the slot that a step names
pub named-so : (port : LiveState) (o : Origin) (list : List Step) (step : Step) (slot : Option ℕ)
    → LiveAgrees port o list → slot ≡ slot_of step → IfSome slot (λ tag. tag < slot_count)
    → put_in_slot (stage_at port.bare.slots) slot ≡ put_named (trace o list) step
named-so port o list step None agrees is low = ap (put_in_slot (stage (trace o list))) is
named-so port o list step (Some tag) agrees is low =
    ap put_at (agrees.stands.tags tag low).stands ∙ ap (put_in_slot (stage (trace o list))) is

-- what is told of an accepted command is what the steps say
pub accepted-so : (port : LiveState) (ahead : Ahead) (o : Origin) (past : List LinedStep) (tag : ℕ)
    → LiveAgrees port o (steps.Accept tag ∷ bare_steps past) → IsAhead ahead o past (steps.Accept tag)
    → denial_text Steps o (steps_done o past) (acts o (steps.Accept tag ∷ bare_steps past)) (command_put ahead.put)
    ahead.brought.payload.items (line_denial (line_kept port ahead.place)) port.bare.rule
    ≡ accepted_text o past tag
accepted-so port ahead o past tag now is =
    let step = steps.Accept tag in
    let list = bare_steps past in
    let ms = trace o list in
    let m = moment o ms step in
    let done = steps_done o past in
    let all = acts o (step ∷ list) in
    let rule = port.bare.rule in
    let denied = line_denial (line_kept port ahead.place) in
    let asked = command_put (put_named ms step) in
    let bytes = act_payload (act_of ms step) in
    ap (λ (put : Option Put). denial_text Steps o done all (command_put put) ahead.brought.payload.items denied rule)
    is.put
    ∙ ap (λ (xs : List ℕ). denial_text Steps o done all asked xs denied rule) is.brings.payload
    ∙ ap (λ (why : Option Why). denial_text Steps o done all asked bytes why rule)
    (ap line_denial (noted-so port o list tag ahead.place now is.place)
    ∙ denied-so (1 + length ms) m.served m.effect (audit ms))
    ∙ ap (denial_text Steps o done all asked bytes (denied_in m.effect)) now.stands.rule
