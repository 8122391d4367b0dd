-- A port with its history over one with none.
use Rattle.std.proofs.Common.{◌≡◌, ℕ, ◌+◌, ◌≤◌, ◌++◌, Bool, true, false, not, nat_lt, List, [], ◌∷◌, length, Option, None, Result, Err, sym, ap, ◌∙◌, subst, refl, inl, arith, length-append}
use Rattle.std.specs.Prelude.{option_to_list, is_none, is_some}
use Rattle.std.proofs.lemmas.Bool.Decides.{nat_tests}
use Rattle.audit.specs.declared.reason.AuditLine.{AuditLine}
use Rattle.port_history.specs.Refusals.{IsRefusedBy}
use Rattle.port_history.specs.declared.error.PortError.{PortError}
use Rattle.port_history.specs.declared.error.PortError.TheVariants.{OutOfMemory}
use Rattle.port_history.specs.declared.step.Entry.{Entry}
use Rattle.port_history.specs.Ready.{ready_steps, as_step}
use Rattle.port_history.specs.Refusals.{refusal_by, most_steps}
use Rattle.port_history.specs.declared.step.EngineStep.{EngineStep}
use Rattle.port_history.specs.declared.step.EngineStep.TheVariants as engine
use Rattle.port_history.specs.declared.step.Step.TheVariants as steps
use Rattle.port_history.proofs.FullProofs.{none_ready}
use Rattle.port.specs.Answers.{stage_at}
use Rattle.port.specs.State.{BareState, is_history_full, refusal_on, PortState, MakesBare, MakesNoted, with_history}

pub layered : (made : PortState → PortState → Type 0) (old new : BareState) (before after : List Entry) (entry : Entry) (log : List AuditLine)
    → MakesBare old new entry made → length before ≡ old.count → after ≡ before ++ entry ∷ [] → made (with_history old before log) (with_history new after log)
layered made old new before after entry log makes long is =
    subst (λ (xs : List Entry). made (with_history old before log) (with_history new xs log)) (sym is) (makes before log long)

pub layered_noted : (made : PortState → PortState → Type 0) (old new : BareState) (before after : List Entry) (entry : Entry) (log lines : List AuditLine) (line : Option AuditLine)
    → MakesNoted old new entry line made → length before ≡ old.count → after ≡ before ++ entry ∷ [] → lines ≡ log ++ option_to_list line → made (with_history old before log) (with_history new after lines)
layered_noted made old new before after entry log lines line makes long is noted =
    subst (λ (ls : List AuditLine). made (with_history old before log) (with_history new after ls)) (sym noted)
    (subst (λ (xs : List Entry). made (with_history old before log) (with_history new xs (log ++ option_to_list line))) (sym is) (makes before log long))

-- want of memory, where nothing else refuses
pub for_memory : (A : Type 0) (refused : Option PortError) (e : PortError) → refused ≡ None → e ≡ OutOfMemory → IsRefusedBy {A = A} refused (Err e)
for_memory A refused e free memory = inl (memory, free)

-- a history of one more, which has room
not_full : (n : ℕ) → not (nat_lt n most_steps) ≡ false → 1 + n ≤ most_steps
not_full n room = grind (arith, nat_tests, room)

pub one_more : (before after : List Entry) (entry : Entry) (old new number : ℕ) → after ≡ before ++ entry ∷ [] → length before ≡ old
    → new ≡ number → number ≡ 1 + old → not (nat_lt (length before) most_steps) ≡ false
    → (length after ≡ new) × (length after ≤ most_steps)
one_more before after entry old new number is long counts next room =
    let more = length-append before (entry ∷ []) in
    let longer = ap length is in
    let most = not_full (length before) room in
    (omega (arith, more, longer, long, counts, next), omega (arith, more, longer, most))

-- what is ready by whether the history is full
abbrev by_room : PortState → Bool → List EngineStep
by_room port full = ready_steps (λ step. is_none (refusal_by full (is_some port.failed) (stage_at port.slots) step))

pub ready_left : (port : PortState) → is_history_full port ≡ false → by_room port false ≡ ready_steps (λ step. is_none (refusal_on port step))
ready_left port room = sym (ap (by_room port) room)

full_refuses : (port : PortState) (step : EngineStep) → is_none (refusal_by true (is_some port.failed) (stage_at port.slots) (as_step step)) ≡ false
full_refuses port (engine.Issue tag) = refl
full_refuses port (engine.Accept tag) = refl
full_refuses port (engine.Complete tag) = refl
full_refuses port engine.Recover = refl

pub ready_full : (port : PortState) → is_history_full port ≡ true → ready_steps (λ step. is_none (refusal_on port step)) ≡ []
ready_full port full =
    ap (by_room port) full
    ∙ none_ready (λ step. is_none (refusal_by true (is_some port.failed) (stage_at port.slots) step)) (full_refuses port)
