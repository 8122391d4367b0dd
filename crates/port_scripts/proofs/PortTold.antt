-- What is told behind a step of a port, by whether it was refused.
use Rattle.std.proofs.Common.{◌≡◌, ◌∙◌, ℕ, List, ◌∷◌, ◌++◌, Option, Some, None, Ok, Result, refl, sym, ap, subst}
use Rattle.std.specs.Prelude.{slice_index}
use Rattle.fis.specs.Types.{h2d_type}
use Rattle.slots.specs.Fetch.{fetched}
use Rattle.slots.specs.declared.error.FetchError.{FetchError}
use Rattle.slots.specs.declared.fetched.Fetched.{Fetched}
use Rattle.history.specs.Answers.{payload_of}
use Rattle.history.specs.History.{Accept}
use Rattle.history.specs.Opening.{Origin}
use Rattle.port.specs.Answers.{buffer_front}
use Rattle.port.specs.Live.{LiveAgrees, LiveState, line_kept}
use Rattle.port.specs.State.{BareState}
use Rattle.port_history.specs.Steps.{acts, trace}
use Rattle.port_history.specs.declared.error.PortError.{PortError}
use Rattle.port_history.specs.declared.step.Step.{Step}
use Rattle.port_history.specs.declared.step.Step.TheVariants as steps
use Rattle.reasons.specs.Onsets.{cause_of}
use Rattle.reasons.specs.declared.explained.onset.Counted.TheVariants.{Steps}
use Rattle.script_lines.specs.declared.report.Report.{Report}
use Rattle.drive_scripts.specs.Explanations.{denial_text}
use Rattle.drive_scripts.specs.Kept.{KeptReasons, RecountsAll}
use Rattle.port_scripts.specs.PortActs.{LinedStep, bare_steps, command_put, steps_done}
use Rattle.port_scripts.specs.PortReasons.{BringsAccepted, ExplainsStep, IsAhead, line_denial, reasons_by, step_refusal_text, steps_behind}
use Rattle.port_scripts.specs.declared.ahead.Ahead.{Ahead}
use Rattle.port_scripts.specs.declared.ahead.Brought.{Brought}
use Rattle.port_scripts.proofs.PortActs.{accepted-so}

fetched-same : (command f : Fetched) → ◌≡◌ {A = Result Fetched FetchError} (Ok command) (Ok f) → command ≡ f
fetched-same command f same = cc same

-- what a port fetched is what its acceptance brings
pub brings-fetched : (port : BareState) (brought : Brought) (tag : ℕ) (command : Fetched)
    → fetched port.memory tag ≡ Ok command
    → (slice_index command.fis 0 ≡ h2d_type → brought.cause ≡ cause_of (Accept command.fis brought.payload.items))
    → brought.payload.items ≡ buffer_front port.memory tag (payload_of port.drive.tper.store.config command.fis)
    → BringsAccepted port tag brought
brings-fetched port brought tag command is cause payload = λ f so kind.
    let same : command ≡ f = fetched-same command f (sym is ∙ so) in (
      subst (λ (g : Fetched). brought.cause ≡ cause_of (Accept g.fis brought.payload.items)) same
          (cause (subst (λ (g : Fetched). slice_index g.fis 0 ≡ h2d_type) (sym same) kind)),
      subst (λ (g : Fetched). brought.payload.items
          ≡ buffer_front port.memory tag (payload_of port.drive.tper.store.config g.fis)) same payload,
    )

-- what is told of an accepted command is what is told behind its step
pub reasons-accepted : (port : LiveState) (ahead : Ahead) (o : Origin) (past : List LinedStep) (step : Step) (tag : ℕ)
    → step ≡ steps.Accept tag → LiveAgrees port o (step ∷ bare_steps past) → IsAhead ahead o past step
    → denial_text Steps o (steps_done o past) (acts o (step ∷ bare_steps past)) (command_put ahead.put)
    ahead.brought.payload.items (line_denial (line_kept port ahead.place)) port.bare.rule
    ≡ reasons_by o past step None
reasons-accepted port ahead o past step tag is agrees it =
    subst
    (λ (s : Step). LiveAgrees port o (s ∷ bare_steps past) → IsAhead ahead o past s
    → denial_text Steps o (steps_done o past) (acts o (s ∷ bare_steps past)) (command_put ahead.put)
    ahead.brought.payload.items (line_denial (line_kept port ahead.place)) port.bare.rule
    ≡ reasons_by o past s None)
    (sym is) (accepted-so port ahead o past tag) agrees it

same-error : (a b : PortError) → ◌≡◌ {A = Option PortError} (Some a) (Some b) → a ≡ b
same-error a b same = cc same

-- a step that was refused
pub explains-refused : (o : Origin) (past : List LinedStep) (step : Step) (line : ℕ) (refused : Option PortError)
    (error : PortError) (text : List ℕ) (port : LiveState) (kept : KeptReasons) (before after : Report)
    → refused ≡ Some error → after.pending.items ≡ before.pending.items ++ text
    → LiveAgrees port o (bare_steps (steps_behind past line step refused))
    → ((o : Origin) (list : List Step) → LiveAgrees port o list → text ≡ step_refusal_text (trace o list) step error)
    → RecountsAll kept o (steps_done o past) → ExplainsStep o past step line refused kept before after
explains-refused o past step line (Some reason) error text port kept before after is more agrees tells recounts = record {
  recounts = recounts;
  pending = more
      ∙ ap (λ (t : List ℕ). before.pending.items ++ t)
      (tells o (bare_steps past) agrees
      ∙ ap (step_refusal_text (trace o (bare_steps past)) step) (sym (same-error reason error is)));
}
explains-refused o past step line None error text port kept before after is more agrees tells recounts =
    absurd (cc is)

-- and one that was done
pub explains-done : (o : Origin) (past : List LinedStep) (step : Step) (line : ℕ) (refused : Option PortError)
    (text : List ℕ) (port : LiveState) (ahead : Ahead) (kept : KeptReasons) (before after : Report)
    → refused ≡ None → after.pending.items ≡ before.pending.items ++ text
    → (refused ≡ None → IsAhead ahead o past step)
    → LiveAgrees port o (bare_steps (steps_behind past line step refused))
    → (LiveAgrees port o (step ∷ bare_steps past) → IsAhead ahead o past step → text ≡ reasons_by o past step None)
    → (LiveAgrees port o (step ∷ bare_steps past) → IsAhead ahead o past step
    → RecountsAll kept o (steps_done o (steps_behind past line step None)))
    → ExplainsStep o past step line refused kept before after
explains-done o past step line None text port ahead kept before after is more before-it agrees tells notes = record {
  recounts = notes agrees (before-it refl);
  pending = more ∙ ap (λ (t : List ℕ). before.pending.items ++ t) (tells agrees (before-it refl));
}
explains-done o past step line (Some error) text port ahead kept before after is more before-it agrees tells notes =
    absurd (cc is)
