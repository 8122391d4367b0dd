use Rattle.std.proofs.Common.{◌≡◌, ◌∙◌, ℕ, Option, Some, None, ap, sym}
use Rattle.std.proofs.lemmas.Result.{IfOk-weaker}
use Rattle.port_history.specs.Steps.{trace}
use Rattle.port_history.specs.declared.stages.Stage.{Stage}
use Rattle.port_scripts.specs.PortActs.{slot_of}
use Rattle.port_scripts.specs.PortReasons.{slot_refusal_text, refused_at}
use Rattle.port_scripts.proofs.port_reasons.step_refusal.Goals as goal

pub returns-in-Some : goal.returns-in-Some
returns-in-Some c =
    let error = c.args.error in
    let tag = c.in-Some.tag in
    let named : slot_of c.args.step.now ≡ Some tag = sym c.slot_of.ensures.value ∙ c.in-Some.is in
    IfOk-weaker c.slot_refusal.result _ _
    (λ text told. λ o list agrees.
    told
    ∙ ap (λ (s : Stage). slot_refusal_text error tag s)
    (c.stage.ensures ∙ (agrees.stands.tags tag c.in-Some.ensures.slot).stands)
    ∙ ap (λ (x : Option ℕ). refused_at (trace o list) error x) (sym named))
    c.slot_refusal.ensures

pub returns-in-None : goal.returns-in-None
returns-in-None c =
    let error = c.args.error in
    let named : slot_of c.args.step.now ≡ None = sym c.slot_of.ensures.value ∙ c.in-None.is in
    IfOk-weaker c.port_refusal.result _ _
    (λ text told. λ o list agrees.
    told ∙ ap (λ (x : Option ℕ). refused_at (trace o list) error x) (sym named))
    c.port_refusal.ensures
