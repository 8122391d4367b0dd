use Rattle.std.proofs.Common.{refl, ap, ◌∙◌}
use Rattle.std.specs.Prelude.{is_none}
use Rattle.std.proofs.lemmas.Bool.{lt-ltb}
use Rattle.port_history.specs.declared.step.Step.{Step}
use Rattle.port_history.specs.declared.step.Step.TheVariants as steps
use Rattle.port_history.specs.Steps.{trace}
use Rattle.port_history.specs.Refusals.{refusal_with_room}
use Rattle.port.specs.State.{refusal_on_bare}
use Rattle.port.proofs.Living.{same_refusal}
use Rattle.port.proofs.Readies.{ready_agree}
use Rattle.port.proofs.live.LivePort.ready.Goals as goal

pub returns : goal.returns
returns c = λ o list h.
    c.engine_steps.ensures
    ∙ ready_agree (λ (step : Step). is_none (refusal_on_bare c.args.self.now.bare step)) (λ (step : Step). is_none (refusal_with_room (trace o list) step))
    (λ t lt. ap is_none (same_refusal c.args.self.now o list (steps.Issue t) h (lt-ltb t 32 lt)))
    (λ t lt. ap is_none (same_refusal c.args.self.now o list (steps.Accept t) h (lt-ltb t 32 lt)))
    (λ t lt. ap is_none (same_refusal c.args.self.now o list (steps.Complete t) h (lt-ltb t 32 lt)))
    (ap is_none (same_refusal c.args.self.now o list steps.Recover h refl))
