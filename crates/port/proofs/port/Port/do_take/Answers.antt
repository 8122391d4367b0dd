use Rattle.std.proofs.Common.{◌++◌, ◌∷◌, List, [], ap, ◌∙◌}
use Rattle.port_history.specs.declared.request.Answer.{Answer}
use Rattle.port_history.specs.declared.step.Entry.{Entry}
use Rattle.port_history.specs.declared.step.Step.TheVariants as steps
use Rattle.port.specs.Answers.{outcome_at}
use Rattle.port.specs.State.{IsTaken, taken_entry}
use Rattle.port.proofs.Layers.{layered}
use Rattle.port.proofs.port.Port.do_take.Goals as goal

pub returns-clause-state : goal.returns-clause-state
returns-clause-state c = rw (← c.self.view_is) (layered (λ p q. IsTaken p q c.args.client c.args.tag) c.self.inside.bare c.set_free.new.self c.self.inside.history.items c.push_take.new.self.items (taken_entry c.args.client c.args.tag c.self.inside.bare.memory (outcome_at c.self.inside.bare.outcomes c.args.tag)) c.self.inside.audit.items
    (c.set_free.ensures.state c.args.client) c.self.invariant.0 (c.push_take.ensures ∙ ap (λ (r : Answer). c.reserve_take.new.self.items ++ record { step = steps.Take c.args.client c.args.tag; reply = r } ∷ []) (c.in_ok-reply.ensures ∙ c.in_ok-answer.ensures) ∙ ap (λ (xs : List Entry). xs ++ (taken_entry c.args.client c.args.tag c.self.inside.bare.memory (outcome_at c.self.inside.bare.outcomes c.args.tag)) ∷ []) c.reserve_take.ensures.items))
