use Rattle.std.proofs.Common.{◌++◌, ◌∷◌, List, [], ap, ◌∙◌, rules, refl, inl, inr}
use Rattle.port_history.specs.declared.step.Entry.{Entry}
use Rattle.port_history.specs.declared.step.Step.TheVariants as steps
use Rattle.port.specs.State.{IsPut, entry_of}
use Rattle.port.proofs.Layers.{layered, one_more}
use Rattle.port.proofs.port.Port.do_put_built.Goals as goal

pub returns-in-Err-clause-refused : goal.returns-in-Err-clause-refused
returns-in-Err-clause-refused c = rw (← c.built.view_is) (inr (c.in-Err.ensures.order c.args.client), refl)

pub returns-clause-refused : goal.returns-clause-refused
returns-clause-refused c = rw (← c.built.view_is) (c.in_default.ensures.order c.args.client)

pub returns-in_default-next_number-clause-refused : goal.returns-in_default-next_number-clause-refused
returns-in_default-next_number-clause-refused c = rw (← c.built.view_is) (inl (refl, c.in_default.ensures.order c.args.client), refl)

pub returns-then-is_err-clause-refused : goal.returns-then-is_err-clause-refused
returns-then-is_err-clause-refused c = rw (← c.built.view_is) (inl (refl, c.in_default.ensures.order c.args.client), refl)

pub returns-clause-state : goal.returns-clause-state
returns-clause-state c = rw (← c.self.view_is, ← c.built.view_is) (layered (λ p q. IsPut p q c.args.client c.built.inside.tag c.built.inside.request) c.self.inside.bare c.lay_built.new.self c.self.inside.history.items c.push_put.new.self.items (entry_of (steps.Put c.args.client c.built.inside.tag c.built.inside.request)) c.self.inside.audit.items
    c.lay_built.ensures.state c.self.invariant.0 (c.push_put.ensures ∙ ap (λ (xs : List Entry). xs ++ (entry_of (steps.Put c.args.client c.built.inside.tag c.built.inside.request)) ∷ []) c.reserve_put.ensures.items))

pub invariant_of-self-2 : goal.invariant_of-self-2
invariant_of-self-2 c = one_more c.self.inside.history.items c.push_put.new.self.items (entry_of (steps.Put c.args.client c.built.inside.tag c.built.inside.request)) c.self.inside.bare.count c.lay_built.new.self.count c.in-Ok.number
    (c.push_put.ensures ∙ ap (λ (xs : List Entry). xs ++ (entry_of (steps.Put c.args.client c.built.inside.tag c.built.inside.request)) ∷ []) c.reserve_put.ensures.items) c.self.invariant.0 c.lay_built.ensures.count c.in-Ok.ensures (rw (← c.self.view_is) at c.in_default.ensures.room)
