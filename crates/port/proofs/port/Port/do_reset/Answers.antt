use Rattle.std.proofs.Common.{◌++◌, ◌∷◌, List, [], ap, ◌∙◌, rules}
use Rattle.port_history.specs.declared.step.Entry.{Entry}
use Rattle.port_history.specs.declared.step.Step.TheVariants as steps
use Rattle.port.specs.State.{IsReset, entry_of}
use Rattle.port.proofs.Layers.{layered, one_more}
use Rattle.port.proofs.port.Port.do_reset.Goals as goal

pub returns-in_err-may_reset-clause-refused : goal.returns-in_err-may_reset-clause-refused
returns-in_err-may_reset-clause-refused c = let h = c.in_err-may_reset.ensures.order c.args.client c.args.kind in let r = c.from_residual.ensures in search (rules, h, r)

pub returns-in_err-number-clause-refused : goal.returns-in_err-number-clause-refused
returns-in_err-number-clause-refused c = let h = c.in_ok-may_reset.ensures.order c.args.client c.args.kind in let r = c.from_residual-in_err-number.ensures in search (rules, h, r)

pub returns-in_err-reserve-clause-refused : goal.returns-in_err-reserve-clause-refused
returns-in_err-reserve-clause-refused c = let h = c.in_ok-may_reset.ensures.order c.args.client c.args.kind in let r = c.from_residual-in_err-reserve.ensures in search (rules, h, r)

pub returns-clause-state : goal.returns-clause-state
returns-clause-state c = rw (← c.self.view_is) (layered (λ p q. IsReset p q c.args.client c.args.kind) c.self.inside.bare c.reset_all.new.self c.self.inside.history.items c.push_reset.new.self.items (entry_of (steps.Reset c.args.client c.args.kind)) c.self.inside.audit.items
    (c.reset_all.ensures.state c.args.client) c.self.invariant.0 (c.push_reset.ensures ∙ ap (λ (xs : List Entry). xs ++ (entry_of (steps.Reset c.args.client c.args.kind)) ∷ []) c.reserve.ensures.items))

pub invariant_of-self-2 : goal.invariant_of-self-2
invariant_of-self-2 c = one_more c.self.inside.history.items c.push_reset.new.self.items (entry_of (steps.Reset c.args.client c.args.kind)) c.self.inside.bare.count c.reset_all.new.self.count c.in_ok-number.number
    (c.push_reset.ensures ∙ ap (λ (xs : List Entry). xs ++ (entry_of (steps.Reset c.args.client c.args.kind)) ∷ []) c.reserve.ensures.items) c.self.invariant.0 c.reset_all.ensures.count c.in_ok-number.ensures (rw (← c.self.view_is) at c.in_ok-may_reset.ensures.room)
