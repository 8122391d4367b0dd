use Rattle.std.proofs.Common.{◌++◌, ◌∷◌, List, [], ap, ◌∙◌}
use Rattle.port_history.specs.declared.step.Entry.{Entry}
use Rattle.port_history.specs.declared.step.Step.TheVariants as steps
use Rattle.port.specs.State.{IsRecovered, entry_of}
use Rattle.port.proofs.Layers.{layered}
use Rattle.port.proofs.port.Port.do_recover.Goals as goal

pub returns-clause-state : goal.returns-clause-state
returns-clause-state c = rw (← c.self.view_is) (layered (λ p q. IsRecovered p q) c.self.inside.bare c.mend.new.self c.self.inside.history.items c.push_engine.new.self.items (entry_of steps.Recover) c.self.inside.audit.items
    c.in_ok-mend.ensures.state c.self.invariant.0 (c.push_engine.ensures ∙ ap (λ (xs : List Entry). xs ++ entry_of steps.Recover ∷ []) c.reserve.ensures.items))
