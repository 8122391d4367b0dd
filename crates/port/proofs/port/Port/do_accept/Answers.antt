use Rattle.std.proofs.Common.{◌++◌, ◌∷◌, List, [], ap, ◌∙◌}
use Rattle.std.specs.Prelude.{option_to_list}
use Rattle.audit.specs.declared.reason.AuditLine.{AuditLine}
use Rattle.port_history.specs.declared.step.Entry.{Entry}
use Rattle.port_history.specs.declared.step.Step.TheVariants as steps
use Rattle.port.specs.State.{IsAccepted, entry_of}
use Rattle.port.proofs.Layers.{layered_noted}
use Rattle.port.proofs.port.Port.do_accept.Goals as goal

pub returns-clause-state : goal.returns-clause-state
returns-clause-state c = rw (← c.self.view_is) (λ f e. layered_noted (λ p q. IsAccepted p q c.args.tag f.fis) c.self.inside.bare c.accept_put.new.self c.self.inside.history.items c.push_engine.new.self.items
    (entry_of (steps.Accept c.args.tag)) c.self.inside.audit.items c.note.new.audit.items c.in_ok-line.line
    (c.in_ok-line.ensures.state f e) c.self.invariant.0 (c.push_engine.ensures ∙ ap (λ (xs : List Entry). xs ++ entry_of (steps.Accept c.args.tag) ∷ []) c.reserve.ensures.items)
    (c.note.ensures ∙ ap (λ (xs : List AuditLine). xs ++ option_to_list c.in_ok-line.line) c.reserve-2.ensures.items))
