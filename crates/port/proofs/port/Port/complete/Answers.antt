use Rattle.std.proofs.Common.{◌∙◌, sym}
use Rattle.std.proofs.lemmas.Bool.{lt-ltb}
use Rattle.port_history.specs.declared.step.Step.TheVariants as steps
use Rattle.port.specs.State.{IsCompleted}
use Rattle.port.proofs.Completing.{complete_agrees, ready}
use Rattle.port.proofs.Calls.{refused_call, numbered, agrees_where}
use Rattle.port.proofs.port.Port.complete.Goals as goal

pub returns-clause-agrees : goal.returns-clause-agrees
returns-clause-agrees c =
    agrees_where (IsCompleted c.args.self.now c.do_complete.new.self c.args.tag) c.args.self.now c.do_complete.new.self (steps.Complete c.args.tag) c.do_complete.result
    (lt-ltb c.args.tag 32 c.do_complete.ensures.slot)
    (λ o list h. c.do_complete.ensures.refused (λ put was mended. ready c.args.self.now o list c.args.tag put c.do_complete.ensures.slot h (sym h.failure ∙ mended) (sym (h.tags c.args.tag c.do_complete.ensures.slot).stands ∙ was)))
    c.do_complete.ensures.state
    (λ o list h lawful made. complete_agrees c.args.self.now c.do_complete.new.self o list c.args.tag c.do_complete.ensures.slot h lawful made)

pub returns-clause-number : goal.returns-clause-number
returns-clause-number c = numbered c.do_complete.result c.args.self.now c.do_complete.ensures.number

pub returns-clause-refused : goal.returns-clause-refused
returns-clause-refused c = λ o list h. refused_call c.args.self.now o list (steps.Complete c.args.tag) c.do_complete.result (lt-ltb c.args.tag 32 c.do_complete.ensures.slot) h
    (c.do_complete.ensures.refused (λ put was mended. ready c.args.self.now o list c.args.tag put c.do_complete.ensures.slot h (sym h.failure ∙ mended) (sym (h.tags c.args.tag c.do_complete.ensures.slot).stands ∙ was)))
