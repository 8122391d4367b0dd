use Rattle.std.proofs.Common.{◌∙◌, sym}
use Rattle.std.proofs.lemmas.Bool.{lt-ltb}
use Rattle.port_history.specs.declared.step.Step.TheVariants as steps
use Rattle.port.specs.State.{IsCompleted, entry_of, with_history}
use Rattle.port.proofs.Completing.{complete_agrees, ready}
use Rattle.port.proofs.Living.{refused_call, numbered, agrees_call, told_history, told_log}
use Rattle.port.proofs.live.LivePort.complete.Goals as goal

pub returns-clause-agrees : goal.returns-clause-agrees
returns-clause-agrees c =
    agrees_call (λ p q. IsCompleted p q c.args.tag) c.args.self.now c.do_complete.new.self (steps.Complete c.args.tag) (entry_of (steps.Complete c.args.tag)) c.do_complete.result
    (lt-ltb c.args.tag 32 c.do_complete.ensures.slot)
    (λ o list h. c.do_complete.ensures.refused (λ put was mended. ready (with_history c.args.self.now.bare (told_history o list) (told_log o list)) o list c.args.tag put c.do_complete.ensures.slot h.stands (sym h.stands.failure ∙ mended) (sym (h.stands.tags c.args.tag c.do_complete.ensures.slot).stands ∙ was)))
    c.do_complete.ensures.state
    (λ p q o list h lawful made. complete_agrees p q o list c.args.tag c.do_complete.ensures.slot h lawful made)

pub returns-clause-number : goal.returns-clause-number
returns-clause-number c = numbered c.do_complete.result c.args.self.now c.do_complete.ensures.number

pub returns-clause-refused : goal.returns-clause-refused
returns-clause-refused c = λ o list h. refused_call c.args.self.now o list (steps.Complete c.args.tag) c.do_complete.result (lt-ltb c.args.tag 32 c.do_complete.ensures.slot) h
    (c.do_complete.ensures.refused (λ put was mended. ready (with_history c.args.self.now.bare (told_history o list) (told_log o list)) o list c.args.tag put c.do_complete.ensures.slot h.stands (sym h.stands.failure ∙ mended) (sym (h.stands.tags c.args.tag c.do_complete.ensures.slot).stands ∙ was)))
