use Rattle.std.proofs.Common.{◌≡◌, ◌∙◌, sym, Ok, Err, Result, Option, ℕ, ◌+◌}
use Rattle.std.proofs.lemmas.Bool.{lt-ltb}
use Rattle.port_history.specs.declared.step.Step.TheVariants as steps
use Rattle.port.specs.State.{with_history}
use Rattle.port.proofs.Accepting.{fetches}
use Rattle.port.proofs.Living.{refused_call, numbered, accepted_call, told_history, told_log}
use Rattle.port.proofs.live.LivePort.accept.Goals as goal

pub returns-clause-number : goal.returns-clause-number
returns-clause-number c = numbered c.do_accept.result c.args.self.now c.do_accept.ensures.number

pub returns-clause-refused : goal.returns-clause-refused
returns-clause-refused c = λ o list h. refused_call c.args.self.now o list (steps.Accept c.args.tag) c.do_accept.result (lt-ltb c.args.tag 32 c.do_accept.ensures.slot) h
    (c.do_accept.ensures.refused (λ put was. fetches (with_history c.args.self.now.bare (told_history o list) (told_log o list)) o list c.args.tag put c.do_accept.ensures.slot h.stands (sym (h.stands.tags c.args.tag c.do_accept.ensures.slot).stands ∙ was)))

pub returns-clause-agrees : goal.returns-clause-agrees
returns-clause-agrees c =
    accepted_call c.args.self.now c.do_accept.new.self c.args.tag c.do_accept.result c.do_accept.ensures.slot
    (λ o list h. c.do_accept.ensures.refused (λ put was. fetches (with_history c.args.self.now.bare (told_history o list) (told_log o list)) o list c.args.tag put c.do_accept.ensures.slot h.stands (sym (h.stands.tags c.args.tag c.do_accept.ensures.slot).stands ∙ was)))
    c.do_accept.ensures.state
