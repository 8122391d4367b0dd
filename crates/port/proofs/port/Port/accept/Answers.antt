use Rattle.std.proofs.Common.{◌≡◌, ◌∙◌, sym, Ok}
use Rattle.std.proofs.lemmas.Bool.{lt-ltb}
use Rattle.port_history.specs.declared.step.Step.TheVariants as steps
use Rattle.slots.specs.Fetch.{fetched}
use Rattle.slots.specs.declared.fetched.Fetched.{Fetched}
use Rattle.port.specs.State.{IsAccepted}
use Rattle.port.proofs.Accepting.{accept_agrees, fetches}
use Rattle.port.proofs.Calls.{refused_call, numbered, agrees_where}
use Rattle.port.proofs.port.Port.accept.Goals as goal

pub returns-clause-number : goal.returns-clause-number
returns-clause-number c = numbered c.do_accept.result c.args.self.now c.do_accept.ensures.number

pub returns-clause-refused : goal.returns-clause-refused
returns-clause-refused c = λ o list h. refused_call c.args.self.now o list (steps.Accept c.args.tag) c.do_accept.result (lt-ltb c.args.tag 32 c.do_accept.ensures.slot) h
    (c.do_accept.ensures.refused (λ put was. fetches c.args.self.now o list c.args.tag put c.do_accept.ensures.slot h (sym (h.tags c.args.tag c.do_accept.ensures.slot).stands ∙ was)))

pub returns-clause-agrees : goal.returns-clause-agrees
returns-clause-agrees c =
    agrees_where ((f : Fetched) → fetched c.args.self.now.memory c.args.tag ≡ Ok f → IsAccepted c.args.self.now c.do_accept.new.self c.args.tag f.fis) c.args.self.now c.do_accept.new.self (steps.Accept c.args.tag) c.do_accept.result
    (lt-ltb c.args.tag 32 c.do_accept.ensures.slot)
    (λ o list h. c.do_accept.ensures.refused (λ put was. fetches c.args.self.now o list c.args.tag put c.do_accept.ensures.slot h (sym (h.tags c.args.tag c.do_accept.ensures.slot).stands ∙ was)))
    c.do_accept.ensures.state
    (λ o list h lawful made. accept_agrees c.args.self.now c.do_accept.new.self o list c.args.tag c.do_accept.ensures.slot h lawful made)
