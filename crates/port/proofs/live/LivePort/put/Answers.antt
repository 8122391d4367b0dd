use Rattle.std.proofs.lemmas.Bool.{lt-ltb}
use Rattle.port_history.specs.declared.step.Step.TheVariants as steps
use Rattle.port.specs.State.{IsPut, entry_of}
use Rattle.port.proofs.Agreeing.{put_agrees}
use Rattle.port.proofs.Living.{refused_call, numbered, agrees_call}
use Rattle.port.proofs.live.LivePort.put.Goals as goal

pub returns-clause-agrees : goal.returns-clause-agrees
returns-clause-agrees c =
    agrees_call (λ p q. IsPut p q c.args.client c.args.tag c.args.request.now) c.args.self.now c.do_put.new.self (steps.Put c.args.client c.args.tag c.args.request.now) (entry_of (steps.Put c.args.client c.args.tag c.args.request.now)) c.do_put.result
    (lt-ltb c.args.tag 32 c.do_put.ensures.slot) (λ o list h. c.do_put.ensures.refused) c.do_put.ensures.state
    (λ p q o list h lawful made. put_agrees p q o list c.args.client c.args.tag c.args.request.now c.do_put.ensures.slot h made lawful)

pub returns-clause-number : goal.returns-clause-number
returns-clause-number c = numbered c.do_put.result c.args.self.now c.do_put.ensures.number

pub returns-clause-refused : goal.returns-clause-refused
returns-clause-refused c = λ o list h. refused_call c.args.self.now o list (steps.Put c.args.client c.args.tag c.args.request.now) c.do_put.result (lt-ltb c.args.tag 32 c.do_put.ensures.slot) h c.do_put.ensures.refused
