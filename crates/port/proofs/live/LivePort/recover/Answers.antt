use Rattle.std.proofs.Common.{refl}
use Rattle.port_history.specs.declared.step.Step.TheVariants as steps
use Rattle.port.specs.State.{IsRecovered, entry_of}
use Rattle.port.proofs.Restarting.{recover_agrees}
use Rattle.port.proofs.Living.{refused_call, numbered, agrees_call}
use Rattle.port.proofs.live.LivePort.recover.Goals as goal

pub returns-clause-agrees : goal.returns-clause-agrees
returns-clause-agrees c =
    agrees_call (λ p q. IsRecovered p q) c.args.self.now c.do_recover.new.self steps.Recover (entry_of steps.Recover) c.do_recover.result
    refl (λ o list h. c.do_recover.ensures.refused) c.do_recover.ensures.state
    (λ p q o list h lawful made. recover_agrees p q o list h lawful made)

pub returns-clause-number : goal.returns-clause-number
returns-clause-number c = numbered c.do_recover.result c.args.self.now c.do_recover.ensures.number

pub returns-clause-refused : goal.returns-clause-refused
returns-clause-refused c = λ o list h. refused_call c.args.self.now o list steps.Recover c.do_recover.result refl h c.do_recover.ensures.refused
