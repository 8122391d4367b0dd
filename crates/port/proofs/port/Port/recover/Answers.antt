use Rattle.std.proofs.Common.{refl}
use Rattle.port_history.specs.declared.step.Step.TheVariants as steps
use Rattle.port.specs.State.{IsRecovered}
use Rattle.port.proofs.Restarting.{recover_agrees}
use Rattle.port.proofs.Calls.{refused_call, numbered, agrees_call}
use Rattle.port.proofs.port.Port.recover.Goals as goal

pub returns-clause-agrees : goal.returns-clause-agrees
returns-clause-agrees c =
    agrees_call (IsRecovered c.args.self.now c.do_recover.new.self) c.args.self.now c.do_recover.new.self steps.Recover c.do_recover.result refl c.do_recover.ensures.refused c.do_recover.ensures.state
    (λ o list h lawful made. recover_agrees c.args.self.now c.do_recover.new.self o list h lawful made)

pub returns-clause-number : goal.returns-clause-number
returns-clause-number c = numbered c.do_recover.result c.args.self.now c.do_recover.ensures.number

pub returns-clause-refused : goal.returns-clause-refused
returns-clause-refused c = λ o list h. refused_call c.args.self.now o list steps.Recover c.do_recover.result refl h c.do_recover.ensures.refused
