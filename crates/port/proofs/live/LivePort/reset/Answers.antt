use Rattle.std.proofs.Common.{refl}
use Rattle.port_history.specs.declared.step.Step.TheVariants as steps
use Rattle.port.specs.State.{IsReset, entry_of}
use Rattle.port.proofs.Restarting.{reset_agrees}
use Rattle.port.proofs.Living.{refused_call, numbered, agrees_call}
use Rattle.port.proofs.live.LivePort.reset.Goals as goal

pub returns-clause-agrees : goal.returns-clause-agrees
returns-clause-agrees c =
    agrees_call (λ p q. IsReset p q c.args.client c.args.kind) c.args.self.now c.do_reset.new.self (steps.Reset c.args.client c.args.kind) (entry_of (steps.Reset c.args.client c.args.kind)) c.do_reset.result
    refl (λ o list h. c.do_reset.ensures.refused) c.do_reset.ensures.state
    (λ p q o list h lawful made. reset_agrees p q o list c.args.client c.args.kind h lawful made)

pub returns-clause-number : goal.returns-clause-number
returns-clause-number c = numbered c.do_reset.result c.args.self.now c.do_reset.ensures.number

pub returns-clause-refused : goal.returns-clause-refused
returns-clause-refused c = λ o list h. refused_call c.args.self.now o list (steps.Reset c.args.client c.args.kind) c.do_reset.result refl h c.do_reset.ensures.refused
