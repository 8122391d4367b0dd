use Rattle.std.proofs.lemmas.Bool.{lt-ltb}
use Rattle.port_history.specs.declared.step.Step.TheVariants as steps
use Rattle.port.specs.State.{IsPut}
use Rattle.port.proofs.Agreeing.{put_agrees}
use Rattle.port.proofs.Calls.{refused_call, agrees_call}
use Rattle.port.proofs.port.Port.put_copy.Goals as goal

pub returns-clause-agrees : goal.returns-clause-agrees
returns-clause-agrees c =
    agrees_call (IsPut c.args.self.now c.do_put_copy.new.self c.args.client c.args.tag c.args.request.now) c.args.self.now c.do_put_copy.new.self (steps.Put c.args.client c.args.tag c.args.request.now) c.do_put_copy.result
    (lt-ltb c.args.tag 32 c.do_put_copy.ensures.slot) c.do_put_copy.ensures.refused c.do_put_copy.ensures.state
    (λ o list h lawful made. put_agrees c.args.self.now c.do_put_copy.new.self o list c.args.client c.args.tag c.args.request.now c.do_put_copy.ensures.slot h made lawful)

pub returns-clause-refused : goal.returns-clause-refused
returns-clause-refused c = λ o list h. refused_call c.args.self.now o list (steps.Put c.args.client c.args.tag c.args.request.now) c.do_put_copy.result (lt-ltb c.args.tag 32 c.do_put_copy.ensures.slot) h c.do_put_copy.ensures.refused
