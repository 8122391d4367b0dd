use Rattle.std.proofs.lemmas.Bool.{lt-ltb}
use Rattle.port_history.specs.declared.step.Step.TheVariants as steps
use Rattle.port.specs.State.{IsPut}
use Rattle.port.proofs.Agreeing.{put_agrees}
use Rattle.port.proofs.Calls.{refused_call, numbered, agrees_call}
use Rattle.port.proofs.port.Port.put.Goals as goal

pub returns-clause-agrees : goal.returns-clause-agrees
returns-clause-agrees c =
    agrees_call (IsPut c.args.self.now c.do_put.new.self c.args.client c.args.tag c.args.request) c.args.self.now c.do_put.new.self (steps.Put c.args.client c.args.tag c.args.request) c.do_put.result
    (lt-ltb c.args.tag 32 c.do_put.ensures.slot) c.do_put.ensures.refused c.do_put.ensures.state
    (λ o list h lawful made. put_agrees c.args.self.now c.do_put.new.self o list c.args.client c.args.tag c.args.request c.do_put.ensures.slot h made lawful)

pub returns-clause-number : goal.returns-clause-number
returns-clause-number c = numbered c.do_put.result c.args.self.now c.do_put.ensures.number

pub returns-clause-refused : goal.returns-clause-refused
returns-clause-refused c = λ o list h. refused_call c.args.self.now o list (steps.Put c.args.client c.args.tag c.args.request) c.do_put.result (lt-ltb c.args.tag 32 c.do_put.ensures.slot) h c.do_put.ensures.refused
