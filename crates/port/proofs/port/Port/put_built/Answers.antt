use Rattle.std.proofs.lemmas.Bool.{lt-ltb}
use Rattle.port_history.specs.declared.step.Step.TheVariants as steps
use Rattle.port.specs.State.{IsPut}
use Rattle.port.proofs.Agreeing.{put_agrees}
use Rattle.port.proofs.Handing.{given_back, numbered_built, agrees_built}
use Rattle.port.proofs.port.Port.put_built.Goals as goal

pub returns-clause-agrees : goal.returns-clause-agrees
returns-clause-agrees c =
    agrees_built (IsPut c.args.self.now c.do_put_built.new.self c.args.client c.args.built.tag c.args.built.request) c.args.self.now c.do_put_built.new.self
    (steps.Put c.args.client c.args.built.tag c.args.built.request) c.args.built c.do_put_built.result
    (lt-ltb c.args.built.tag 32 c.do_put_built.ensures.slot) c.do_put_built.ensures.refused c.do_put_built.ensures.state
    (λ o list h lawful made. put_agrees c.args.self.now c.do_put_built.new.self o list c.args.client c.args.built.tag c.args.built.request c.do_put_built.ensures.slot h made lawful)

pub returns-clause-number : goal.returns-clause-number
returns-clause-number c = numbered_built c.do_put_built.result c.args.self.now c.do_put_built.ensures.number

pub returns-clause-refused : goal.returns-clause-refused
returns-clause-refused c = λ o list h.
    given_back c.args.self.now o list (steps.Put c.args.client c.args.built.tag c.args.built.request) c.args.built c.do_put_built.result
    (lt-ltb c.args.built.tag 32 c.do_put_built.ensures.slot) h c.do_put_built.ensures.refused
