use Rattle.tper.proofs.Configs.{stores-config}
use Rattle.tper.proofs.Items.{call-met, call-carried}
use Rattle.tper.proofs.item.call_in_session.Goals as goal

pub returns-in-Ok-clause-met : goal.returns-in-Ok-clause-met
returns-in-Ok-clause-met c = call-met c.args.store.now c.invoke.new.store c.args.sessions.now c.invoke.new.sessions c.args.session c.args.call.now c.in-Ok.outcome c.in-Ok.ensures.fulfils

pub returns-in-Ok-clause-carried : goal.returns-in-Ok-clause-carried
returns-in-Ok-clause-carried c = call-carried c.args.store.now c.invoke.new.store c.args.sessions.now c.invoke.new.sessions c.args.session c.args.call.now c.in-Ok.outcome c.in-Ok.ensures.fulfils

pub returns-in-Ok-clause-unchanged : goal.returns-in-Ok-clause-unchanged
returns-in-Ok-clause-unchanged c = c.in-Ok.ensures.fulfils.unchanged

pub returns-in-Ok-clause-config : goal.returns-in-Ok-clause-config
returns-in-Ok-clause-config c = stores-config _ c.args.store.now c.invoke.new.store c.in-Ok.ensures.fulfils.met.store
