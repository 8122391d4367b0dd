use Rattle.tper.proofs.Configs.{stores-config}
use Rattle.tper.proofs.Items.{get-met, get-carried}
use Rattle.tper.proofs.item.get_in_session.Goals as goal

pub returns-in-Ok-clause-met : goal.returns-in-Ok-clause-met
returns-in-Ok-clause-met c = get-met c.args.store.now c.get_plainly.new.store c.args.sessions.now c.get_plainly.new.sessions c.args.session c.args.tokens.now c.args.get.now c.in-Ok.outcome c.requires.plain c.in-Ok.ensures.fulfils

pub returns-in-Ok-clause-carried : goal.returns-in-Ok-clause-carried
returns-in-Ok-clause-carried c = get-carried c.args.store.now c.get_plainly.new.store c.args.sessions.now c.get_plainly.new.sessions c.args.session c.args.get.now c.in-Ok.outcome c.in-Ok.ensures.fulfils

pub returns-in-Ok-clause-unchanged : goal.returns-in-Ok-clause-unchanged
returns-in-Ok-clause-unchanged c = c.in-Ok.ensures.fulfils.unchanged

pub returns-in-Ok-clause-config : goal.returns-in-Ok-clause-config
returns-in-Ok-clause-config c = stores-config _ c.args.store.now c.get_plainly.new.store c.in-Ok.ensures.fulfils.met.store
