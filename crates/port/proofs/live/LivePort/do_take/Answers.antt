use Rattle.std.proofs.Common.{◌∙◌, refl, rules}
use Rattle.port.proofs.live.LivePort.do_take.Goals as goal

pub returns-clause-state : goal.returns-clause-state
returns-clause-state c = rw (← c.self.view_is) (record {
  state = c.set_free.ensures.state c.args.client;
  count = c.set_free.ensures.count ∙ c.in_ok-number.ensures;
  lines = (refl, refl);
})
