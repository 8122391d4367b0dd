use Rattle.std.proofs.Common.{◌∙◌, refl, rules}
use Rattle.port.proofs.live.LivePort.do_reset.Goals as goal

pub returns-clause-state : goal.returns-clause-state
returns-clause-state c = rw (← c.self.view_is) (record {
  state = c.reset_all.ensures.state c.args.client;
  count = c.reset_all.ensures.count ∙ c.in_ok-number.ensures;
  lines = (refl, refl);
})
