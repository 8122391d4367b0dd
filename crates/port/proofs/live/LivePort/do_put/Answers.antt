use Rattle.std.proofs.Common.{◌∙◌, refl, rules}
use Rattle.port.proofs.live.LivePort.do_put.Goals as goal

pub returns-in_err-may_put-clause-refused : goal.returns-in_err-may_put-clause-refused
returns-in_err-may_put-clause-refused c = let h = c.in_err-may_put.ensures.order c.args.client in let r = c.from_residual.ensures in search (rules, h, r)

pub returns-in_err-number-clause-refused : goal.returns-in_err-number-clause-refused
returns-in_err-number-clause-refused c = let h = c.in_ok-may_put.ensures.order c.args.client in let r = c.from_residual-in_err-number.ensures in search (rules, h, r)

pub returns-clause-refused : goal.returns-clause-refused
returns-clause-refused c = (let h = c.in_ok-may_put.ensures.order c.args.client in search (rules, h))

pub returns-clause-state : goal.returns-clause-state
returns-clause-state c = rw (← c.self.view_is) (record {
  state = c.lay.ensures.state;
  count = c.lay.ensures.count ∙ c.in_ok-number.ensures;
  lines = (refl, refl);
})
