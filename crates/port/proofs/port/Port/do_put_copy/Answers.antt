use Rattle.std.proofs.Common.{rules}
use Rattle.port.proofs.port.Port.do_put_copy.Goals as goal

pub returns-in_err-may_put-clause-refused : goal.returns-in_err-may_put-clause-refused
returns-in_err-may_put-clause-refused c = let h = c.in_err-may_put.ensures.order c.args.client in let r = c.from_residual.ensures in search (rules, h, r)

pub returns-in_err-request-clause-refused : goal.returns-in_err-request-clause-refused
returns-in_err-request-clause-refused c = let h = c.in_ok-may_put.ensures.order c.args.client in let r = c.from_residual-in_err-request.ensures in search (rules, h, r)
