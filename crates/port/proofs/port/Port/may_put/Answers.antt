use Rattle.std.proofs.Common.{rules}
use Rattle.port.proofs.port.Port.may_put.Goals as goal

pub returns-clause-order : goal.returns-clause-order
returns-clause-order c = λ client. (let h = c.may_put.ensures.order client in search (rules, h))
