-- Rule after rule.
use Rattle.methods.proofs.OrderLaws.{order_law}
use Rattle.methods.proofs.laws.laws_of_orders.Goals as goal

pub returns : goal.returns
returns c = order_law
