-- Check after check.
use Rattle.compacket.proofs.OrderLaws.{order_law}
use Rattle.compacket.proofs.reader.laws_of_orders.Goals as goal

pub returns : goal.returns
returns c = order_law
