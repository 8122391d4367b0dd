-- Access by access.
use Rattle.host_memory.proofs.Orders.{gather_order, scatter_order}
use Rattle.host_memory.proofs.laws.laws_of_orders.Goals as goal

pub returns : goal.returns
returns c = record { gathered = gather_order; scattered = scatter_order }
