-- Rule after rule.
use Rattle.hba.proofs.Orders.{ready_order, fetch_order, completion_order, error_order, arrival_order}
use Rattle.hba.proofs.laws.laws_of_orders.Goals as goal

pub returns : goal.returns
returns c = record {
  ready = ready_order;
  fetched = fetch_order;
  completed = completion_order;
  failed = error_order;
  arrived = arrival_order;
}
