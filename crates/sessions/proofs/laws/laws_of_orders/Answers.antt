-- Rule after rule.
use Rattle.sessions.proofs.OrderLaws.{attempt_order, start_order}
use Rattle.sessions.proofs.laws.laws_of_orders.Goals as goal

pub returns : goal.returns
returns c = record { attempts = attempt_order; starts = start_order }
