-- Part by part.
use Rattle.host_memory.proofs.Deliveries.{delivered_law}
use Rattle.host_memory.proofs.laws.laws_of_deliveries.Goals as goal

pub returns : goal.returns
returns c = delivered_law
