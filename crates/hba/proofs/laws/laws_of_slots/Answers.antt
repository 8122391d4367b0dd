-- By the operations.
use Rattle.hba.proofs.CurrentLaw.{current_law}
use Rattle.hba.proofs.laws.laws_of_slots.Goals as goal

pub returns : goal.returns
returns c = current_law
