-- Access by access.
use Rattle.hba.proofs.OwnWrites.{writes_law}
use Rattle.hba.proofs.laws.laws_of_writes.Goals as goal

pub returns : goal.returns
returns c = writes_law
