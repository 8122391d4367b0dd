-- Bits by bits.
use Rattle.hba_regs.proofs.AccessBits.{access_law}
use Rattle.hba_regs.proofs.laws.laws_of_access.Goals as goal

pub returns-clause-access : goal.returns-clause-access
returns-clause-access c = access_law
