-- Block by block.
use Rattle.hba.proofs.BlockByBlock.{read_law, write_law}
use Rattle.hba.proofs.laws.laws_of_blocks.Goals as goal

pub returns-clause-read : goal.returns-clause-read
returns-clause-read c = read_law

pub returns-clause-written : goal.returns-clause-written
returns-clause-written c = write_law
