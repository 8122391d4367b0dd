-- Of each transfer.
use Rattle.hba.proofs.Served.{read_law, write_law, held_read_law, held_write_law}
use Rattle.hba.proofs.Rests.{rest_law}
use Rattle.hba.proofs.laws.laws_of_service.Goals as goal

pub returns-clause-read : goal.returns-clause-read
returns-clause-read c = read_law

pub returns-clause-written : goal.returns-clause-written
returns-clause-written c = write_law

pub returns-clause-held_read : goal.returns-clause-held_read
returns-clause-held_read c = held_read_law

pub returns-clause-held_write : goal.returns-clause-held_write
returns-clause-held_write c = held_write_law

pub returns-clause-rests : goal.returns-clause-rests
returns-clause-rests c = rest_law
