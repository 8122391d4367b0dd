use Rattle.drive.proofs.Activation.{activation_law}
use Rattle.drive.proofs.Openings.{row_law}
use Rattle.drive.proofs.laws.laws_of_openings.Goals as goal

pub returns-clause-activated : goal.returns-clause-activated
returns-clause-activated c = activation_law

pub returns-clause-row : goal.returns-clause-row
returns-clause-row c = row_law
