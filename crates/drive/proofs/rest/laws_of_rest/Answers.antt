use Rattle.drive.proofs.Rests.{power_off_law, same_rest_law}
use Rattle.drive.proofs.rest.laws_of_rest.Goals as goal

pub returns-clause-off : goal.returns-clause-off
returns-clause-off c = power_off_law

pub returns-clause-same : goal.returns-clause-same
returns-clause-same c = same_rest_law
