use Rattle.saved.proofs.Injective.{one_rest_law, same_drive_law}
use Rattle.saved.proofs.laws.laws_of_saving.Goals as goal

pub returns-clause-one : goal.returns-clause-one
returns-clause-one c = one_rest_law

pub returns-clause-same : goal.returns-clause-same
returns-clause-same c = same_drive_law
