-- Operation by operation.
use Rattle.hba.proofs.Addresses.{width_law, uppers_law, places_law}
use Rattle.hba.proofs.laws.laws_of_addresses.Goals as goal

pub returns : goal.returns
returns c = record { width = width_law; uppers = uppers_law; places = places_law }
