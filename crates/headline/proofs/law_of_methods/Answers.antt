use Rattle.headline.proofs.MethodLaws.{method_law}
use Rattle.headline.proofs.law_of_methods.Goals as goal

pub returns : goal.returns
returns c = record { granted = method_law }
