-- Where the texts write no plan, nothing is printed.
use Rattle.std.proofs.Common.{refl, inr, arith, rules}
use Rattle.opalport.proofs.exploration.explore_on.Goals as goal

pub returns : goal.returns
returns g c = record { most = omega arith; ends = inr (search rules, refl, refl) }
