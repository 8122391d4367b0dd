use Rattle.std.proofs.Common.{◌≡◌, length}
use Rattle.decoded.specs.Features.{features_fault, features_in}
use Rattle.decoded.proofs.level0.check_features.Given as goal

abbrev pub invariant-loop-rest : goal.invariant-loop-rest
invariant-loop-rest l = features_fault (features_in 0 l.fn.features) ≡ features_fault (features_in 0 l.rest)

abbrev pub decreases-loop-rest : goal.decreases-loop-rest
decreases-loop-rest l = length l.rest
