use Rattle.std.proofs.Common.{◌≡◌, ◌++◌, length}
use Rattle.decoded.specs.Features.{features_lines, features_in}
use Rattle.decoded.proofs.level0.append_features.Given as goal

abbrev pub invariant-loop-rest : goal.invariant-loop-rest
invariant-loop-rest l = l.text.items ++ features_lines (features_in 0 l.rest) ≡ l.fn.text.items ++ features_lines (features_in 0 l.fn.features)

abbrev pub decreases-loop-rest : goal.decreases-loop-rest
decreases-loop-rest l = length l.rest
