use Rattle.std.proofs.Common.{◌≡◌, take}
use Rattle.std.specs.Prelude.{filter}
use Rattle.ace_eval.specs.Truth.{has}
use Rattle.reasons.proofs.holdings.those_held.Given as goal

abbrev pub invariant-loop-authority : goal.invariant-loop-authority
invariant-loop-authority l = l.those.items ≡ filter (has l.held) (take l.authority-index l.authorities)
