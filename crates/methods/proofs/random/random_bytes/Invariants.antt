use Rattle.std.proofs.Common.{◌≡◌}
use Rattle.methods.specs.Random.{random_bytes}
use Rattle.methods.proofs.random.random_bytes.Given as goal

abbrev pub invariant-loop-number : goal.invariant-loop-number
invariant-loop-number l = l.bytes.items ≡ random_bytes l.seed l.before l.number
