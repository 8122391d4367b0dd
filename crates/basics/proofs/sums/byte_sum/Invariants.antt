use Rattle.std.proofs.Common.{◌≡◌, ◌+◌, ◌%◌, drop}
use Rattle.basics.specs.Sums.{byte_sum}
use Rattle.basics.proofs.sums.byte_sum.Given as goal

abbrev pub invariant-loop-byte : goal.invariant-loop-byte
invariant-loop-byte l = (l.sum + byte_sum (drop l.byte-index l.bytes)) % 256 ≡ byte_sum l.bytes % 256
