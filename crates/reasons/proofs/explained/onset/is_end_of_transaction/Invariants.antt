use Rattle.std.proofs.Common.{◌≡◌, drop}
use Rattle.reasons.specs.Onsets.{is_end_of_transaction}
use Rattle.reasons.proofs.explained.onset.is_end_of_transaction.Given as goal

abbrev pub invariant-loop-byte : goal.invariant-loop-byte
invariant-loop-byte l = is_end_of_transaction l.tokens ≡ is_end_of_transaction (drop l.byte-index l.tokens)
