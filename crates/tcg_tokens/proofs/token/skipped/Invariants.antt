use Rattle.std.proofs.Common.{◌≡◌, length}
use Rattle.tcg_tokens.specs.Lex.{skip}
use Rattle.tcg_tokens.proofs.token.skipped.Given as goal

abbrev pub invariant-loop-rest : goal.invariant-loop-rest
invariant-loop-rest l = skip l.rest ≡ skip l.bytes

abbrev pub decreases-loop-rest : goal.decreases-loop-rest
decreases-loop-rest l = length l.rest
