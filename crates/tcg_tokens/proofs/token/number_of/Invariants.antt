use Rattle.std.proofs.Common.{◌≡◌, drop}
use Rattle.tcg_tokens.specs.Lexeme.{number_from}
use Rattle.tcg_tokens.proofs.token.number_of.Given as goal

abbrev pub invariant-loop-byte : goal.invariant-loop-byte
invariant-loop-byte l = number_from l.number (drop l.byte-index l.content) ≡ number_from 0 l.content
