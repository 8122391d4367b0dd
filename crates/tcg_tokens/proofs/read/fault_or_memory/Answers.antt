use Rattle.std.proofs.Common.{◌≡◌, Err, subst}
use Rattle.tcg_tokens.specs.declared.error.TokenError.{TokenError}
use Rattle.tcg_tokens.specs.Reading.{reading}
use Rattle.tcg_tokens.proofs.Faults.{no_want}
use Rattle.tcg_tokens.proofs.read.fault_or_memory.Goals as goal

pub returns-in-Err-clause-memory : goal.returns-in-Err-clause-memory
returns-in-Err-clause-memory c = λ is_memory. absurd (no_want c.args.bytes.now (subst (λ (e : TokenError). reading c.args.bytes.now ≡ Err e) is_memory c.in-Err.ensures))
