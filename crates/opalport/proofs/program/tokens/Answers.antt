use Rattle.std.proofs.Common.{refl}
use Rattle.hex.specs.Hex.{decode_of}
use Rattle.opalport.proofs.Endings.{tokens_end}
use Rattle.opalport.proofs.program.tokens.Goals as goal

pub returns : goal.returns
returns g c = tokens_end _ _ _ _ _ (decode_of c.args.texts.now.hex.now) refl c.in_ok-status.ensures.printed c.in_ok-status.ensures.no_hex
