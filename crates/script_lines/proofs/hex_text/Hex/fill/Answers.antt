use Rattle.std.proofs.Common.{◌*◌, ◌∙◌, sym, ap, length, List, ℕ, Result, arith, []}
use Rattle.std.specs.Result.{result_unwrap_or}
use Rattle.hex.specs.declared.error.FromHexError.{FromHexError}
use Rattle.script_lines.proofs.HexTexts.{twice}
use Rattle.script_lines.proofs.hex_text.Hex.fill.Goals as goal

pub decode-requires-clause-room : goal.decode-requires-clause-room
decode-requires-clause-room c =
    let len = twice c.self.inside.digits.now c.self.invariant in
    ap (λ n. 2 * n) (c.requires ∙ sym (ap length c.self.view_is)) ∙ sym len

pub returns : goal.returns
returns c =
    sym (ap (λ (r : Result (List ℕ) FromHexError). result_unwrap_or r []) c.decode.ensures) ∙ c.self.view_is
