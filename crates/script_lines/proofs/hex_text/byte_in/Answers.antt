use Rattle.std.proofs.Common.{arith}
use Rattle.script_lines.proofs.HexTexts.{two_digits}
use Rattle.script_lines.proofs.hex_text.byte_in.Goals as goal

pub returns-in-len2-clause-value : goal.returns-in-len2-clause-value
returns-in-len2-clause-value c =
    two_digits c.args.text.now c.byte_of.result (omega (arith, c.in-len2.len_at_least, c.in-len2.len_below)) (c.byte_of.ensures 0)
