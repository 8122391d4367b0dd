use Rattle.std.proofs.Common.{arith}
use Rattle.script_lines.proofs.SameWords.{same}
use Rattle.script_lines.proofs.words.is_word.Goals as goal

pub returns : goal.returns
returns c =
    same c.args.word.now c.args.name.now (omega arith)
    (λ k h. c.loop-i.invariant k (omega (arith, c.loop-i-test.false)))
