use Rattle.std.proofs.Common.{◌∙◌, sym, arith}
use Rattle.runs.proofs.explored.FoundTexts.{behind}
use Rattle.runs.proofs.explored.kinds.stands_in.Goals as goal

pub loop-i-preserved : goal.loop-i-preserved
loop-i-preserved c =
    behind c.args.needle.now c.args.text.now c.loop-i.i _ c.loop-i-test.true (omega arith) (sym c.starts_with.ensures.value ∙ c.if-starts_with.false)
    ∙ c.loop-i.invariant
