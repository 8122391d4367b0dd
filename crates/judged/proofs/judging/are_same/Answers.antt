use Rattle.std.proofs.Common.{sym}
use Rattle.judged.proofs.SameLines.{fewer}
use Rattle.judged.proofs.judging.are_same.Goals as goal

pub returns-then-heard-wanted : goal.returns-then-heard-wanted
returns-then-heard-wanted c = sym (fewer c.args.heard.now c.args.wanted.now c.if-heard-wanted.true)
