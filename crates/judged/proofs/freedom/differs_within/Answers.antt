use Rattle.std.proofs.Common.{sym}
use Rattle.judged.proofs.SameLines.{shorter}
use Rattle.judged.proofs.freedom.differs_within.Goals as goal

pub returns-then-heard-wanted : goal.returns-then-heard-wanted
returns-then-heard-wanted c =
    sym (shorter c.args.spans.now 0 c.args.heard.now c.args.wanted.now c.if-heard-wanted.true)
