use Rattle.std.proofs.Common.{sym}
use Rattle.judged.proofs.SameLines.{wanted_too_short, other_too_short}
use Rattle.judged.proofs.blanks.differs_in_random.Goals as goal

pub returns-then-wanted-size : goal.returns-then-wanted-size
returns-then-wanted-size c =
    sym (wanted_too_short 0 c.args.heard.now c.args.wanted.now c.args.other.now c.if-wanted-size.true)

pub returns-then-other-size : goal.returns-then-other-size
returns-then-other-size c =
    sym (other_too_short 0 c.args.heard.now c.args.wanted.now c.args.other.now c.if-other-size.true)
