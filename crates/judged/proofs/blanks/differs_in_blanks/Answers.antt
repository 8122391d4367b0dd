use Rattle.std.proofs.Common.{sym}
use Rattle.judged.proofs.SameLines.{wanted_shorter, other_shorter}
use Rattle.judged.proofs.blanks.differs_in_blanks.Goals as goal

pub returns-then-wanted-size : goal.returns-then-wanted-size
returns-then-wanted-size c =
    sym (wanted_shorter c.args.heard.now c.args.wanted.now c.args.other.now c.if-wanted-size.true)

pub returns-then-other-size : goal.returns-then-other-size
returns-then-other-size c =
    sym (other_shorter c.args.heard.now c.args.wanted.now c.args.other.now c.if-other-size.true)
