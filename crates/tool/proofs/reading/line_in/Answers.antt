use Rattle.std.proofs.Common.{Some, None}
use Rattle.tool.proofs.AtHand.{found-at}
use Rattle.tool.proofs.reading.line_in.Goals as goal

pub returns-in-Some-clause-size : goal.returns-in-Some-clause-size
returns-in-Some-clause-size c = (found-at c.args.at_hand.now (Some c.in-Some.end) c.in-Some.ensures).1.0

pub returns-in-None-clause-whole : goal.returns-in-None-clause-whole
returns-in-None-clause-whole c = (found-at c.args.at_hand.now None c.in-None.ensures).0
