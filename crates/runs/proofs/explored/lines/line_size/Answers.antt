use Rattle.std.proofs.Common.{Some, None}
use Rattle.tool.proofs.AtHand.{found-at}
use Rattle.runs.proofs.FirstLines.{all-of}
use Rattle.runs.proofs.explored.lines.line_size.Goals as goal

pub returns-in-Some-clause-size : goal.returns-in-Some-clause-size
returns-in-Some-clause-size c = (found-at c.args.text.now (Some c.in-Some.end) c.in-Some.ensures).1.0

pub returns-in-None-clause-size : goal.returns-in-None-clause-size
returns-in-None-clause-size c = all-of c.args.text.now (found-at c.args.text.now None c.in-None.ensures).0
