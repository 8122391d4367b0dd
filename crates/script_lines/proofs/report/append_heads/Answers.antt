use Rattle.std.proofs.Common.{◌/◌, length, arith}
use Rattle.script_lines.proofs.Heads.{ends}
use Rattle.script_lines.proofs.report.append_heads.Goals as goal

pub returns : goal.returns
returns c = ends c.args.heads.now c.loop-head.line.items c.loop-head.head (length c.args.heads.now / 4) _ (omega arith) c.loop-head.invariant
