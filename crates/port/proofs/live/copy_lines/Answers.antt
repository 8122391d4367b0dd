-- Each line comes behind those before it.
use Rattle.std.proofs.Common.{◌≤◌, length, rules, arith}
use Rattle.port.proofs.CopyLemmas.{next_kept}
use Rattle.port.proofs.live.copy_lines.Goals as goal

pub loop-at-preserved : goal.loop-at-preserved
loop-at-preserved c =
    let few : length c.args.lines.now.items ≤ 64 = omega (arith, c.len-at-end.ensures.len, c.len-at-end.ensures.within, c.requires) in
    let kept = next_kept 64 c.args.lines.now.items c.loop-at.at c.in-Some.line.now (search rules) few in
    search rules
