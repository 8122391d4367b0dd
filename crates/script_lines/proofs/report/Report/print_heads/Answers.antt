use Rattle.std.proofs.Common.{ap, ◌∙◌}
use Rattle.script_lines.proofs.Heads.{given_by_heads}
use Rattle.script_lines.proofs.report.Report.print_heads.Goals as goal

pub returns : goal.returns
returns c = λ sectors is. rw (given_by_heads c.args.heads.now sectors is) at c.in_ok-print_each.ensures
