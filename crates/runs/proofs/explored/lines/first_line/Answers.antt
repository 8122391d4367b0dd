use Rattle.std.proofs.Common.{◌∙◌, ap, ◌∷◌, sym}
use Rattle.tool.specs.Scripts.{script_lines}
use Rattle.runs.proofs.explored.FirstLines.{first_and_rest, less_left, some_left}
use Rattle.runs.proofs.explored.lines.first_line.Goals as goal

pub returns-clause-lines : goal.returns-clause-lines
returns-clause-lines c =
    first_and_rest c.args.text.now c.split_at.result.0.now c.split_at.result.1.now c.line_size.result
    (some_left c.args.text.now c.requires) c.line_size.ensures.size c.split_at.ensures.front c.split_at.ensures.back
    ∙ ap (λ line. line ∷ script_lines c.split_at.result.1.now) (sym c.without_end.ensures)

pub returns-clause-shorter : goal.returns-clause-shorter
returns-clause-shorter c =
    less_left c.args.text.now c.split_at.result.1.now c.line_size.result c.requires c.line_size.ensures.size c.split_at.ensures.back_len
