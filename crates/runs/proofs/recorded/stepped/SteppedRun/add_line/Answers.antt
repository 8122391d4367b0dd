use Rattle.std.proofs.Common.{◌+◌, refl}
use Rattle.runs.proofs.recorded.LineByLine.{one-came}
use Rattle.runs.proofs.recorded.stepped.SteppedRun.add_line.Goals as goal

pub returns-clause-came : goal.returns-clause-came
returns-clause-came c = λ came leads.
    one-came c.args.self.now.explains c.args.options.now c.args.self.now.lines (c.args.self.now.lines + 1) c.args.text.now came
    c.args.self.now.report c.stage_line.new.report c.args.self.now.stage c.stage_line.new.stage refl c.in_ok-stage_line.ensures.makes leads
