use Rattle.std.proofs.Common.{◌∙◌, sym, ap}
use Rattle.runs.proofs.recorded.LineByLine.{status-came, status_at, no-end}
use Rattle.runs.proofs.recorded.stepped.SteppedRun.status.Goals as goal

pub returns-in-Ended : goal.returns-in-Ended
returns-in-Ended c = λ explains config text ran.
    sym (ap status_at c.in-Ended.is) ∙ status-came c.args.self.now explains config text ran

pub returns-in_default : goal.returns-in_default
returns-in_default c = λ explains config text ran.
    sym (no-end c.args.self.now.stage c.in_default.not-Ended) ∙ status-came c.args.self.now explains config text ran
