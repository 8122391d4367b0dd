use Rattle.std.proofs.Common.{◌∙◌}
use Rattle.runs.proofs.recorded.LineByLine.{printed-came}
use Rattle.runs.proofs.recorded.stepped.SteppedRun.printed.Goals as goal

pub returns : goal.returns
returns c = λ explains config text ran.
    c.deref.ensures.value ∙ printed-came c.args.self.now explains config text ran
