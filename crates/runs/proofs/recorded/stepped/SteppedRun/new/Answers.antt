use Rattle.std.proofs.Common.{refl}
use Rattle.runs.proofs.recorded.LineByLine.{untold}
use Rattle.runs.proofs.recorded.stepped.SteppedRun.new.Goals as goal

pub returns-clause-ran : goal.returns-clause-ran
returns-clause-ran c = λ config.
    let none = untold c.args.explains config c.new.result c.new.ensures.pending c.new.ensures.last in
    (refl, tt, none.0, none.1)
