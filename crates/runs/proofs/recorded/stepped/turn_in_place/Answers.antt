use Rattle.std.proofs.Common.{refl}
use Rattle.runs.proofs.recorded.stepped.turn_in_place.Goals as goal

pub returns-in_ok-turn-in-Runs-clause-turns : goal.returns-in_ok-turn-in-Runs-clause-turns
returns-in_ok-turn-in-Runs-clause-turns c =
    (c.in-Runs.remarks, c.in-Runs.run', c.turn_or_skip.new.self, c.in-Runs.is, refl, c.in_ok-turn-in-Runs.ensures.steps)
