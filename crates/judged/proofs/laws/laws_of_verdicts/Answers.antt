use Rattle.judged.proofs.Verdicts.{allows, wrong}
use Rattle.judged.proofs.laws.laws_of_verdicts.Goals as goal

pub returns-clause-allows : goal.returns-clause-allows
returns-clause-allows c = allows

pub returns-clause-wrong : goal.returns-clause-wrong
returns-clause-wrong c = wrong
