use Rattle.reasons.proofs.remedies.Lifted.{lifts, fulfils}
use Rattle.reasons.proofs.remedies.laws.laws_of_remedies.Goals as goal

pub returns-clause-lifts : goal.returns-clause-lifts
returns-clause-lifts c = lifts

pub returns-clause-fulfils : goal.returns-clause-fulfils
returns-clause-fulfils c = fulfils
