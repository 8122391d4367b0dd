use Rattle.reasons.proofs.explained.RestLaws.{rests, reasons}
use Rattle.reasons.proofs.explained.laws.laws_of_reasons.Goals as goal

pub returns-clause-rest : goal.returns-clause-rest
returns-clause-rest c = rests

pub returns-clause-reasons : goal.returns-clause-reasons
returns-clause-reasons c = reasons
