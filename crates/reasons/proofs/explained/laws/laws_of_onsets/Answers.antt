use Rattle.reasons.proofs.explained.OnsetLaws.{since}
use Rattle.reasons.proofs.explained.laws.laws_of_onsets.Goals as goal

pub returns-clause-since : goal.returns-clause-since
returns-clause-since c = since
