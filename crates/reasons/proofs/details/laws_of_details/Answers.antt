use Rattle.reasons.proofs.details.DetailLaws.{starts, met, long}
use Rattle.reasons.proofs.details.UntakenLaws.{untaken, column}
use Rattle.reasons.proofs.details.ArgumentLaws.{arguments}
use Rattle.reasons.proofs.details.laws_of_details.Goals as goal

pub returns-clause-starts : goal.returns-clause-starts
returns-clause-starts c = starts

pub returns-clause-met : goal.returns-clause-met
returns-clause-met c = met

pub returns-clause-long : goal.returns-clause-long
returns-clause-long c = long

pub returns-clause-untaken : goal.returns-clause-untaken
returns-clause-untaken c = untaken

pub returns-clause-column : goal.returns-clause-column
returns-clause-column c = column

pub returns-clause-arguments : goal.returns-clause-arguments
returns-clause-arguments c = arguments
