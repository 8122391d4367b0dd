use Rattle.tper.proofs.Carried.{call_carried, start_carried, properties_carried}
use Rattle.tper.proofs.laws.laws_of_answers.Goals as goal

pub returns-clause-call : goal.returns-clause-call
returns-clause-call c = call_carried

pub returns-clause-start : goal.returns-clause-start
returns-clause-start c = start_carried

pub returns-clause-properties : goal.returns-clause-properties
returns-clause-properties c = properties_carried
