use Rattle.tper.proofs.Carried.{begin_carried, begin_refused_carried}
use Rattle.tper.proofs.Items.{carried-as}
use Rattle.tper.proofs.item.begin.Goals as goal

pub returns-in-Ok-clause-carried : goal.returns-in-Ok-clause-carried
returns-in-Ok-clause-carried c = carried-as _ _ c.answer.ensures.reply begin_carried

pub returns-in-Err-clause-carried : goal.returns-in-Err-clause-carried
returns-in-Err-clause-carried c = carried-as _ _ c.answer-in-Err.ensures.reply begin_refused_carried
