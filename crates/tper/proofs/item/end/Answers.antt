use Rattle.std.proofs.Common.{refl}
use Rattle.tper.proofs.Carried.{end_carried, abort_carried, end_refused_carried}
use Rattle.tper.proofs.Items.{carried-as, unequal, commits, aborts, ends-none}
use Rattle.tper.proofs.item.end.Goals as goal

pub returns-in-Ok-clause-carried : goal.returns-in-Ok-clause-carried
returns-in-Ok-clause-carried c = carried-as _ _ c.answer.ensures.reply end_carried

pub returns-in-Err-clause-carried : goal.returns-in-Err-clause-carried
returns-in-Err-clause-carried c = carried-as _ _ c.answer-in-Err.ensures.reply end_refused_carried

pub returns-in-Ok-abort-clause-carried : goal.returns-in-Ok-abort-clause-carried
returns-in-Ok-abort-clause-carried c = carried-as _ _ c.answer-in-Ok-abort.ensures.reply abort_carried

pub returns-in-Err-abort-clause-carried : goal.returns-in-Err-abort-clause-carried
returns-in-Err-abort-clause-carried c = carried-as _ _ c.answer-in-Err-abort.ensures.reply end_refused_carried

pub returns-in-Ok-clause-met : goal.returns-in-Ok-clause-met
returns-in-Ok-clause-met c = λ live.
    commits c.args.session c.args.number c.answer.result c.args.store.now c.commit.new.self live c.if-number-eq0.true
    (λ h. unequal (c.in-Ok.ensures.not_open.1 h)) c.in-Ok.ensures.ok c.answer.ensures.reply c.answer.ensures.denied c.answer.ensures.rule c.answer.ensures.erases

pub returns-in-Err-clause-met : goal.returns-in-Err-clause-met
returns-in-Err-clause-met c = λ live.
    ends-none c.args.session c.args.number c.answer-in-Err.result c.args.store.now c.commit.new.self live
    (c.in-Err.ensures.not_open.0 refl) c.in-Err.ensures.err c.answer-in-Err.ensures.reply c.answer-in-Err.ensures.denied c.answer-in-Err.ensures.rule c.answer-in-Err.ensures.erases

pub returns-in-Err-abort-clause-met : goal.returns-in-Err-abort-clause-met
returns-in-Err-abort-clause-met c = λ live.
    ends-none c.args.session c.args.number c.answer-in-Err-abort.result c.args.store.now c.abort.new.self live
    (c.in-Err-abort.ensures.not_open.0 refl) c.in-Err-abort.ensures.err c.answer-in-Err-abort.ensures.reply c.answer-in-Err-abort.ensures.denied c.answer-in-Err-abort.ensures.rule c.answer-in-Err-abort.ensures.erases

pub returns-in-Ok-abort-clause-met : goal.returns-in-Ok-abort-clause-met
returns-in-Ok-abort-clause-met c = λ live.
    aborts c.args.session c.args.number c.answer-in-Ok-abort.result c.args.store.now c.abort.new.self live c.if-number-eq0.false
    (λ h. unequal (c.in-Ok-abort.ensures.not_open.1 h)) c.in-Ok-abort.ensures.ok c.answer-in-Ok-abort.ensures.reply c.answer-in-Ok-abort.ensures.denied c.answer-in-Ok-abort.ensures.rule c.answer-in-Ok-abort.ensures.erases
