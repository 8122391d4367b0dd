use Rattle.judged.proofs.judging.judge_all.Goals as goal

pub agree_on-agreed-requires-clause-ran : goal.agree_on-agreed-requires-clause-ran
agree_on-agreed-requires-clause-ran c = c.new-run.ensures.ran c.args.options.now
