use Rattle.judged.proofs.judging.judge_each.Goals as goal

pub judge_on-judged-requires-clause-fits : goal.judge_on-judged-requires-clause-fits
judge_on-judged-requires-clause-fits c = c.new-bench.ensures.fits c.args.options.now
