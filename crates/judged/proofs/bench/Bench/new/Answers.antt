use Rattle.judged.specs.Blanks.{other_config}
use Rattle.judged.proofs.bench.Bench.new.Goals as goal

pub returns-clause-fits : goal.returns-clause-fits
returns-clause-fits c = λ config. (c.new.ensures.ran config, c.new-2.ensures.ran config, c.new-3.ensures.ran (other_config config))
