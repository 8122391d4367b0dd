use Rattle.std.proofs.Common.{false}
use Rattle.judged.proofs.bench.Bench.status.Goals as goal

pub returns : goal.returns
returns c = λ config judging fits. c.status.ensures false config judging.script fits.0
