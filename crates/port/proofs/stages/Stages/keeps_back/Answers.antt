use Rattle.std.proofs.Common.{sym}
use Rattle.port.proofs.Kept.{none_kept}
use Rattle.port.proofs.stages.Stages.keeps_back.Goals as goal

pub returns-then-self : goal.returns-then-self
returns-then-self c = rw (← c.self.view_is) (sym (none_kept c.self.inside.stages.value c.args.number (c.self.invariant c.if-self.true)))
