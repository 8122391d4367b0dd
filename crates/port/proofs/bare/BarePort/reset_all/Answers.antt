use Rattle.std.proofs.Common.{refl, rules}
use Rattle.port.proofs.bare.BarePort.reset_all.Goals as goal

pub returns-clause-state : goal.returns-clause-state
returns-clause-state c = rw (← c.self.view_is) (λ client history audit long. record {
  drive = search rules;
  count = c.reset-3.ensures.len.0;
  count_outcomes = c.reset-3.ensures.len.1;
  slots = c.reset-3.ensures.stages;
  outcomes = c.reset-3.ensures.outcomes;
  failed = refl;
  memory = refl;
  regs = c.reset-2.ensures;
  history = refl;
  audit = refl;
  rule = refl;
})
