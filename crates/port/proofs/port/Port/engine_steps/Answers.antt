use Rattle.std.proofs.Common.{sym, ◌∙◌, rules}
use Rattle.port.specs.State.{with_history}
use Rattle.port.proofs.Layers.{ready_full, ready_left}
use Rattle.port.proofs.port.Port.engine_steps.Goals as goal

pub returns-in-Ok : goal.returns-in-Ok
returns-in-Ok c = rw (← c.self.view_is) (c.ready.ensures ∙ ready_left (with_history c.self.inside.bare c.self.inside.history.items c.self.inside.audit.items) (rw (← c.self.view_is) at c.in-Ok.ensures))

pub returns-in-Err : goal.returns-in-Err
returns-in-Err c = c.new.ensures ∙ sym (ready_full c.args.self.now c.in-Err.ensures.0)
