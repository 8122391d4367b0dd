use Rattle.std.proofs.Common.{ap, ◌∙◌}
use Rattle.std.specs.Prelude.{is_none}
use Rattle.port_history.specs.Ready.{ready_steps}
use Rattle.port.specs.Live.{LiveState}
use Rattle.port.specs.State.{refusal_on_bare}
use Rattle.port.proofs.live.LivePort.engine_steps.Goals as goal

pub returns : goal.returns
returns c = c.ready.ensures ∙ ap (λ (s : LiveState). ready_steps (λ step. is_none (refusal_on_bare s.bare step))) c.self.view_is
