use Rattle.std.proofs.Common.{◌≡◌, ◌∙◌, List, ap, false}
use Rattle.history.specs.Decisions.{any_below}
use Rattle.port_history.specs.Stages.{is_queued_command, is_out}
use Rattle.port_history.specs.declared.stages.Stage.{Stage}
use Rattle.port.specs.Answers.{stage_at}
use Rattle.port.proofs.stages.Stages.mixes.Goals as goal

pub returns-else-is_queued : goal.returns-else-is_queued
returns-else-is_queued c =
    let direct : is_queued_command c.args.put.command ≡ false = cc in
    rw (← c.self.view_is, direct) (c.is_any_out.ensures ∙ ap (λ (s : List Stage). any_below (λ tag. is_out (stage_at s tag)) 32) c.deref.ensures)
