use Rattle.std.proofs.Common.{◌≡◌, ◌<◌, ℕ, false}
use Rattle.port_history.specs.Stages.{keeps_back}
use Rattle.port.specs.Answers.{stage_at}
use Rattle.port.proofs.stages.is_kept_back.Given as goal

abbrev pub invariant-loop-tag : goal.invariant-loop-tag
invariant-loop-tag l = (k : ℕ) → k < l.tag → keeps_back l.number (stage_at l.slots k) ≡ false
