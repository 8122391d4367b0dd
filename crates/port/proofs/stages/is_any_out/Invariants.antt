use Rattle.std.proofs.Common.{◌≡◌, ◌<◌, ℕ, false}
use Rattle.port_history.specs.Stages.{is_out}
use Rattle.port.specs.Answers.{stage_at}
use Rattle.port.proofs.stages.is_any_out.Given as goal

abbrev pub invariant-loop-tag : goal.invariant-loop-tag
invariant-loop-tag l = (k : ℕ) → k < l.tag → is_out (stage_at l.slots k) ≡ false
