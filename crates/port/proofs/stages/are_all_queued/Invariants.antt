use Rattle.std.proofs.Common.{◌≡◌, ◌<◌, ℕ, false}
use Rattle.port.specs.Answers.{stage_at, may_keep_back}
use Rattle.port.proofs.stages.are_all_queued.Given as goal

abbrev pub invariant-loop-tag : goal.invariant-loop-tag
invariant-loop-tag l = (k : ℕ) → k < l.tag → may_keep_back (stage_at l.slots k) ≡ false
