use Rattle.std.proofs.Common.{◌≡◌, ◌<◌, ℕ, false, is_some}
use Rattle.drive.specs.Queue.{slot_at}
use Rattle.drive.proofs.queue.Queue.is_busy.Given as goal

abbrev pub invariant-loop-tag : goal.invariant-loop-tag
invariant-loop-tag l = (k : ℕ) → k < l.tag → is_some (slot_at l.self.slots k) ≡ false
