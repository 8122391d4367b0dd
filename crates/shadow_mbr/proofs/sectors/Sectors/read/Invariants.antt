use Rattle.std.proofs.Common.{◌≡◌, ℕ, ◌+◌, ◌-◌, ◌<◌, ◌≤◌, length, get_or}
use Rattle.shadow_mbr.specs.Stored.{byte_at}
use Rattle.shadow_mbr.proofs.sectors.Sectors.read.Given as goal

abbrev pub invariant-loop-done : goal.invariant-loop-done
invariant-loop-done l = record {
  within : l.done ≤ length l.buffer;
  bytes : (k : ℕ) → k < l.done → get_or l.buffer k 0 ≡ byte_at l.self (l.at + k);
}

abbrev pub decreases-loop-done : goal.decreases-loop-done
decreases-loop-done l = length l.buffer - l.done
