use Rattle.std.proofs.Common.{◌+◌, ◌*◌, ◌-◌, ◌≤◌, length, take}
use Rattle.host_memory.proofs.hba_memory.Talks.{GathersOn}
use Rattle.host_memory.specs.Access.{IsAccess}
use Rattle.host_memory.proofs.hba_memory.reading.gather_blocks.Given as goal

abbrev pub invariant-loop-k : goal.invariant-loop-k
invariant-loop-k g l = record {
  done : l.moved.len ≤ length l.initial.into;
  talk : GathersOn (IsAccess l.width g.M.HostMemory.does) l.initial.memory l.memory l.at l.entries (length l.initial.into)
      (take l.moved.len l.into) (l.at + 16 * l.k) (l.entries - l.k) (length l.initial.into - l.moved.len) l.moved.is_processed;
}
