use Rattle.std.proofs.Common.{◌+◌, ◌*◌, ◌-◌, ◌≤◌, length, drop}
use Rattle.host_memory.proofs.hba_memory.Talks.{ScattersOn}
use Rattle.host_memory.specs.Access.{IsAccess}
use Rattle.host_memory.proofs.hba_memory.delivery.scatter.Given as goal

abbrev pub invariant-loop-k : goal.invariant-loop-k
invariant-loop-k g l = record {
  done : l.moved.len ≤ length (g.S.Source.bytes l.source);
  talk : ScattersOn (IsAccess l.width g.M.HostMemory.does) l.initial.memory l.memory l.at l.entries (g.S.Source.bytes l.source)
      (l.at + 16 * l.k) (l.entries - l.k) (drop l.moved.len (g.S.Source.bytes l.source)) l.moved;
}
