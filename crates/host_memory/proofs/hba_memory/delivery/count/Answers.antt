-- PRDBC is written, or refused.
use Rattle.std.proofs.Common.{true, false}
use Rattle.host_memory.proofs.hba_memory.Talks.{counts_by}
use Rattle.host_memory.specs.Access.{IsAccess}
use Rattle.host_memory.proofs.hba_memory.delivery.count.Goals as goal

pub returns-then-write_at : goal.returns-then-write_at
returns-then-write_at g c =
    counts_by (IsAccess c.args.width g.M.HostMemory.does) c.args.memory.now c.write_at.new.memory c.args.header c.args.moved
    c.write_u32.new.buf true c.write_at.result c.if-moved-eq0.false c.if-write_at.true c.write_u32.ensures c.write_at.ensures

pub returns-else-write_at : goal.returns-else-write_at
returns-else-write_at g c =
    counts_by (IsAccess c.args.width g.M.HostMemory.does) c.args.memory.now c.write_at.new.memory c.args.header c.args.moved
    c.write_u32.new.buf false c.write_at.result c.if-moved-eq0.false c.if-write_at.false c.write_u32.ensures c.write_at.ensures
