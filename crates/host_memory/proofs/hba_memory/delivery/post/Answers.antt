-- Each FIS is written, or refused.
use Rattle.std.proofs.Common.{◌+◌, arith}
use Rattle.host_memory.proofs.hba_memory.Talks.{posts_more, posts_stop, posts_end}
use Rattle.host_memory.specs.Access.{IsAccess}
use Rattle.host_memory.proofs.hba_memory.delivery.post.Goals as goal

pub returns-then-not-store : goal.returns-then-not-store
returns-then-not-store g c =
    posts_stop (IsAccess c.args.width g.M.HostMemory.does) c.args.memory.now c.loop-fis.memory c.store.new.memory c.args.at
    c.args.fises.now c.loop-fis.fis-index c.fis-item.result c.store.ensures.0 (c.from.result + c.received_offset.result)
    c.store.result c.loop-fis.invariant c.loop-fis-test.true c.fis-item.is
    c.store.ensures.1 (rw (c.from.ensures, c.received_offset.ensures.value))
    c.if-not-store.true c.store.ensures.2

pub loop-fis-preserved : goal.loop-fis-preserved
loop-fis-preserved g c =
    posts_more (IsAccess c.args.width g.M.HostMemory.does) c.args.memory.now c.loop-fis.memory c.store.new.memory c.args.at
    c.args.fises.now c.loop-fis.fis-index c.fis-item.result c.store.ensures.0 (c.from.result + c.received_offset.result)
    c.store.result c.loop-fis.invariant c.loop-fis-test.true c.fis-item.is
    c.store.ensures.1 (rw (c.from.ensures, c.received_offset.ensures.value))
    c.if-not-store.false c.store.ensures.2

pub returns : goal.returns
returns g c =
    posts_end (IsAccess c.args.width g.M.HostMemory.does) c.args.memory.now c.loop-fis.memory c.args.at c.args.fises.now
    c.loop-fis.fis-index c.loop-fis.invariant (omega arith)
