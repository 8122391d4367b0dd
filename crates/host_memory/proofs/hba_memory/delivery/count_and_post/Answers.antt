-- One thing after the other, until memory fails.
use Rattle.std.proofs.Common.{◌++◌}
use Rattle.host_memory.proofs.Accesses.{accessed_append}
use Rattle.host_memory.specs.Memory.{Counts, PostsTo}
use Rattle.host_memory.proofs.hba_memory.Talks.{then_missed, then_next}
use Rattle.host_memory.specs.Access.{IsAccess}
use Rattle.host_memory.proofs.hba_memory.delivery.count_and_post.Goals as goal

pub returns-in-Ok : goal.returns-in-Ok
returns-in-Ok g c =
    let k = rw c.in-Ok.is at c.count.ensures in
    let p = rw (← c.err.ensures.value) at c.post_all.ensures in (
      k.0 ++ p.0,
      accessed_append (IsAccess c.args.width g.M.HostMemory.does) c.args.memory.now c.count.new.memory c.post_all.new.memory k.0 p.0 k.1 p.1,
      then_next (Counts c.args.header c.args.moved) (PostsTo c.args.to c.args.fises.now) k.0 p.0 _ k.2 p.2,
    )

pub returns-in-Err : goal.returns-in-Err
returns-in-Err g c =
    let k = rw c.in-Err.is at c.count.ensures in
    (k.0, k.1, then_missed (Counts c.args.header c.args.moved) (PostsTo c.args.to c.args.fises.now) k.0 c.in-Err.miss k.2)
