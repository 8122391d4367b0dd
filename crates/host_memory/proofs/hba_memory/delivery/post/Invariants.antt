use Rattle.std.proofs.Common.{drop}
use Rattle.host_memory.proofs.hba_memory.Talks.{PostsOn}
use Rattle.host_memory.specs.Access.{IsAccess}
use Rattle.host_memory.proofs.hba_memory.delivery.post.Given as goal

abbrev pub invariant-loop-fis : goal.invariant-loop-fis
invariant-loop-fis g l =
    PostsOn (IsAccess l.width g.M.HostMemory.does) l.initial.memory l.memory l.at l.fises (drop l.fis-index l.fises)
