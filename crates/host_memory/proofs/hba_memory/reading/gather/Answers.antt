-- Where no bytes are wanted, nothing is read.
use Rattle.std.proofs.Common.{◌∙◌, sym}
use Rattle.host_memory.proofs.hba_memory.Talks.{gathers_nothing}
use Rattle.host_memory.specs.Access.{IsAccess}
use Rattle.host_memory.proofs.hba_memory.reading.gather.Goals as goal

pub returns-then-is_empty : goal.returns-then-is_empty
returns-then-is_empty g c =
    gathers_nothing (IsAccess c.args.width g.M.HostMemory.does) c.args.memory.now c.args.at c.args.entries c.args.room.now c.none.result
    (sym c.is_empty.ensures ∙ c.if-is_empty.true) c.none.ensures
