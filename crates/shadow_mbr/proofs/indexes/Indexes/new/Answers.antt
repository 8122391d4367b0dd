use Rattle.shadow_mbr.proofs.Indexed.{none_indexed}
use Rattle.shadow_mbr.proofs.indexes.Indexes.new.Goals as goal

pub invariant_of-result : goal.invariant_of-result
invariant_of-result c = rw c.new-2.ensures.items (none_indexed c.new.result.entries)
