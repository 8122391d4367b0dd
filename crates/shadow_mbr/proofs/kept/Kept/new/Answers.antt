use Rattle.shadow_mbr.proofs.Blocks.{own_none}
use Rattle.shadow_mbr.proofs.kept.Kept.new.Goals as goal

pub invariant_of-result : goal.invariant_of-result
invariant_of-result c = own_none _ _ c.new.ensures c.new-2.ensures.items
