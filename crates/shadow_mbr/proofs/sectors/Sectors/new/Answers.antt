use Rattle.shadow_mbr.proofs.Zeros.{sound_when_empty}
use Rattle.shadow_mbr.proofs.sectors.Sectors.new.Goals as goal

pub invariant_of-result : goal.invariant_of-result
invariant_of-result c = sound_when_empty _ _ c.new.ensures c.requires

pub returns-clause-sound : goal.returns-clause-sound
returns-clause-sound c = sound_when_empty _ _ c.new.ensures c.requires
