use Rattle.shadow_mbr.proofs.Zeros.{sound_when_empty}
use Rattle.shadow_mbr.proofs.sectors.Sectors.clear.Goals as goal

pub invariant_of-self : goal.invariant_of-self
invariant_of-self c = sound_when_empty _ _ c.new.ensures c.self.invariant.few

pub returns-clause-sound : goal.returns-clause-sound
returns-clause-sound c = sound_when_empty _ _ c.new.ensures c.self.invariant.few
