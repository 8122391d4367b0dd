use Rattle.shadow_mbr.proofs.Groups.{none_placed}
use Rattle.shadow_mbr.proofs.places.Places.new.Goals as goal

pub returns : goal.returns
returns c = none_placed _ c.new.ensures
