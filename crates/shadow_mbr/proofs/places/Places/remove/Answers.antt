use Rattle.std.proofs.Common.{◌/◌, sym, refl}
use Rattle.shadow_mbr.specs.Places.{group_in}
use Rattle.shadow_mbr.proofs.Groups.{taken_from_group}
use Rattle.shadow_mbr.proofs.places.Places.remove.Goals as goal

pub returns-clause-removed : goal.returns-clause-removed
returns-clause-removed c =
    rw (sym c.self.view_is)
    (taken_from_group c.self.inside.groups c.remove.new.self c.args.sector c.self.invariant c.remove.ensures.sorted (group_in c.self.inside.groups (c.args.sector / 16)) refl c.remove.ensures.long c.remove.ensures.removed)
