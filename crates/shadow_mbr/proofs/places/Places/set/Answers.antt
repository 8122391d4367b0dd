use Rattle.std.proofs.Common.{◌/◌, sym, refl, arith, Some}
use Rattle.std.specs.Prelude.{unwrap_or}
use Rattle.shadow_mbr.specs.Places.{group_in, no_places}
use Rattle.shadow_mbr.proofs.Groups.{put_in_group, was_there}
use Rattle.shadow_mbr.proofs.places.Places.set.Goals as goal

pub returns-clause-set : goal.returns-clause-set
returns-clause-set c =
    let gs = c.self.inside.groups in
    let sector = c.args.sector in
    rw (sym c.self.view_is, sym c.in_ok-place.ensures)
    (put_in_group gs c.set.new.self sector (unwrap_or (group_in gs (sector / 16)) no_places) _ (Some c.in_ok-place.place)
    c.self.invariant c.set.ensures.sorted refl (omega (arith, c.in_ok-set.ensures.long))
    (was_there (group_in gs (sector / 16))) c.in_ok-set.ensures.set)
