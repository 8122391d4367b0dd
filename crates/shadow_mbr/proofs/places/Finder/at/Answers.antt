use Rattle.std.proofs.Common.{◌≡◌, ◌/◌, refl, sym}
use Rattle.std.specs.Option.{option_copied}
use Rattle.shadow_mbr.specs.Places.{group_in}
use Rattle.shadow_mbr.proofs.Groups.{place_in_group}
use Rattle.shadow_mbr.proofs.places.Finder.at.Goals as goal
use Rattle.shadow_mbr.proofs.places.Finder.at.Goals.{then-number-self, else-number-self, in-Some, in-None}

pub returns-clause-value : goal.returns-clause-value
returns-clause-value c =
    let found : option_copied c.if-number-self.self-inside.found ≡ group_in c.self.inside.groups.now (c.args.sector / 16) =
    elim c.if-number-self.branch [
      | then-number-self w ↦ rw w.self-inside-is w.get-self-inside.ensures.value
      | else-number-self w ↦ let h = w.if-number-self.false in rw (w.self-inside-is, h) c.self.invariant.1
    ] in
    rw (sym c.self.view_is, place_in_group c.self.inside.groups.now c.self.invariant.0 c.args.sector, sym found)
    (elim c.match-self.branch [
      | in-Some w ↦ let h = w.in-Some.is in rw (w.result-is, h) w.place_in.ensures
      | in-None w ↦ let h = w.in-None.is in rw (w.result-is, h) refl
    ])
