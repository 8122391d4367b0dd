use Rattle.std.proofs.Common.{◌%◌, ap, sym, ◌∙◌}
use Rattle.shadow_mbr.specs.Places.{in_group}
use Rattle.shadow_mbr.proofs.Groups.{place_in_group}
use Rattle.shadow_mbr.proofs.places.Places.get.Goals as goal

pub returns-in-Some-clause-value : goal.returns-in-Some-clause-value
returns-in-Some-clause-value c =
    rw (sym c.self.view_is, place_in_group c.self.inside.groups c.self.invariant c.args.sector)
    (c.place_in.ensures ∙ ap (λ g. in_group g (c.args.sector % 16)) c.in-Some.ensures.value)

pub returns-in-None-clause-value : goal.returns-in-None-clause-value
returns-in-None-clause-value c =
    rw (sym c.self.view_is, place_in_group c.self.inside.groups c.self.invariant c.args.sector)
    (ap (λ g. in_group g (c.args.sector % 16)) c.in-None.ensures.value)
