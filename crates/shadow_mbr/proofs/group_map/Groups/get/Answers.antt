use Rattle.std.proofs.Common.{List, Option, ℕ, Some, ap, sym, refl, ◌∙◌}
use Rattle.shadow_mbr.specs.Places.{group_at}
use Rattle.shadow_mbr.proofs.Grouped.{group_by_index}
use Rattle.shadow_mbr.proofs.group_map.Groups.get.Goals as goal

pub group_of-requires : goal.group_of-requires
group_of-requires c = rw c.deref.ensures.value (c.self.invariant.below c.args.number c.in-Some.at (sym c.in-Some.ensures))

pub returns-in-Some-clause-value : goal.returns-in-Some-clause-value
returns-in-Some-clause-value c =
    rw (sym c.self.view_is, group_by_index c.self.inside.indexes c.self.inside.groups.items c.args.number, sym c.in-Some.ensures)
    (ap (λ (g : List (Option ℕ)). Some g) (c.group_of.ensures ∙ ap (λ (gs : List (List (Option ℕ))). group_at gs c.in-Some.at) c.deref.ensures.value))

pub returns-in-None-clause-value : goal.returns-in-None-clause-value
returns-in-None-clause-value c =
    rw (sym c.self.view_is, group_by_index c.self.inside.indexes c.self.inside.groups.items c.args.number, sym c.in-None.ensures) refl
