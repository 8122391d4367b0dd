use Rattle.std.proofs.Common.{sym}
use Rattle.shadow_mbr.proofs.Grouped.{found_group, no_group, one_group, none_changed}
use Rattle.shadow_mbr.proofs.group_map.Groups.remove.Goals as goal

pub returns-in-Some-clause-removed : goal.returns-in-Some-clause-removed
returns-in-Some-clause-removed c =
    let indexes = c.self.inside.indexes in
    let groups = c.self.inside.groups.items in
    let there = sym c.in-Some.ensures in
    rw (sym c.self.view_is, found_group indexes groups c.args.number c.in-Some.at there, c.put_at.ensures.put)
    (one_group indexes groups c.args.number c.in-Some.at _ c.self.invariant there)

pub returns-in-Some-clause-long : goal.returns-in-Some-clause-long
returns-in-Some-clause-long c =
    rw (sym c.self.view_is, found_group c.self.inside.indexes c.self.inside.groups.items c.args.number c.in-Some.at (sym c.in-Some.ensures)) c.put_at.ensures.long

pub returns-in_default-clause-removed : goal.returns-in_default-clause-removed
returns-in_default-clause-removed c =
    let indexes = c.self.inside.indexes in
    let groups = c.self.inside.groups.items in
    let absent = no_group indexes groups c.args.number (sym c.in_default.ensures) in
    rw (sym c.self.view_is, absent) (λ n. none_changed indexes groups c.args.number n absent)

pub returns-in_default-clause-long : goal.returns-in_default-clause-long
returns-in_default-clause-long c =
    rw (sym c.self.view_is, no_group c.self.inside.indexes c.self.inside.groups.items c.args.number (sym c.in_default.ensures)) tt
