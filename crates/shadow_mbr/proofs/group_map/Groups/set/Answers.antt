use Rattle.std.proofs.Common.{sym, arith, length, ◌≡◌}
use Rattle.shadow_mbr.proofs.Grouped.{found_group, no_group, one_group, new_group, long_none}
use Rattle.shadow_mbr.proofs.group_map.Groups.set.Goals as goal

pub returns-in-Some-clause-set : goal.returns-in-Some-clause-set
returns-in-Some-clause-set c =
    let indexes = c.self.inside.indexes in
    let groups = c.self.inside.groups.items in
    let there = sym c.in-Some.ensures in
    rw (sym c.self.view_is, found_group indexes groups c.args.number c.in-Some.at there, c.put_at.ensures.put)
    (one_group indexes groups c.args.number c.in-Some.at _ c.self.invariant there)

pub returns-in-Some-clause-long : goal.returns-in-Some-clause-long
returns-in-Some-clause-long c =
    rw (sym c.self.view_is, found_group c.self.inside.indexes c.self.inside.groups.items c.args.number c.in-Some.at (sym c.in-Some.ensures)) c.put_at.ensures.long

pub returns-clause-set : goal.returns-clause-set
returns-clause-set c =
    let indexes = c.self.inside.indexes in
    let groups = c.self.inside.groups.items in
    let end : c.in_ok-at.at ≡ length groups = omega (arith, c.in_ok-at.ensures, c.len.ensures, c.self.inside.groups.ok.0) in
    rw (sym c.self.view_is, no_group indexes groups c.args.number (sym c.in_default.ensures), c.push_reserved.ensures.items, c.reserve.ensures.items, c.group_with.ensures)
    (new_group indexes c.insert.new.self groups c.args.number c.in_ok-at.at _ c.self.invariant end c.in_ok-insert.ensures.looks)

pub returns-clause-long : goal.returns-clause-long
returns-clause-long c =
    rw (sym c.self.view_is, no_group c.self.inside.indexes c.self.inside.groups.items c.args.number (sym c.in_default.ensures)) long_none
