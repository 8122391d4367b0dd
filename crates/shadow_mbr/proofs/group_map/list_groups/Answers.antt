use Rattle.std.proofs.Common.{◌*◌, ◌++◌, refl, sym, ap, ◌∙◌}
use Rattle.std.proofs.lemmas.Map.Iter.{rest_more}
use Rattle.std.specs.Map.{keys_of}
use Rattle.std.specs.Map.Iter.{deref_pair}
use Rattle.shadow_mbr.specs.Places.{placed_in, groups_of, group_at}
use Rattle.shadow_mbr.proofs.Listed.{groups_listed, groups_all_listed}
use Rattle.shadow_mbr.proofs.group_map.list_groups.Goals as goal

pub loop-number-init : goal.loop-number-init
loop-number-init c = rw (c.new-sectors.ensures.items, c.into_iter-number-iterator.ensures.into_iter_gives.0) refl

pub loop-number-preserved : goal.loop-number-preserved
loop-number-preserved c =
    let next = rest_more deref_pair c.loop-number.number-iterator c.next.new.self c.next.result _ c.in-Some.is c.next.ensures.steps in
    groups_listed c.in-Some.number.now _ (group_at c.args.groups.now c.in-Some.at.now) (groups_of c.next.new.self c.args.groups.now) c.loop-number.sectors.items c.list_at.new.sectors.items
    (ap (λ n. n * c.from-in-loop-number.result) c.from.ensures ∙ ap (λ n. c.in-Some.number.now * n) c.from-in-loop-number.ensures)
    c.list_at.ensures.long c.in_ok-list_at.ensures.listed
    ∙ ap (λ gs. c.loop-number.sectors.items ++ keys_of (placed_in (groups_of gs c.args.groups.now))) (sym next)
    ∙ c.loop-number.invariant

pub returns : goal.returns
returns c =
    sym (groups_all_listed (groups_of c.loop-number.number-iterator c.args.groups.now) c.loop-number.sectors.items (ap (λ es. groups_of es c.args.groups.now) c.in-None.ensures.steps.0))
    ∙ c.loop-number.invariant
