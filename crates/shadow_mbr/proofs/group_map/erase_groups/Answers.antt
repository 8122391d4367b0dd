use Rattle.std.proofs.Common.{◌*◌, refl, sym, ap, ◌∙◌}
use Rattle.std.proofs.lemmas.Map.Iter.{rest_more}
use Rattle.std.specs.Map.Iter.{deref_pair}
use Rattle.shadow_mbr.specs.Places.{placed_in, groups_of, group_at}
use Rattle.shadow_mbr.specs.Erasure.{is_erased, blocks_erased}
use Rattle.shadow_mbr.proofs.Cleared.{groups_go_on, groups_end}
use Rattle.shadow_mbr.proofs.group_map.erase_groups.Goals as goal

pub loop-number-init : goal.loop-number-init
loop-number-init c = rw (c.into_iter-number-iterator.ensures.into_iter_gives.0) refl

pub loop-number-preserved : goal.loop-number-preserved
loop-number-preserved c =
    let p = is_erased c.args.erasure.now in
    let next = rest_more deref_pair c.loop-number.number-iterator c.next.new.self c.next.result _ c.in-Some.is c.next.ensures.steps in
    groups_go_on p c.in-Some.number.now _ (group_at c.args.groups.now c.in-Some.at.now) (groups_of c.next.new.self c.args.groups.now) c.loop-number.blocks.items c.erase_at.new.blocks.items
    (ap (λ n. n * c.from-in-loop-number.result) c.from.ensures ∙ ap (λ n. c.in-Some.number.now * n) c.from-in-loop-number.ensures)
    c.erase_at.ensures.long c.erase_at.ensures.erased
    ∙ ap (λ gs. blocks_erased p (placed_in (groups_of gs c.args.groups.now)) c.loop-number.blocks.items) (sym next)
    ∙ c.loop-number.invariant

pub returns : goal.returns
returns c =
    sym (groups_end (is_erased c.args.erasure.now) (groups_of c.loop-number.number-iterator c.args.groups.now) c.loop-number.blocks.items (ap (λ es. groups_of es c.args.groups.now) c.in-None.ensures.steps.0))
    ∙ c.loop-number.invariant
