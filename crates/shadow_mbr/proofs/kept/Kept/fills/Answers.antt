use Rattle.std.proofs.Common.{refl, sym, ◌∙◌}
use Rattle.shadow_mbr.specs.Places.{place_at}
use Rattle.shadow_mbr.proofs.Blocks.{same_none, whole_block}
use Rattle.shadow_mbr.proofs.kept.Kept.fills.Goals as goal

pub fill_blocks-requires-clause-placed : goal.fill_blocks-requires-clause-placed
fill_blocks-requires-clause-placed c =
    let value = c.has_all-all.ensures.value in
    rw (c.has_all-all.ensures.same) (value.0 c.if-all.true)

pub returns-then-all-clause-all : goal.returns-then-all-clause-all
returns-then-all-clause-all c =
    let places = c.self.inside.places in
    let value = rw c.finder-finder.ensures at c.has_all-all.ensures.value in
    rw (sym c.self.view_is)
    (λ is s from below. same_none places c.self.inside.blocks.items s (place_at places s) refl ∙ value.0 is s from below)

pub returns-then-all-clause-kept : goal.returns-then-all-clause-kept
returns-then-all-clause-kept c =
    let places = c.self.inside.places in
    rw (sym c.self.view_is)
    (λ s. same_none places c.fill_blocks.new.blocks.items s (place_at places s) refl ∙ sym (same_none places c.self.inside.blocks.items s (place_at places s) refl))

pub returns-then-all-clause-whole : goal.returns-then-all-clause-whole
returns-then-all-clause-whole c =
    let own = rw (c.has_all-all.ensures.same, c.finder-finder.ensures) at c.fill_blocks.ensures.own in
    λ s. whole_block c.self.inside.places c.fill_blocks.new.blocks.items s own

pub returns-else-all-clause-whole : goal.returns-else-all-clause-whole
returns-else-all-clause-whole c = rw (sym c.self.view_is) (λ s. whole_block c.self.inside.places c.self.inside.blocks.items s c.self.invariant)
