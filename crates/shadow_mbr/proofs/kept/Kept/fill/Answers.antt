use Rattle.std.proofs.Common.{refl, sym, ◌∙◌}
use Rattle.shadow_mbr.specs.Places.{place_at}
use Rattle.shadow_mbr.proofs.Blocks.{same_none, whole_block}
use Rattle.shadow_mbr.proofs.kept.Kept.fill.Goals as goal

pub fill_blocks-requires-clause-placed : goal.fill_blocks-requires-clause-placed
fill_blocks-requires-clause-placed c =
    let places = c.self.inside.places in
    let all = rw (sym c.self.view_is) at c.requires.all in
    rw c.finder-finder.ensures (λ s from below. sym (same_none places c.self.inside.blocks.items s (place_at places s) refl) ∙ all s from below)

pub returns-clause-kept : goal.returns-clause-kept
returns-clause-kept c =
    let places = c.self.inside.places in
    rw (sym c.self.view_is)
    (λ s. same_none places c.fill_blocks.new.blocks.items s (place_at places s) refl ∙ sym (same_none places c.self.inside.blocks.items s (place_at places s) refl))

pub returns-clause-whole : goal.returns-clause-whole
returns-clause-whole c =
    let own = rw c.finder-finder.ensures at c.fill_blocks.ensures.own in
    λ s. whole_block c.self.inside.places c.fill_blocks.new.blocks.items s own
