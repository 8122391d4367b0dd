use Rattle.std.proofs.Common.{refl, sym, ◌∙◌}
use Rattle.shadow_mbr.specs.Places.{place_at}
use Rattle.shadow_mbr.proofs.Blocks.{same_none, whole_block}
use Rattle.shadow_mbr.proofs.kept.Kept.overwrite.Goals as goal

pub returns-clause-kept : goal.returns-clause-kept
returns-clause-kept c =
    let places = c.self.inside.places in
    rw (sym c.self.view_is)
    (λ s. same_none places c.write_blocks.new.blocks.items s (place_at places s) refl ∙ sym (same_none places c.self.inside.blocks.items s (place_at places s) refl))

pub returns-clause-whole : goal.returns-clause-whole
returns-clause-whole c =
    let own = rw c.finder-finder.ensures at c.write_blocks.ensures.own in
    λ s. whole_block c.self.inside.places c.write_blocks.new.blocks.items s own
