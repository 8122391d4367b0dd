use Rattle.std.proofs.Common.{refl, sym, ◌∙◌, length}
use Rattle.shadow_mbr.specs.Places.{place_at}
use Rattle.shadow_mbr.proofs.Blocks.{same_none, whole_block}
use Rattle.shadow_mbr.proofs.Runs.{covers_all}
use Rattle.shadow_mbr.proofs.kept.Kept.overwrites.Goals as goal

pub write_blocks-requires-clause-kept : goal.write_blocks-requires-clause-kept
write_blocks-requires-clause-kept c =
    let value = rw c.finder-finder.ensures at c.has_all-all.ensures.value in
    rw (c.has_all-all.ensures.same, c.finder-finder.ensures)
    ((covers_all c.self.inside.places c.self.inside.blocks.items c.args.at (length c.args.bytes.now) _ _ c.has_all-all.result c.sectors_of-first.ensures.touched value).0 c.if-all.true)

pub returns-then-all-clause-covered : goal.returns-then-all-clause-covered
returns-then-all-clause-covered c =
    let value = rw c.finder-finder.ensures at c.has_all-all.ensures.value in
    rw (sym c.self.view_is) (covers_all c.self.inside.places c.self.inside.blocks.items c.args.at (length c.args.bytes.now) _ _ c.has_all-all.result c.sectors_of-first.ensures.touched value)

pub returns-then-all-clause-kept : goal.returns-then-all-clause-kept
returns-then-all-clause-kept c =
    let places = c.self.inside.places in
    rw (sym c.self.view_is)
    (λ s. same_none places c.write_blocks.new.blocks.items s (place_at places s) refl ∙ sym (same_none places c.self.inside.blocks.items s (place_at places s) refl))

pub returns-then-all-clause-whole : goal.returns-then-all-clause-whole
returns-then-all-clause-whole c =
    let own = rw (c.has_all-all.ensures.same, c.finder-finder.ensures) at c.write_blocks.ensures.own in
    λ s. whole_block c.self.inside.places c.write_blocks.new.blocks.items s own

pub returns-else-all-clause-covered : goal.returns-else-all-clause-covered
returns-else-all-clause-covered c =
    let value = rw c.finder-finder.ensures at c.has_all-all.ensures.value in
    rw (sym c.self.view_is) (covers_all c.self.inside.places c.self.inside.blocks.items c.args.at (length c.args.bytes.now) _ _ c.has_all-all.result c.sectors_of-first.ensures.touched value)

pub returns-else-all-clause-whole : goal.returns-else-all-clause-whole
returns-else-all-clause-whole c = rw (sym c.self.view_is) (λ s. whole_block c.self.inside.places c.self.inside.blocks.items s c.self.invariant)
