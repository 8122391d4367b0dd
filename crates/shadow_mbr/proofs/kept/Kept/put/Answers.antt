-- Another block stands where that of the sector stood.
use Rattle.std.proofs.Common.{◌≡◌, refl, sym, ◌∙◌, true, arith}
use Rattle.std.specs.Prelude.{is_some}
use Rattle.shadow_mbr.specs.Places.{place_at}
use Rattle.shadow_mbr.proofs.Blocks.{same_none}
use Rattle.shadow_mbr.proofs.Shrunk.{put_one}
use Rattle.shadow_mbr.proofs.kept.Kept.put.Goals as goal

pub invariant_of-self : goal.invariant_of-self
invariant_of-self c =
    let places = c.self.inside.places in
    let blocks = c.self.inside.blocks.items in
    let kept = rw (sym c.self.view_is) at c.requires in
    let there : is_some (place_at places c.args.sector) ≡ true = sym (same_none places blocks c.args.sector (place_at places c.args.sector) refl) ∙ kept in
    (put_one places blocks c.put_block.new.blocks.items c.get-place.result c.args.sector c.args.block.now c.self.invariant c.get-place.ensures.value there (omega arith) c.put_block.ensures).0

pub returns : goal.returns
returns c =
    let places = c.self.inside.places in
    let blocks = c.self.inside.blocks.items in
    let kept = rw (sym c.self.view_is) at c.requires in
    let there : is_some (place_at places c.args.sector) ≡ true = sym (same_none places blocks c.args.sector (place_at places c.args.sector) refl) ∙ kept in
    rw (sym c.self.view_is) ((put_one places blocks c.put_block.new.blocks.items c.get-place.result c.args.sector c.args.block.now c.self.invariant c.get-place.ensures.value there (omega arith) c.put_block.ensures).1)
