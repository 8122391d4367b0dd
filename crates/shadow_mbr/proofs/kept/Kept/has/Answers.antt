use Rattle.std.proofs.Common.{Option, ℕ, List, Some, None, refl, ap, sym, ◌∙◌, ◌≡◌}
use Rattle.std.specs.Prelude.{is_some}
use Rattle.std.specs.Option.{option_map}
use Rattle.shadow_mbr.specs.Places.{block_at}
use Rattle.shadow_mbr.proofs.Blocks.{block_in-blocks_of, sorted_blocks}
use Rattle.shadow_mbr.proofs.kept.Kept.has.Goals as goal

still : (o : Option ℕ) (blocks : List (List ℕ)) → is_some o ≡ is_some (option_map (block_at blocks) o)
still None blocks = refl
still (Some p) blocks = refl

pub returns-clause-value : goal.returns-clause-value
returns-clause-value c =
    rw (sym c.self.view_is, block_in-blocks_of c.self.inside.places c.self.inside.blocks.items c.args.sector)
    (c.is_some.ensures ∙ ap (λ (o : Option ℕ). is_some o) c.get.ensures.value ∙ still _ c.self.inside.blocks.items)

pub returns-clause-sorted : goal.returns-clause-sorted
returns-clause-sorted c = rw (sym c.self.view_is) (sorted_blocks c.self.inside.places c.self.inside.blocks.items c.self.invariant.sorted)
