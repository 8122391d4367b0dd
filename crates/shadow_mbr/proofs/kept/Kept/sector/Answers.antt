use Rattle.std.proofs.Common.{ap, sym, ◌∙◌, length, List, ℕ}
use Rattle.std.specs.Prelude.{unwrap_or, option_map}
use Rattle.shadow_mbr.specs.Stored.{zeros}
use Rattle.shadow_mbr.specs.Places.{block_at}
use Rattle.shadow_mbr.proofs.Blocks.{its_block, whole_block}
use Rattle.shadow_mbr.proofs.kept.Kept.sector.Goals as goal

pub returns-clause-value : goal.returns-clause-value
returns-clause-value c =
    rw (sym c.self.view_is)
    (c.block_or_zeros.ensures
    ∙ ap (λ (bs : List (List ℕ)). unwrap_or (option_map (block_at bs) c.get.result) zeros) c.deref.ensures.value
    ∙ its_block c.self.inside.places c.self.inside.blocks.items c.args.sector c.get.result c.get.ensures.value)

pub returns-clause-whole : goal.returns-clause-whole
returns-clause-whole c =
    ap (λ (b : List ℕ). length b) (returns-clause-value c)
    ∙ rw (sym c.self.view_is) (whole_block c.self.inside.places c.self.inside.blocks.items c.args.sector c.self.invariant)
