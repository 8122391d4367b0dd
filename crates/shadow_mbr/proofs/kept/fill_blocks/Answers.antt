-- Each sector has its block filled.
use Rattle.std.proofs.Common.{◌≡◌, ℕ, List, ap, refl, sym, ◌∙◌, arith}
use Rattle.shadow_mbr.specs.Places.{place_at}
use Rattle.shadow_mbr.proofs.Fills.{none_filled, fill_more}
use Rattle.shadow_mbr.proofs.kept.fill_blocks.Goals as goal

pub loop-sector-init : goal.loop-sector-init
loop-sector-init c = record {
  finder = refl;
  own = c.requires.own;
  sectors = λ s. sym (none_filled c.args.first c.args.byte s _);
}

pub loop-sector-preserved : goal.loop-sector-preserved
loop-sector-preserved c =
    let n = c.loop-sector.sector in
    let found : c.at-place.result ≡ place_at c.args.finder.now n = c.at-place.ensures.value ∙ ap (λ (ps : List (ℕ × ℕ)). place_at ps n) c.loop-sector.invariant.finder in
    let it =
    fill_more c.args.finder.now c.args.blocks.now.items c.loop-sector.blocks.items c.fill_block.new.blocks.items c.at-place.result c.args.first n c.args.byte
    c.loop-sector.invariant.own found (c.requires.placed n c.loop-sector.auto.sector (omega arith)) c.loop-sector.auto.sector c.fill_block.ensures c.loop-sector.invariant.sectors in
    record {
      finder = c.at-place.ensures.same ∙ c.loop-sector.invariant.finder;
      own = it.0;
      sectors = it.1;
    }
