use Rattle.std.proofs.Common.{◌≡◌, ℕ}
use Rattle.shadow_mbr.specs.Stored.{kept_sector, sector_filled}
use Rattle.shadow_mbr.specs.Places.{AreOwn, blocks_of}
use Rattle.shadow_mbr.proofs.kept.fill_blocks.Given as goal

abbrev pub invariant-loop-sector : goal.invariant-loop-sector
invariant-loop-sector l = record {
  finder : l.finder ≡ l.initial.finder;
  own : AreOwn l.initial.finder l.blocks.items;
  sectors : (s : ℕ) → kept_sector (blocks_of l.initial.finder l.blocks.items) s ≡ sector_filled l.first l.sector l.byte (kept_sector (blocks_of l.initial.finder l.fn.blocks.items) s) s;
}
