use Rattle.std.proofs.Common.{◌≡◌, take, map}
use Rattle.tcg_tokens.specs.Tree.{tree}
use Rattle.saved.specs.Saved.{sector_tree}
use Rattle.saved.proofs.values.stored_sectors.Given as goal

abbrev pub invariant-loop-sector : goal.invariant-loop-sector
invariant-loop-sector g l = map tree l.values.items ≡ map (sector_tree (g.S.Store.stored l.store)) (take l.sector-index l.sectors)
