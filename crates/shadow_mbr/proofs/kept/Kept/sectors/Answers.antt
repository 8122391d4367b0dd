use Rattle.std.proofs.Common.{sym}
use Rattle.std.proofs.lemmas.Map.Made.{keys_of-map_values}
use Rattle.shadow_mbr.specs.Places.{block_at}
use Rattle.shadow_mbr.proofs.kept.Kept.sectors.Goals as goal

pub returns : goal.returns
returns c = rw (sym c.self.view_is, keys_of-map_values (block_at c.self.inside.blocks.items) c.self.inside.places) c.sectors.ensures
