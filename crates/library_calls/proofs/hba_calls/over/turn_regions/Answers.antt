use Rattle.std.proofs.Common.{ap}
use Rattle.library_calls.proofs.hba_calls.Bytes.{turned}
use Rattle.library_calls.proofs.hba_calls.Memories.{regions_key, regions_bytes, regions_stand, regions_by, regions_kept}
use Rattle.library_calls.specs.Regions.{RegionsDo}
use Rattle.library_calls.proofs.hba_calls.over.turn_regions.Goals as goal

pub returns : goal.returns
returns c =
    let over = turned regions_key regions_bytes RegionsDo regions_stand regions_by regions_kept _ _ _ _ _ _ c.turn-turned.ensures.done c.turn-turned.ensures.picked c.turn-turned.ensures.idle
    c.turn-turned.ensures.still c.turn-turned.ensures.none_moved c.turn-turned.ensures.err c.turn-turned.ensures.kept in
    (ap (λ k. k.0.0) over.0, ap (λ k. k.0.1) over.0, over.1)
