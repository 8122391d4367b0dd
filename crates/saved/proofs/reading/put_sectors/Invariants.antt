use Rattle.std.proofs.Common.{◌≡◌}
use Rattle.saved.proofs.reading.put_sectors.Given as goal

abbrev pub invariant-loop-value : goal.invariant-loop-value
invariant-loop-value g l = (g.S.Store.stored l.store).sectors ≡ (g.S.Store.stored l.fn.store).sectors
