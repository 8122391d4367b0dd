use Rattle.std.proofs.Common.{◌≡◌, ℕ, drop}
use Rattle.shadow_mbr.specs.Stored.{sector_at}
use Rattle.drive.specs.Trims.{erased_by_each}
use Rattle.drive.proofs.trimming.erase_each.Given as goal

abbrev pub invariant-loop-erased : goal.invariant-loop-erased
invariant-loop-erased l = record {
  size : l.media.sectors ≡ l.fn.media.sectors;
  sectors : (s : ℕ) → erased_by_each (drop l.erased-index l.erasures) s (sector_at l.media s) ≡ erased_by_each l.fn.erasures s (sector_at l.fn.media s);
}
