use Rattle.std.proofs.Common.{◌≡◌, ℕ, take, nat_eq}
use Rattle.std.specs.Prelude.{if◌then◌else◌, is_some}
use Rattle.std.specs.List.{list_any}
use Rattle.shadow_mbr.specs.Stored.{block_in, kept_sector}
use Rattle.shadow_mbr.proofs.shrinking.copy_sectors.Given as goal

abbrev pub invariant-loop-sector : goal.invariant-loop-sector
invariant-loop-sector l = record {
  kept : (s : ℕ) → is_some (block_in l.to s) ≡ is_some (block_in l.fn.to s);
  sectors : (s : ℕ) → kept_sector l.to s
      ≡ (if list_any (nat_eq s) (take l.sector-index l.sectors) then kept_sector l.from s else kept_sector l.fn.to s);
}
