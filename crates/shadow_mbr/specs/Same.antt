-- When two values keep the same.
use Rattle.std.specs.Prelude.{◌≡◌, ℕ, nat_eq, true}
use Rattle.std.specs.List.{list_any}
use Rattle.std.specs.Map.{keys_of}
use Rattle.shadow_mbr.specs.Stored.{StoredSectors, sector_at}

-- They have as many sectors, of which the same are kept, and each that is kept holds the same.
pub record KeepSame (a b : StoredSectors) : Type 0 where
  pub sectors : a.sectors ≡ b.sectors
  pub kept : keys_of a.kept ≡ keys_of b.kept
  pub each : (sector : ℕ) → list_any (nat_eq sector) (keys_of a.kept) ≡ true
      → sector_at a sector ≡ sector_at b sector
