use Rattle.std.proofs.Common.{◌≡◌, ℕ, take, nat_eq, true, false}
use Rattle.std.specs.List.{list_any}
use Rattle.shadow_mbr.specs.Stored.{kept_sector, zeros}
use Rattle.shadow_mbr.proofs.shrinking.list_filled.Given as goal

abbrev pub invariant-loop-sector : goal.invariant-loop-sector
invariant-loop-sector l =
    (s : ℕ) → list_any (nat_eq s) (take l.sector-index l.sectors) ≡ true
    → list_any (nat_eq s) l.filled.items ≡ false → kept_sector l.kept s ≡ zeros
