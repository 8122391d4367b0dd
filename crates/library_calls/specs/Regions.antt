-- Bytes of the host's memory of which some regions alone are memory: an access of anything else is an error of the system's
-- memory (AHCI 1.3.1, 6.1.1).
use Rattle.std.specs.Prelude.{◌≡◌, ℕ, ◌+◌, ◌&&◌, nat_le, Bool, List, length}
use Rattle.std.specs.List.{list_any}
use Rattle.host_memory.specs.Access.{Access, Asked, Laid, IsAccessIf}
use Rattle.host_memory.specs.Window.{StandsSo}
use Rattle.library_calls.specs.declared.hba_calls.regions.Region.{Region}
use Rattle.library_calls.specs.declared.hba_calls.regions.Regions.{Regions}

-- so many bytes at an address lie in a region
abbrev pub lies_in : ℕ → ℕ → Region → Bool
lies_in at n region = nat_le region.begin at && nat_le (at + n) (region.begin + region.length)

-- and those of an access in one of the regions
abbrev pub is_in_regions : List Region → Access → Bool
is_in_regions regions (Asked at n answer) = list_any (lies_in at n) regions
is_in_regions regions (Laid at bytes is_done) = list_any (lies_in at (length bytes)) regions

-- Bytes at a base address, before and after an access: an access that lies in no region is refused.
abbrev pub StandsWithin : List Region → ℕ → List ℕ → Access → List ℕ → Type 0
StandsWithin regions base old access new =
    IsAccessIf (is_in_regions regions access) (StandsSo base) old access new

-- Bytes and regions stay where they are; the bytes answer.
abbrev pub RegionsDo : Regions → Access → Regions → Type 0
RegionsDo old access new =
    (new.base ≡ old.base)
    × (new.bytes.ghost_name ≡ old.bytes.ghost_name)
    × (new.regions.now ≡ old.regions.now)
    × StandsWithin old.regions.now old.base old.bytes.now access new.bytes.now
