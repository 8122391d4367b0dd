-- Which sectors an act makes zeros: those within some runs of sectors, or those outside of them.
use Rattle.std.specs.Prelude.{◌+◌, ℕ, Bool, false, ◌&&◌, ◌==◌, not, nat_le, nat_lt, List, [], ◌∷◌, length, set, Option, None, Some, if◌then◌else◌}
use Rattle.std.specs.List.{list_any}
use Rattle.shadow_mbr.specs.Stored.{zeros}
use Rattle.shadow_mbr.specs.declared.erasure.Run.{Run}
use Rattle.shadow_mbr.specs.declared.erasure.Erasure.{Erasure}
use Rattle.shadow_mbr.specs.declared.erasure.Erasure.TheVariants.{Within, Outside}

-- the sector lies in the run
abbrev pub is_in_run : ℕ → Run → Bool
is_in_run sector run = nat_le run.start sector && nat_lt sector (run.start + run.len)

-- the sector becomes zeros
abbrev pub is_erased : Erasure → ℕ → Bool
is_erased (Within runs) sector = list_any (is_in_run sector) runs.items
is_erased (Outside runs) sector = not (list_any (is_in_run sector) runs.items)

-- within no run: no sector; outside of no run: all of them
abbrev pub no_sectors : Erasure
no_sectors = Within (record { items = [] })

abbrev pub all_sectors : Erasure
all_sectors = Outside (record { items = [] })

-- it names no run, and all sectors are outside of it
abbrev pub names_all : Erasure → Bool
names_all (Within runs) = false
names_all (Outside runs) = length runs.items == 0

-- The blocks after one was made zeros, where its sector is erased and it stands somewhere.
abbrev pub block_erased : (ℕ → Bool) → ℕ → Option ℕ → List (List ℕ) → List (List ℕ)
block_erased erased sector None blocks = blocks
block_erased erased sector (Some place) blocks =
    if erased sector then set blocks place zeros else blocks

-- The blocks after those of all placed sectors that are erased were made zeros.
unfoldable pub blocks_erased : (ℕ → Bool) → List (ℕ × ℕ) → List (List ℕ) → List (List ℕ)
blocks_erased erased [] blocks = blocks
blocks_erased erased (e ∷ rest) blocks =
    blocks_erased erased rest (block_erased erased e.0 (Some e.1) blocks)
