-- Which sectors a method erases, by the rows in force (Opal SSC 2.01, sections 4.3.5.2, 5.1.2 and 5.1.3; that the bytes
-- are zeros is this drive's own).
use Rattle.std.specs.Prelude.{ℕ, zero, suc, ◌==◌, ◌&&◌, Bool, true, false, List, [], ◌∷◌, if◌then◌else◌}
use Rattle.sp_cells.specs.declared.names.TheConstants.{RANGES}
use Rattle.sp_cells.specs.declared.names.Sp.TheVariants.{Locking}
use Rattle.sp_cells.specs.Flat.{LookUp}
use Rattle.sp_cells.specs.Ranges.{range_start, range_length, read_lock_enabled, write_lock_enabled, read_locked, write_locked}
use Rattle.shadow_mbr.specs.declared.erasure.Run.{Run}
use Rattle.shadow_mbr.specs.declared.erasure.Erasure.{Erasure}
use Rattle.shadow_mbr.specs.declared.erasure.Erasure.TheVariants.{Within, Outside}
use Rattle.shadow_mbr.specs.Erasure.{no_sectors, all_sectors}
use Rattle.sessions.specs.Starts.{is_in_use}

-- a Revert erases all sectors where the Locking SP is in use, and else none
abbrev pub erased_by_revert : LookUp → Erasure
erased_by_revert rows = if is_in_use rows Locking then all_sectors else no_sectors

-- the sectors of a range
abbrev pub run_of : LookUp → ℕ → Run
run_of rows range = record { start = range_start rows range; len = range_length rows range }

-- of so many ranges, from one on
abbrev pub runs_from : LookUp → ℕ → ℕ → List Run
runs_from rows first zero = []
runs_from rows first (suc n) = run_of rows first ∷ runs_from rows (suc first) n

unfoldable pub numbered_runs : LookUp → List Run
numbered_runs rows = runs_from rows 1 RANGES

-- a new key of a numbered range erases what lies within it, one of the global range what lies outside of all of those
abbrev pub erased_by_key : LookUp → ℕ → Erasure
erased_by_key rows zero = Outside (record { items = numbered_runs rows })
erased_by_key rows (suc n) = Within (record { items = run_of rows (suc n) ∷ [] })

-- a RevertSP erases all sectors, or, where it keeps those of the global range, what lies within the numbered ones
abbrev pub erased_by_revert_sp : LookUp → Bool → Erasure
erased_by_revert_sp rows false = all_sectors
erased_by_revert_sp rows true = Within (record { items = numbered_runs rows })

-- the global range is locked for reads and for writes, and both locks count
abbrev pub is_wholly_locked : LookUp → Bool
is_wholly_locked rows =
    (read_lock_enabled rows 0 == 1) && (read_locked rows 0 == 1)
    && (write_lock_enabled rows 0 == 1) && (write_locked rows 0 == 1)
