-- The ranges that rows describe (Opal SSC, tables Locking and MBRControl).
use Rattle.std.specs.Prelude.{ℕ, zero, suc, ◌==◌, ◌&&◌, Bool, List, [], ◌∷◌, if◌then◌else◌}
use Rattle.sp_cells.specs.declared.names.TheConstants.{RANGES}
use Rattle.sp_cells.specs.declared.names.Sp.TheVariants.{Locking}
use Rattle.sp_cells.specs.Names.{mbr_control}
use Rattle.sp_cells.specs.ColumnNames.{mbr_enable_column, mbr_done_column}
use Rattle.sp_cells.specs.Flat.{LookUp}
use Rattle.sp_cells.specs.Ranges.{number, range_start, range_length, read_lock_enabled, write_lock_enabled, read_locked, write_locked}
use Rattle.locking.specs.declared.range.RangeRow.{RangeRow}
use Rattle.locking.specs.Range.{RangeRows}

-- One range, by its columns.
abbrev pub row_of : LookUp → ℕ → RangeRow
row_of look_up range = record {
  range = range;
  start = range_start look_up range;
  length = range_length look_up range;
  read_enabled = read_lock_enabled look_up range == 1;
  write_enabled = write_lock_enabled look_up range == 1;
  read_locked = read_locked look_up range == 1;
  write_locked = write_locked look_up range == 1;
}

abbrev pub range_rows_from : LookUp → ℕ → ℕ → List RangeRow
range_rows_from look_up first zero = []
range_rows_from look_up first (suc n) = row_of look_up first ∷ range_rows_from look_up (suc first) n

-- The shadow MBR is up: it is enabled, and not done.
abbrev pub is_shadow_up : LookUp → Bool
is_shadow_up look_up =
    (number look_up Locking mbr_control mbr_enable_column == 1)
    && (number look_up Locking mbr_control mbr_done_column == 0)

-- How many sectors are shadowed, of so many that can be.
abbrev pub shadowed_sectors : ℕ → LookUp → ℕ
shadowed_sectors size look_up = if is_shadow_up look_up then size else 0

-- The global range and the numbered ones, on a drive of which so many sectors can be shadowed.
unfoldable pub ranges_in : ℕ → LookUp → RangeRows
ranges_in size look_up = record {
  global = row_of look_up 0;
  numbered = range_rows_from look_up 1 RANGES;
  shadowed = shadowed_sectors size look_up;
}
