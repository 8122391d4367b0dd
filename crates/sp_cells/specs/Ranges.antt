-- What the rows say of the ranges of the Locking SP (Opal SSC 2.01, section 4.3.5.2).
use Rattle.std.specs.Prelude.{◌≡◌, ◌+◌, ◌<◌, ◌≤◌, ℕ, Bool, false, ◌&&◌, nat_lt, Option, Some}
use Rattle.sp_cells.specs.declared.names.TheConstants.{RANGES}
use Rattle.sp_cells.specs.declared.names.Uid.{Uid}
use Rattle.sp_cells.specs.declared.names.Sp.{Sp}
use Rattle.sp_cells.specs.declared.names.Sp.TheVariants.{Locking}
use Rattle.sp_cells.specs.declared.names.Column.{Column}
use Rattle.sp_cells.specs.declared.cells.Cell.{Cell}
use Rattle.sp_cells.specs.declared.cells.Cell.TheVariants.{Number}
use Rattle.sp_cells.specs.Names.{range_uid}
use Rattle.sp_cells.specs.ColumnNames.{range_start_column, range_length_column, read_lock_enabled_column, write_lock_enabled_column, read_locked_column, write_locked_column}
use Rattle.sp_cells.specs.Flat.{LookUp}

-- the number that stands in a cell; a cell that is none, or that does not exist, counts as 0
abbrev pub cell_number : Option Cell → ℕ
cell_number (Some (Number n)) = n
cell_number _ = 0

-- the number at a place
abbrev pub number : LookUp → Sp → Uid → Column → ℕ
number look sp object column = cell_number (look sp object column)

-- a column of a range as a number, the global range being number 0
abbrev pub of_range : LookUp → ℕ → Column → ℕ
of_range look n column = number look Locking (range_uid n) column

abbrev pub range_start : LookUp → ℕ → ℕ
range_start look n = of_range look n range_start_column

abbrev pub range_length : LookUp → ℕ → ℕ
range_length look n = of_range look n range_length_column

abbrev pub read_lock_enabled : LookUp → ℕ → ℕ
read_lock_enabled look n = of_range look n read_lock_enabled_column

abbrev pub write_lock_enabled : LookUp → ℕ → ℕ
write_lock_enabled look n = of_range look n write_lock_enabled_column

abbrev pub read_locked : LookUp → ℕ → ℕ
read_locked look n = of_range look n read_locked_column

abbrev pub write_locked : LookUp → ℕ → ℕ
write_locked look n = of_range look n write_locked_column

-- these two runs of sectors have one in common
abbrev pub meets : ℕ → ℕ → ℕ → ℕ → Bool
meets start len start' len' =
    nat_lt 0 len && nat_lt 0 len' && nat_lt start (start' + len') && nat_lt start' (start + len)

-- ranges i and j have a sector in common
abbrev pub ranges_meet : LookUp → ℕ → ℕ → Bool
ranges_meet look i j =
    meets (range_start look i) (range_length look i) (range_start look j) (range_length look j)

-- no two numbered ranges have a sector in common
pub record AreApart (look : LookUp) : Type 0 where
  pub separate : (i j : ℕ) → 1 ≤ i → i < j → j ≤ RANGES → ranges_meet look i j ≡ false
