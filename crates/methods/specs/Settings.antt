-- What Set sets: the cells, or the bytes, that a call's values write (Core 2.01, section 5.3.3.7).
use Rattle.basics.specs.declared.profile.Profile.{Profile}
use Rattle.std.specs.Prelude.{◌+◌, ℕ, List, Option, None, Some, is_some, if◌then◌else◌}
use Rattle.std.specs.List.{list_all, filter_map}
use Rattle.sp_cells.specs.declared.names.Uid.{Uid}
use Rattle.sp_cells.specs.declared.names.Sp.{Sp}
use Rattle.sp_cells.specs.declared.names.Sp.TheVariants.{Admin, Locking}
use Rattle.sp_cells.specs.declared.names.Column.{Column}
use Rattle.sp_cells.specs.declared.cells.Cell.{Cell}
use Rattle.sp_cells.specs.declared.values.ColumnType.{ColumnType}
use Rattle.sp_cells.specs.declared.byte_tables.ByteTable.{ByteTable}
use Rattle.sp_cells.specs.declared.byte_tables.ByteTable.TheVariants.{ShadowMbr, DataStore}
use Rattle.sp_cells.specs.declared.byte_tables.TableSizes.{TableSizes}
use Rattle.sp_cells.specs.ByteTables.{table_begin, fits_table}
use Rattle.sp_cells.specs.Names.{col}
use Rattle.sp_cells.specs.Values.{type_at}
use Rattle.tcg_tokens.specs.Tree.{Tree}
use Rattle.tcg_calls.specs.CellValues.{cell_in}
use Rattle.tcg_calls.specs.declared.call_shapes.ask.Ask.{Ask}
use Rattle.tcg_calls.specs.declared.call_shapes.ask.Ask.TheVariants.{SetCells, SetBytes}
use Rattle.methods.specs.declared.kinds.Kind.{Kind}
use Rattle.methods.specs.declared.kinds.Kind.TheVariants as kinds
use Rattle.sessions.specs.Deeds.{Setting, cells_set, bytes_set}
use Rattle.methods.specs.Columns.{set_types_of}

-- the cell that a value writes in a column of this type; None where the type is none, or does not take the value
abbrev pub cell_as : Option ColumnType → Tree → Option Cell
cell_as None t = None
cell_as (Some kind) t = cell_in kind t

abbrev pub placed_cell : Column → Option Cell → Option (Column × Cell)
placed_cell k None = None
placed_cell k (Some cell) = Some (k, cell)

-- the cell that is assigned to a column, by the types that the columns take
abbrev pub cell_for : List (Column × ColumnType) → ℕ × Tree → Option (Column × Cell)
cell_for types p = placed_cell (col p.0) (cell_as (type_at types (col p.0)) p.1)

-- the cells that are assigned, in their order, where each column takes its value
unfoldable pub cells_for : List (Column × ColumnType) → List (ℕ × Tree)
    → Option (List (Column × Cell))
cells_for types ps = if list_all (λ p. is_some (cell_for types p)) ps
    then Some (filter_map (cell_for types) ps) else None

abbrev pub setting_of_cells : Uid → Option (List (Column × Cell)) → Option Setting
setting_of_cells object None = None
setting_of_cells object (Some cells) = Some (cells_set object cells)

-- Set of columns, by the types that they take; any other call sets no cell
abbrev pub cells_of_ask : Uid → List (Column × ColumnType) → Ask → Option Setting
cells_of_ask object types (SetCells ps) = setting_of_cells object (cells_for types ps)
cells_of_ask object types _ = None

-- Set of bytes, within the table, which is of the Locking SP: at the places of its rows
abbrev pub bytes_of_ask : Sp → TableSizes → ByteTable → Ask → Option Setting
bytes_of_ask Admin sizes table ask = None
bytes_of_ask Locking sizes table (SetBytes row bytes) =
    if fits_table sizes table row bytes
    then Some (bytes_set (table_begin sizes table + row) bytes) else None
bytes_of_ask Locking sizes table _ = None

-- what a call sets, by the profile and the kind of its object; None where a value is none that its place takes
abbrev pub setting : Profile → Sp → TableSizes → Uid → Option Kind → Ask → Option Setting
setting profile sp sizes object (Some kinds.MbrTable) ask = bytes_of_ask sp sizes ShadowMbr ask
setting profile sp sizes object (Some kinds.DataStore) ask = bytes_of_ask sp sizes DataStore ask
setting profile sp sizes object kind ask = cells_of_ask object (set_types_of profile kind) ask
