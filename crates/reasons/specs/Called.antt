-- How objects and columns are called: by the names that the standards give them, or else by their numbers.
use Rattle.std.specs.Prelude.{ℕ, List, unwrap_or, decimal}
use Rattle.sp_cells.specs.declared.names.Uid.{Uid}
use Rattle.sp_cells.specs.declared.names.Column.{Column}
use Rattle.sp_cells.specs.Names.{table_of}
use Rattle.audit.specs.Names.{uid_text}
use Rattle.tcg_calls.specs.Objects.{object_name}
use Rattle.tcg_calls.specs.Columns.{column_name}

-- an object or a method; without a name it is told by the sixteen hex digits of its UID
abbrev pub called_object : Uid → List ℕ
called_object object = unwrap_or (object_name object) (uid_text object)

-- a column of the table that has this object; without a name it is told by its number
abbrev pub called_column : Uid → Column → List ℕ
called_column object column =
    unwrap_or (column_name (table_of object) column) (decimal column.0)
