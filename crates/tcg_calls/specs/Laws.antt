-- No two objects have one name.
use Rattle.std.specs.Prelude.{◌≡◌, ℕ, List, Some}
use Rattle.sp_cells.specs.declared.names.Uid.{Uid}
use Rattle.sp_cells.specs.declared.names.Column.{Column}
use Rattle.tcg_calls.specs.Objects.{object_name, object_by_name}
use Rattle.tcg_calls.specs.Columns.{column_name, column_by_name}

abbrev pub ObjectNameLaw : Type 0
ObjectNameLaw =
    (object : Uid) (name : List ℕ)
    → (object_name object ≡ Some name → object_by_name name ≡ Some object)
    × (object_by_name name ≡ Some object → object_name object ≡ Some name)

-- No two columns of a table have one name.
abbrev pub ColumnNameLaw : Type 0
ColumnNameLaw =
    (table : ℕ) (column : Column) (name : List ℕ)
    → (column_name table column ≡ Some name → column_by_name table name ≡ Some column)
    × (column_by_name table name ≡ Some column → column_name table column ≡ Some name)
