-- Which value each column takes (Core 2.01, section 5.1.3, and the tables of 5.3, 5.4 and 5.7).
use Rattle.std.specs.Prelude.{◌==◌, nat_le, ℕ, Bool, true, false, List, [], ◌∷◌, length, Option, Some, None, if◌then◌else◌}
use Rattle.std.specs.List.{list_all}
use Rattle.sp_cells.specs.declared.names.Uid.{Uid as UidType}
use Rattle.sp_cells.specs.declared.names.Column.{Column}
use Rattle.sp_cells.specs.declared.cells.Cell.{Cell}
use Rattle.sp_cells.specs.declared.cells.Cell.TheVariants.{Number, Bytes, Uid, Numbers, Expr, Columns, OneName}
use Rattle.sp_cells.specs.Limits.{most_pin_bytes, most_common_name_bytes, cryptographic_erase}
use Rattle.sp_cells.specs.Names.{table_of, ace_table, authority_table, c_pin_table, sp_table, locking_table, mbr_control_table, tper_info_table, data_removal_table}
use Rattle.sp_cells.specs.ColumnNames.{uid_column, name_column, common_name_column, life_cycle_state_column, programmatic_reset_enable_column, pin_column, char_set_column, try_limit_column, tries_column, persistence_column}
use Rattle.sp_cells.specs.ColumnNames.{is_class_column, class_column, enabled_column, operation_column, credential_column, boolean_expr_column, columns_column}
use Rattle.sp_cells.specs.ColumnNames.{range_start_column, range_length_column, read_lock_enabled_column, write_lock_enabled_column, read_locked_column, write_locked_column, lock_on_reset_column, mbr_enable_column, mbr_done_column, mbr_done_on_reset_column}
use Rattle.sp_cells.specs.ColumnNames.{active_data_removal_mechanism_column}
use Rattle.sp_cells.specs.declared.values.ColumnType.{ColumnType}
use Rattle.sp_cells.specs.declared.values.ColumnType.TheVariants as types

-- a cell is a value of this type
abbrev pub is_of_type : ColumnType → Cell → Bool
is_of_type types.Name (Bytes b) = true
is_of_type types.CommonName (Bytes b) = nat_le (length b) most_common_name_bytes
is_of_type types.Secret (Bytes b) = nat_le (length b) most_pin_bytes
is_of_type types.Object (Uid u) = true
is_of_type types.Number (Number n) = true
is_of_type types.Flag (Number n) = nat_le n 1
is_of_type types.Mechanism (Number n) = n == cryptographic_erase
is_of_type types.Resets (Numbers r) = true
is_of_type types.PowerCycleResets (Numbers r) = r.power_cycle
is_of_type types.Expression (Expr e) = true
is_of_type types.LongExpression (Expr e) = true
is_of_type types.Columns (Columns c) = true
is_of_type types.OneName (OneName b) = true
is_of_type _ _ = false

-- the type of a column in a list of columns
abbrev pub type_at : List (Column × ColumnType) → Column → Option ColumnType
type_at [] column = None
type_at (p ∷ ps) column = if p.0.0 == column.0 then Some p.1 else type_at ps column

-- SP
abbrev pub sp_types : List (Column × ColumnType)
sp_types =
    (uid_column, types.Object)
    ∷ (name_column, types.Name)
    ∷ (life_cycle_state_column, types.Number)
    ∷ []

-- ACE
abbrev pub ace_types : List (Column × ColumnType)
ace_types =
    (uid_column, types.Object)
    ∷ (name_column, types.Name)
    ∷ (common_name_column, types.Name)
    ∷ (boolean_expr_column, types.Expression)
    ∷ (columns_column, types.Columns)
    ∷ []

-- Authority
abbrev pub authority_types : List (Column × ColumnType)
authority_types =
    (uid_column, types.Object)
    ∷ (name_column, types.Name)
    ∷ (common_name_column, types.Name)
    ∷ (is_class_column, types.Flag)
    ∷ (class_column, types.Object)
    ∷ (enabled_column, types.Flag)
    ∷ (operation_column, types.Number)
    ∷ (credential_column, types.Object)
    ∷ []

-- C_PIN
abbrev pub c_pin_types : List (Column × ColumnType)
c_pin_types =
    (uid_column, types.Object)
    ∷ (name_column, types.Name)
    ∷ (common_name_column, types.Name)
    ∷ (pin_column, types.Secret)
    ∷ (char_set_column, types.Object)
    ∷ (try_limit_column, types.Number)
    ∷ (tries_column, types.Number)
    ∷ (persistence_column, types.Flag)
    ∷ []

-- Locking
abbrev pub locking_types : List (Column × ColumnType)
locking_types =
    (uid_column, types.Object)
    ∷ (name_column, types.Name)
    ∷ (common_name_column, types.Name)
    ∷ (range_start_column, types.Number)
    ∷ (range_length_column, types.Number)
    ∷ (read_lock_enabled_column, types.Flag)
    ∷ (write_lock_enabled_column, types.Flag)
    ∷ (read_locked_column, types.Flag)
    ∷ (write_locked_column, types.Flag)
    ∷ (lock_on_reset_column, types.Resets)
    ∷ []

-- MBRControl
abbrev pub mbr_control_types : List (Column × ColumnType)
mbr_control_types =
    (uid_column, types.Object)
    ∷ (mbr_enable_column, types.Flag)
    ∷ (mbr_done_column, types.Flag)
    ∷ (mbr_done_on_reset_column, types.Resets)
    ∷ []

-- TPerInfo
abbrev pub tper_info_types : List (Column × ColumnType)
tper_info_types =
    (uid_column, types.Object)
    ∷ (programmatic_reset_enable_column, types.Flag)
    ∷ []

-- DataRemovalMechanism (Opal SSC 2.02)
abbrev pub data_removal_types : List (Column × ColumnType)
data_removal_types =
    (uid_column, types.Object)
    ∷ (active_data_removal_mechanism_column, types.Mechanism)
    ∷ []

-- the columns of a table, by the upper four bytes of its rows' names
abbrev pub table_types : ℕ → List (Column × ColumnType)
table_types table =
    if table == ace_table then ace_types else
    if table == authority_table then authority_types else
    if table == c_pin_table then c_pin_types else
    if table == sp_table then sp_types else
    if table == locking_table then locking_types else
    if table == mbr_control_table then mbr_control_types else
    if table == tper_info_table then tper_info_types else
    if table == data_removal_table then data_removal_types else []

abbrev pub column_type : UidType → Column → Option ColumnType
column_type object column = type_at (table_types (table_of object)) column

abbrev pub is_taken : Option ColumnType → Cell → Bool
is_taken None cell = false
is_taken (Some kind) cell = is_of_type kind cell

-- each of these columns takes its value
abbrev pub takes_each : UidType → List (Column × Cell) → Bool
takes_each object changes = list_all (λ p. is_taken (column_type object p.0) p.1) changes
