-- The columns of each kind of row.
use Rattle.std.specs.Prelude.{List, [], ◌∷◌}
use Rattle.sp_cells.specs.declared.names.Column.{Column}
use Rattle.sp_cells.specs.declared.cells.Cell.{Cell}
use Rattle.sp_tables.specs.declared.sp_rows.rows.SpRow.{SpRow}
use Rattle.sp_tables.specs.declared.sp_rows.rows.AuthorityRow.{AuthorityRow}
use Rattle.sp_tables.specs.declared.sp_rows.rows.CPinRow.{CPinRow}
use Rattle.sp_tables.specs.declared.sp_rows.rows.LockingRow.{LockingRow}
use Rattle.sp_tables.specs.declared.sp_rows.rows.MbrControlRow.{MbrControlRow}
use Rattle.sp_tables.specs.declared.sp_rows.rows.TperInfoRow.{TperInfoRow}
use Rattle.sp_tables.specs.declared.sp_rows.rows.AceRow.{AceRow}
use Rattle.sp_tables.specs.declared.sp_rows.rows.RangeKeyRow.{RangeKeyRow}
use Rattle.sp_tables.specs.declared.sp_rows.rows.LockingInfoRow.{LockingInfoRow}
use Rattle.sp_tables.specs.declared.sp_rows.rows.TableRow.{TableRow}
use Rattle.sp_tables.specs.declared.sp_rows.rows.DataRemovalRow.{DataRemovalRow}
use Rattle.sp_tables.specs.declared.sp_rows.constants.ConstantRow.{ConstantRow}
use Rattle.sp_cells.specs.ColumnNames.{uid_column, name_column, common_name_column, life_cycle_state_column, programmatic_reset_enable_column, pin_column, char_set_column, try_limit_column, tries_column, persistence_column}
use Rattle.sp_cells.specs.ColumnNames.{is_class_column, class_column, enabled_column, operation_column, credential_column, boolean_expr_column, columns_column}
use Rattle.sp_cells.specs.ColumnNames.{range_start_column, range_length_column, read_lock_enabled_column, write_lock_enabled_column, read_locked_column, write_locked_column, lock_on_reset_column, mbr_enable_column, mbr_done_column, mbr_done_on_reset_column}
use Rattle.sp_cells.specs.ColumnNames.{active_key_column, version_column, encrypt_support_column, max_ranges_column, max_re_encryptions_column, keys_available_cfg_column, alignment_required_column, logical_block_size_column, alignment_granularity_column, lowest_aligned_lba_column, kind_column, rows_column, mandatory_write_granularity_column, recommended_access_granularity_column, active_data_removal_mechanism_column}

-- SP (Core 2.01, section 5.4, table SP)
abbrev pub sp_columns : SpRow → List (Column × Cell)
sp_columns r =
    (uid_column, r.uid)
    ∷ (name_column, r.name)
    ∷ (life_cycle_state_column, r.life_cycle_state)
    ∷ []

-- Authority (Core 2.01, section 5.3, table Authority)
abbrev pub authority_columns : AuthorityRow → List (Column × Cell)
authority_columns r =
    (uid_column, r.uid)
    ∷ (name_column, r.name)
    ∷ (common_name_column, r.common_name)
    ∷ (is_class_column, r.is_class)
    ∷ (class_column, r.class)
    ∷ (enabled_column, r.enabled)
    ∷ (operation_column, r.operation)
    ∷ (credential_column, r.credential)
    ∷ []

-- C_PIN (Core 2.01, section 5.3, table C_PIN)
abbrev pub c_pin_columns : CPinRow → List (Column × Cell)
c_pin_columns r =
    (uid_column, r.uid)
    ∷ (name_column, r.name)
    ∷ (common_name_column, r.common_name)
    ∷ (pin_column, r.pin)
    ∷ (char_set_column, r.char_set)
    ∷ (try_limit_column, r.try_limit)
    ∷ (tries_column, r.tries)
    ∷ (persistence_column, r.persistence)
    ∷ []

-- Locking (Core 2.01, section 5.7, table Locking)
abbrev pub locking_columns : LockingRow → List (Column × Cell)
locking_columns r =
    (uid_column, r.uid)
    ∷ (name_column, r.name)
    ∷ (common_name_column, r.common_name)
    ∷ (range_start_column, r.start)
    ∷ (range_length_column, r.len)
    ∷ (read_lock_enabled_column, r.read_lock_enabled)
    ∷ (write_lock_enabled_column, r.write_lock_enabled)
    ∷ (read_locked_column, r.read_locked)
    ∷ (write_locked_column, r.write_locked)
    ∷ (lock_on_reset_column, r.lock_on_reset)
    ∷ []

-- MBRControl (Core 2.01, section 5.7, table MBRControl)
abbrev pub mbr_control_columns : MbrControlRow → List (Column × Cell)
mbr_control_columns r =
    (uid_column, r.uid)
    ∷ (mbr_enable_column, r.enable)
    ∷ (mbr_done_column, r.done)
    ∷ (mbr_done_on_reset_column, r.done_on_reset)
    ∷ []

-- TPerInfo (Core 2.01, section 5.4, table TPerInfo; Opal SSC 2.01, section 4.2, ProgrammaticResetEnable)
abbrev pub tper_info_columns : TperInfoRow → List (Column × Cell)
tper_info_columns r =
    (uid_column, r.uid)
    ∷ (programmatic_reset_enable_column, r.programmatic_reset_enable)
    ∷ []

-- ACE (Core 2.01, section 5.3, table ACE)
abbrev pub ace_columns : AceRow → List (Column × Cell)
ace_columns r =
    (uid_column, r.uid)
    ∷ (name_column, r.name)
    ∷ (common_name_column, r.common_name)
    ∷ (boolean_expr_column, r.boolean_expr)
    ∷ (columns_column, r.columns)
    ∷ []

-- the key of a range, in the Locking table (Core 2.01, section 5.7)
abbrev pub range_key_columns : RangeKeyRow → List (Column × Cell)
range_key_columns r = (active_key_column, r.active_key) ∷ []

-- LockingInfo (Core 2.01, section 5.7; Opal SSC 2.01, section 4.3)
abbrev pub locking_info_columns : LockingInfoRow → List (Column × Cell)
locking_info_columns r =
    (uid_column, r.uid)
    ∷ (name_column, r.name)
    ∷ (version_column, r.version)
    ∷ (encrypt_support_column, r.encrypt_support)
    ∷ (max_ranges_column, r.max_ranges)
    ∷ (max_re_encryptions_column, r.max_re_encryptions)
    ∷ (keys_available_cfg_column, r.keys_available_cfg)
    ∷ (alignment_required_column, r.alignment_required)
    ∷ (logical_block_size_column, r.logical_block_size)
    ∷ (alignment_granularity_column, r.alignment_granularity)
    ∷ (lowest_aligned_lba_column, r.lowest_aligned_lba)
    ∷ []

-- Table (Core 2.01, section 5.3, table Table)
abbrev pub table_columns : TableRow → List (Column × Cell)
table_columns r =
    (uid_column, r.uid)
    ∷ (name_column, r.name)
    ∷ (common_name_column, r.common_name)
    ∷ (kind_column, r.kind)
    ∷ (rows_column, r.rows)
    ∷ (mandatory_write_granularity_column, r.mandatory_write_granularity)
    ∷ (recommended_access_granularity_column, r.recommended_access_granularity)
    ∷ []

-- DataRemovalMechanism (Opal SSC 2.02)
abbrev pub data_removal_columns : DataRemovalRow → List (Column × Cell)
data_removal_columns r =
    (uid_column, r.uid)
    ∷ (active_data_removal_mechanism_column, r.active)
    ∷ []

-- a row whose cells no host sets, or further columns of a row
abbrev pub constant_columns : ConstantRow → List (Column × Cell)
constant_columns r = r.cells.items
