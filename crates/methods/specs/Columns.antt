-- The columns that Get lists and that Set takes (Core 2.01, section 5.3; Opal SSC 2.01, sections 4.2 and 4.3).
use Rattle.std.specs.Prelude.{List, [], ◌∷◌, ◌++◌, map, Option, None, Some}
use Rattle.basics.specs.declared.profile.Profile.{Profile}
use Rattle.basics.specs.declared.profile.Profile.TheVariants.{Base, Field, Opal}
use Rattle.sp_cells.specs.declared.names.Column.{Column}
use Rattle.sp_cells.specs.declared.values.ColumnType.{ColumnType}
use Rattle.sp_cells.specs.declared.values.ColumnType.TheVariants as types
use Rattle.sp_cells.specs.ColumnNames.{pin_column, enabled_column, boolean_expr_column, mbr_enable_column, mbr_done_column, mbr_done_on_reset_column, programmatic_reset_enable_column}
use Rattle.sp_cells.specs.ColumnNames.{range_start_column, range_length_column, read_lock_enabled_column, write_lock_enabled_column, read_locked_column, write_locked_column, lock_on_reset_column}
use Rattle.sp_cells.specs.ColumnNames.{uid_column, name_column, common_name_column, active_key_column, version_column, encrypt_support_column, max_ranges_column, max_re_encryptions_column, keys_available_cfg_column, alignment_required_column, logical_block_size_column, alignment_granularity_column, lowest_aligned_lba_column, kind_column, rows_column, mandatory_write_granularity_column, recommended_access_granularity_column, active_data_removal_mechanism_column}
use Rattle.sp_cells.specs.ColumnNames.{life_cycle_state_column, is_class_column, class_column, operation_column, credential_column, sp_id_column, sp_name_column, size_column, size_in_use_column, sp_session_timeout_column, sp_enabled_column, template_id_column, template_name_column, template_version_column, revision_number_column, instances_column, max_instances_column, protected_table_column, column_number_column, protect_mechanisms_column, org_column, effective_auth_column, sp_bytes_column, frozen_column, tper_bytes_column, gudid_column, generation_column, firmware_version_column, protocol_version_column, space_for_issuance_column, ssc_column, mode_column}
use Rattle.sp_cells.specs.ColumnNames.{secure_column, hash_and_sign_column, present_certificate_column, response_sign_column, response_exch_column, limit_column, uses_column, log_column, log_to_column}
use Rattle.sp_cells.specs.Values.{ace_types, c_pin_types, locking_types, mbr_control_types, data_removal_types}
use Rattle.methods.specs.declared.kinds.Kind.{Kind}
use Rattle.methods.specs.declared.kinds.Kind.TheVariants as kinds

-- those of a range: under the profile `Field` it tells its key
abbrev pub range_types : List (Column × ColumnType)
range_types = locking_types ++ (active_key_column, types.Object) ∷ []

-- those of LockingInfo, and of a row of the Table table (Core 2.01, sections 5.7 and 5.3)
abbrev pub locking_info_types : List (Column × ColumnType)
locking_info_types =
    (uid_column, types.Object)
    ∷ (name_column, types.Name)
    ∷ (version_column, types.Number)
    ∷ (encrypt_support_column, types.Number)
    ∷ (max_ranges_column, types.Number)
    ∷ (max_re_encryptions_column, types.Number)
    ∷ (keys_available_cfg_column, types.Number)
    ∷ (alignment_required_column, types.Flag)
    ∷ (logical_block_size_column, types.Number)
    ∷ (alignment_granularity_column, types.Number)
    ∷ (lowest_aligned_lba_column, types.Number)
    ∷ []

abbrev pub table_row_types : List (Column × ColumnType)
table_row_types =
    (uid_column, types.Object)
    ∷ (name_column, types.Name)
    ∷ (common_name_column, types.Name)
    ∷ (kind_column, types.Number)
    ∷ (rows_column, types.Number)
    ∷ (mandatory_write_granularity_column, types.Number)
    ∷ (recommended_access_granularity_column, types.Number)
    ∷ []

-- those of the further rows of an Opal drive, and the further columns of its rows (Core 2.01, sections 5.3, 5.4 and 5.7; Opal SSC
-- 2.01, sections 4.2 and 4.3)
abbrev pub object_table_types : List (Column × ColumnType)
object_table_types =
    (uid_column, types.Object)
    ∷ (name_column, types.Name)
    ∷ (common_name_column, types.Name)
    ∷ (kind_column, types.Number)
    ∷ (mandatory_write_granularity_column, types.Number)
    ∷ (recommended_access_granularity_column, types.Number)
    ∷ []

abbrev pub sp_info_types : List (Column × ColumnType)
sp_info_types =
    (uid_column, types.Object)
    ∷ (sp_id_column, types.Object)
    ∷ (sp_name_column, types.Name)
    ∷ (size_column, types.Number)
    ∷ (size_in_use_column, types.Number)
    ∷ (sp_session_timeout_column, types.Number)
    ∷ (sp_enabled_column, types.Flag)
    ∷ []

abbrev pub sp_template_types : List (Column × ColumnType)
sp_template_types =
    (uid_column, types.Object)
    ∷ (template_id_column, types.Object)
    ∷ (template_name_column, types.Name)
    ∷ (template_version_column, types.Name)
    ∷ []

abbrev pub method_id_types : List (Column × ColumnType)
method_id_types =
    (uid_column, types.Object)
    ∷ (name_column, types.Name)
    ∷ (common_name_column, types.Name)
    ∷ []

abbrev pub template_types : List (Column × ColumnType)
template_types =
    (uid_column, types.Object)
    ∷ (name_column, types.Name)
    ∷ (revision_number_column, types.Number)
    ∷ (instances_column, types.Number)
    ∷ (max_instances_column, types.Number)
    ∷ []

abbrev pub secret_protect_types : List (Column × ColumnType)
secret_protect_types =
    (uid_column, types.Object)
    ∷ (protected_table_column, types.Object)
    ∷ (column_number_column, types.Number)
    ∷ (protect_mechanisms_column, types.Resets)
    ∷ []

abbrev pub key_types : List (Column × ColumnType)
key_types =
    (uid_column, types.Object)
    ∷ (name_column, types.Name)
    ∷ (common_name_column, types.Name)
    ∷ (mode_column, types.Number)
    ∷ []

abbrev pub whole_sp_types : List (Column × ColumnType)
whole_sp_types =
    (uid_column, types.Object)
    ∷ (name_column, types.Name)
    ∷ (org_column, types.Object)
    ∷ (effective_auth_column, types.Name)
    ∷ (sp_bytes_column, types.Number)
    ∷ (life_cycle_state_column, types.Number)
    ∷ (frozen_column, types.Flag)
    ∷ []

abbrev pub whole_tper_info_types : List (Column × ColumnType)
whole_tper_info_types =
    (uid_column, types.Object)
    ∷ (tper_bytes_column, types.Number)
    ∷ (gudid_column, types.Name)
    ∷ (generation_column, types.Number)
    ∷ (firmware_version_column, types.Number)
    ∷ (protocol_version_column, types.Number)
    ∷ (space_for_issuance_column, types.Number)
    ∷ (ssc_column, types.OneName)
    ∷ (programmatic_reset_enable_column, types.Flag)
    ∷ []

abbrev pub whole_authority_types : List (Column × ColumnType)
whole_authority_types =
    (uid_column, types.Object)
    ∷ (name_column, types.Name)
    ∷ (common_name_column, types.Name)
    ∷ (is_class_column, types.Flag)
    ∷ (class_column, types.Object)
    ∷ (enabled_column, types.Flag)
    ∷ (secure_column, types.Number)
    ∷ (hash_and_sign_column, types.Number)
    ∷ (present_certificate_column, types.Flag)
    ∷ (operation_column, types.Number)
    ∷ (credential_column, types.Object)
    ∷ (response_sign_column, types.Object)
    ∷ (response_exch_column, types.Object)
    ∷ (limit_column, types.Number)
    ∷ (uses_column, types.Number)
    ∷ (log_column, types.Number)
    ∷ (log_to_column, types.Object)
    ∷ []

-- the columns of a kind of object, rising, with the types of their values. One that a row of a drive has not is not listed
abbrev pub types_of : Option Kind → List (Column × ColumnType)
types_of None = []
types_of (Some kinds.ThisSp) = []
types_of (Some kinds.Sp) = whole_sp_types
types_of (Some kinds.Authority) = whole_authority_types
types_of (Some kinds.CPin) = c_pin_types
types_of (Some kinds.Ace) = ace_types
types_of (Some kinds.Locking) = range_types
types_of (Some kinds.MbrControl) = mbr_control_types
types_of (Some kinds.TperInfo) = whole_tper_info_types
types_of (Some kinds.LockingInfo) = locking_info_types
types_of (Some kinds.Table) = table_row_types
types_of (Some kinds.MbrTable) = []
types_of (Some kinds.DataStore) = []
types_of (Some kinds.Key) = key_types
types_of (Some kinds.DataRemoval) = data_removal_types
types_of (Some kinds.WholeTable) = []
types_of (Some kinds.AccessControl) = []
types_of (Some kinds.ObjectTable) = object_table_types
types_of (Some kinds.SpInfo) = sp_info_types
types_of (Some kinds.SpTemplates) = sp_template_types
types_of (Some kinds.MethodId) = method_id_types
types_of (Some kinds.SecretProtect) = secret_protect_types
types_of (Some kinds.Template) = template_types

-- without their types
abbrev pub columns_in : List (Column × ColumnType) → List Column
columns_in types = map (λ p. p.0) types

abbrev pub columns_of : Option Kind → List Column
columns_of kind = columns_in (types_of kind)

-- the columns of a range that Set takes: all but its names
abbrev pub range_set_types : List (Column × ColumnType)
range_set_types =
    (range_start_column, types.Number)
    ∷ (range_length_column, types.Number)
    ∷ (read_lock_enabled_column, types.Flag)
    ∷ (write_lock_enabled_column, types.Flag)
    ∷ (read_locked_column, types.Flag)
    ∷ (write_locked_column, types.Flag)
    ∷ (lock_on_reset_column, types.Resets)
    ∷ []

-- those of the control of the shadow MBR
abbrev pub mbr_control_set_types : List (Column × ColumnType)
mbr_control_set_types =
    (mbr_enable_column, types.Flag)
    ∷ (mbr_done_column, types.Flag)
    ∷ (mbr_done_on_reset_column, types.Resets)
    ∷ []

-- under the profile `Opal` a host names a range, too, and each set of resets has the power cycle (Opal SSC 2.01, sections
-- 4.3.1.5, 4.3.5.2.2 and 4.3.5.3.1)
abbrev pub opal_range_set_types : List (Column × ColumnType)
opal_range_set_types =
    (common_name_column, types.CommonName)
    ∷ (range_start_column, types.Number)
    ∷ (range_length_column, types.Number)
    ∷ (read_lock_enabled_column, types.Flag)
    ∷ (write_lock_enabled_column, types.Flag)
    ∷ (read_locked_column, types.Flag)
    ∷ (write_locked_column, types.Flag)
    ∷ (lock_on_reset_column, types.PowerCycleResets)
    ∷ []

abbrev pub opal_mbr_control_set_types : List (Column × ColumnType)
opal_mbr_control_set_types =
    (mbr_enable_column, types.Flag)
    ∷ (mbr_done_column, types.Flag)
    ∷ (mbr_done_on_reset_column, types.PowerCycleResets)
    ∷ []

-- the columns that Set takes, with the types of their values: whether an authority is enabled, a PIN, an ACE's
-- expression, a range, the control of the shadow MBR, whether a command may reset the drive, and how it removes data
abbrev pub field_set_types_of : Option Kind → List (Column × ColumnType)
field_set_types_of (Some kinds.Authority) = (enabled_column, types.Flag) ∷ []
field_set_types_of (Some kinds.CPin) = (pin_column, types.Secret) ∷ []
field_set_types_of (Some kinds.Ace) = (boolean_expr_column, types.Expression) ∷ []
field_set_types_of (Some kinds.Locking) = range_set_types
field_set_types_of (Some kinds.MbrControl) = mbr_control_set_types
field_set_types_of (Some kinds.TperInfo) = (programmatic_reset_enable_column, types.Flag) ∷ []
field_set_types_of (Some kinds.DataRemoval) =
    (active_data_removal_mechanism_column, types.Mechanism) ∷ []
field_set_types_of _ = []

-- those of an Opal drive, on which a host names authorities, too, and an expression can name all Users
abbrev pub opal_set_types_of : Option Kind → List (Column × ColumnType)
opal_set_types_of (Some kinds.Authority) =
    (common_name_column, types.CommonName) ∷ (enabled_column, types.Flag) ∷ []
opal_set_types_of (Some kinds.CPin) = (pin_column, types.Secret) ∷ []
opal_set_types_of (Some kinds.Ace) = (boolean_expr_column, types.LongExpression) ∷ []
opal_set_types_of (Some kinds.Locking) = opal_range_set_types
opal_set_types_of (Some kinds.MbrControl) = opal_mbr_control_set_types
opal_set_types_of (Some kinds.TperInfo) = (programmatic_reset_enable_column, types.Flag) ∷ []
opal_set_types_of (Some kinds.DataRemoval) =
    (active_data_removal_mechanism_column, types.Mechanism) ∷ []
opal_set_types_of _ = []

abbrev pub set_types_of : Profile → Option Kind → List (Column × ColumnType)
set_types_of Base kind = field_set_types_of kind
set_types_of Field kind = field_set_types_of kind
set_types_of Opal kind = opal_set_types_of kind
