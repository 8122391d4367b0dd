-- The names that the standards give to columns, table by table (Core 2.01, sections 5.3, 5.4 and 5.7; Opal SSC 2.01,
-- sections 4.2 and 4.3).
use Rattle.std.specs.Prelude.{◌==◌, ℕ, List, [], ◌∷◌, Option, None, Some, codes, if◌then◌else◌, map}
use Rattle.std.specs.Borrow.{Bor}
use Rattle.std.specs.Str.{bytes_eq}
use Rattle.sp_cells.specs.declared.names.Column.{Column}
use Rattle.sp_cells.specs.Names.{sp_info_table, sp_templates_table, method_id_table, secret_protect_table, template_table, sp_table, tper_info_table, c_pin_table, authority_table, ace_table, locking_table, mbr_control_table, locking_info_table, table_table, key_table, data_removal_table}
use Rattle.sp_cells.specs.ColumnNames.{uid_column, name_column, life_cycle_state_column, programmatic_reset_enable_column, common_name_column, pin_column, char_set_column, try_limit_column, tries_column, persistence_column, is_class_column, class_column, enabled_column, operation_column, credential_column, boolean_expr_column, columns_column, range_start_column, range_length_column, read_lock_enabled_column}
use Rattle.sp_cells.specs.ColumnNames.{sp_id_column, sp_name_column, size_column, size_in_use_column, sp_session_timeout_column, sp_enabled_column, template_id_column, template_name_column, template_version_column, revision_number_column, instances_column, max_instances_column, protected_table_column, column_number_column, protect_mechanisms_column, org_column, effective_auth_column, sp_bytes_column, frozen_column, tper_bytes_column, gudid_column, generation_column, firmware_version_column, protocol_version_column, space_for_issuance_column, ssc_column, secure_column, hash_and_sign_column, present_certificate_column, response_sign_column, response_exch_column, limit_column, uses_column, log_column, log_to_column, mode_column}
use Rattle.sp_cells.specs.ColumnNames.{write_lock_enabled_column, read_locked_column, write_locked_column, lock_on_reset_column, active_key_column, mbr_enable_column, mbr_done_column, mbr_done_on_reset_column, active_data_removal_mechanism_column, version_column, encrypt_support_column, max_ranges_column, max_re_encryptions_column, keys_available_cfg_column, alignment_required_column, logical_block_size_column, alignment_granularity_column, lowest_aligned_lba_column, kind_column, rows_column, mandatory_write_granularity_column, recommended_access_granularity_column}

-- a column, and its name
abbrev pub NamedColumn : Type 0
NamedColumn = Column × List ℕ

unfoldable pub sp_info_names : List NamedColumn
sp_info_names =
    (uid_column, codes "UID")
    ∷ (sp_id_column, codes "SPID")
    ∷ (sp_name_column, codes "Name")
    ∷ (size_column, codes "Size")
    ∷ (size_in_use_column, codes "SizeInUse")
    ∷ (sp_session_timeout_column, codes "SPSessionTimeout")
    ∷ (sp_enabled_column, codes "Enabled")
    ∷ []

unfoldable pub sp_templates_names : List NamedColumn
sp_templates_names =
    (uid_column, codes "UID")
    ∷ (template_id_column, codes "TemplateID")
    ∷ (template_name_column, codes "Name")
    ∷ (template_version_column, codes "Version")
    ∷ []

unfoldable pub method_id_names : List NamedColumn
method_id_names =
    (uid_column, codes "UID")
    ∷ (name_column, codes "Name")
    ∷ (common_name_column, codes "CommonName")
    ∷ []

unfoldable pub template_names : List NamedColumn
template_names =
    (uid_column, codes "UID")
    ∷ (name_column, codes "Name")
    ∷ (revision_number_column, codes "RevisionNumber")
    ∷ (instances_column, codes "Instances")
    ∷ (max_instances_column, codes "MaxInstances")
    ∷ []

unfoldable pub secret_protect_names : List NamedColumn
secret_protect_names =
    (uid_column, codes "UID")
    ∷ (protected_table_column, codes "Table")
    ∷ (column_number_column, codes "ColumnNumber")
    ∷ (protect_mechanisms_column, codes "ProtectMechanisms")
    ∷ []

unfoldable pub sp_names : List NamedColumn
sp_names =
    (uid_column, codes "UID")
    ∷ (name_column, codes "Name")
    ∷ (org_column, codes "ORG")
    ∷ (effective_auth_column, codes "EffectiveAuth")
    ∷ (sp_bytes_column, codes "Bytes")
    ∷ (life_cycle_state_column, codes "LifeCycleState")
    ∷ (frozen_column, codes "Frozen")
    ∷ []

unfoldable pub tper_info_names : List NamedColumn
tper_info_names =
    (uid_column, codes "UID")
    ∷ (tper_bytes_column, codes "Bytes")
    ∷ (gudid_column, codes "GUDID")
    ∷ (generation_column, codes "Generation")
    ∷ (firmware_version_column, codes "FirmwareVersion")
    ∷ (protocol_version_column, codes "ProtocolVersion")
    ∷ (space_for_issuance_column, codes "SpaceForIssuance")
    ∷ (ssc_column, codes "SSC")
    ∷ (programmatic_reset_enable_column, codes "ProgrammaticResetEnable")
    ∷ []

unfoldable pub c_pin_names : List NamedColumn
c_pin_names =
    (uid_column, codes "UID")
    ∷ (name_column, codes "Name")
    ∷ (common_name_column, codes "CommonName")
    ∷ (pin_column, codes "PIN")
    ∷ (char_set_column, codes "CharSet")
    ∷ (try_limit_column, codes "TryLimit")
    ∷ (tries_column, codes "Tries")
    ∷ (persistence_column, codes "Persistence")
    ∷ []

unfoldable pub authority_names : List NamedColumn
authority_names =
    (uid_column, codes "UID")
    ∷ (name_column, codes "Name")
    ∷ (common_name_column, codes "CommonName")
    ∷ (is_class_column, codes "IsClass")
    ∷ (class_column, codes "Class")
    ∷ (enabled_column, codes "Enabled")
    ∷ (secure_column, codes "Secure")
    ∷ (hash_and_sign_column, codes "HashAndSign")
    ∷ (present_certificate_column, codes "PresentCertificate")
    ∷ (operation_column, codes "Operation")
    ∷ (credential_column, codes "Credential")
    ∷ (response_sign_column, codes "ResponseSign")
    ∷ (response_exch_column, codes "ResponseExch")
    ∷ (limit_column, codes "Limit")
    ∷ (uses_column, codes "Uses")
    ∷ (log_column, codes "Log")
    ∷ (log_to_column, codes "LogTo")
    ∷ []

unfoldable pub ace_names : List NamedColumn
ace_names =
    (uid_column, codes "UID")
    ∷ (name_column, codes "Name")
    ∷ (common_name_column, codes "CommonName")
    ∷ (boolean_expr_column, codes "BooleanExpr")
    ∷ (columns_column, codes "Columns")
    ∷ []

unfoldable pub locking_names : List NamedColumn
locking_names =
    (uid_column, codes "UID")
    ∷ (name_column, codes "Name")
    ∷ (common_name_column, codes "CommonName")
    ∷ (range_start_column, codes "RangeStart")
    ∷ (range_length_column, codes "RangeLength")
    ∷ (read_lock_enabled_column, codes "ReadLockEnabled")
    ∷ (write_lock_enabled_column, codes "WriteLockEnabled")
    ∷ (read_locked_column, codes "ReadLocked")
    ∷ (write_locked_column, codes "WriteLocked")
    ∷ (lock_on_reset_column, codes "LockOnReset")
    ∷ (active_key_column, codes "ActiveKey")
    ∷ []

unfoldable pub mbr_control_names : List NamedColumn
mbr_control_names =
    (uid_column, codes "UID")
    ∷ (mbr_enable_column, codes "Enable")
    ∷ (mbr_done_column, codes "Done")
    ∷ (mbr_done_on_reset_column, codes "DoneOnReset")
    ∷ []

unfoldable pub locking_info_names : List NamedColumn
locking_info_names =
    (uid_column, codes "UID")
    ∷ (name_column, codes "Name")
    ∷ (version_column, codes "Version")
    ∷ (encrypt_support_column, codes "EncryptSupport")
    ∷ (max_ranges_column, codes "MaxRanges")
    ∷ (max_re_encryptions_column, codes "MaxReEncryptions")
    ∷ (keys_available_cfg_column, codes "KeysAvailableCfg")
    ∷ (alignment_required_column, codes "AlignmentRequired")
    ∷ (logical_block_size_column, codes "LogicalBlockSize")
    ∷ (alignment_granularity_column, codes "AlignmentGranularity")
    ∷ (lowest_aligned_lba_column, codes "LowestAlignedLBA")
    ∷ []

unfoldable pub table_names : List NamedColumn
table_names =
    (uid_column, codes "UID")
    ∷ (name_column, codes "Name")
    ∷ (common_name_column, codes "CommonName")
    ∷ (kind_column, codes "Kind")
    ∷ (rows_column, codes "Rows")
    ∷ (mandatory_write_granularity_column, codes "MandatoryWriteGranularity")
    ∷ (recommended_access_granularity_column, codes "RecommendedAccessGranularity")
    ∷ []

unfoldable pub key_names : List NamedColumn
key_names =
    (uid_column, codes "UID")
    ∷ (name_column, codes "Name")
    ∷ (common_name_column, codes "CommonName")
    ∷ (mode_column, codes "Mode")
    ∷ []

unfoldable pub data_removal_names : List NamedColumn
data_removal_names =
    (uid_column, codes "UID")
    ∷ (active_data_removal_mechanism_column, codes "ActiveDataRemovalMechanism")
    ∷ []

-- those of a table, by the upper four bytes of its rows' names
abbrev pub names_of_table : ℕ → List NamedColumn
names_of_table table =
    if table == sp_table then sp_names else
    if table == tper_info_table then tper_info_names else
    if table == c_pin_table then c_pin_names else
    if table == authority_table then authority_names else
    if table == ace_table then ace_names else
    if table == locking_table then locking_names else
    if table == mbr_control_table then mbr_control_names else
    if table == locking_info_table then locking_info_names else
    if table == table_table then table_names else
    if table == key_table then key_names else
    if table == data_removal_table then data_removal_names else
    if table == sp_info_table then sp_info_names else
    if table == sp_templates_table then sp_templates_names else
    if table == method_id_table then method_id_names else
    if table == template_table then template_names else
    if table == secret_protect_table then secret_protect_names else
    []

abbrev pub column_name_in : List NamedColumn → Column → Option (List ℕ)
column_name_in [] column = None
column_name_in (e ∷ es) column =
    if e.0.0 == column.0 then Some e.1 else column_name_in es column

abbrev pub column_in : List NamedColumn → List ℕ → Option Column
column_in [] name = None
column_in (e ∷ es) name = if bytes_eq e.1 name then Some e.0 else column_in es name

-- the name of a column of a table, and the column that has a name there
abbrev pub column_name : ℕ → Column → Option (List ℕ)
column_name table column = column_name_in (names_of_table table) column

abbrev pub column_by_name : ℕ → List ℕ → Option Column
column_by_name table name = column_in (names_of_table table) name

-- a table of the code
abbrev pub column_pairs : List (Column × Bor (List ℕ)) → List NamedColumn
column_pairs table = map (λ e. (e.0, e.1.now)) table
