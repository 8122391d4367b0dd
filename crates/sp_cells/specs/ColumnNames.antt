-- The names of columns: no other file of the definitions has their numbers.
use Rattle.sp_cells.specs.declared.names.Column.{Column}
use Rattle.sp_cells.specs.Names.{col}

-- In every table the object's own name and, but for MBRControl, the name of the row; in most the name that a host gives.
abbrev pub uid_column : Column
uid_column = col 0

abbrev pub name_column : Column
name_column = col 1

abbrev pub common_name_column : Column
common_name_column = col 2

-- SPInfo (Core 2.01, section 5.3)
abbrev pub sp_id_column : Column
sp_id_column = col 1

abbrev pub sp_name_column : Column
sp_name_column = col 2

abbrev pub size_column : Column
size_column = col 3

abbrev pub size_in_use_column : Column
size_in_use_column = col 4

abbrev pub sp_session_timeout_column : Column
sp_session_timeout_column = col 5

abbrev pub sp_enabled_column : Column
sp_enabled_column = col 6

-- SPTemplates (Core 2.01, section 5.3)
abbrev pub template_id_column : Column
template_id_column = col 1

abbrev pub template_name_column : Column
template_name_column = col 2

abbrev pub template_version_column : Column
template_version_column = col 3

-- Template (Core 2.01, section 5.4)
abbrev pub revision_number_column : Column
revision_number_column = col 2

abbrev pub instances_column : Column
instances_column = col 3

abbrev pub max_instances_column : Column
max_instances_column = col 4

-- SecretProtect (Core 2.01, section 5.3; Opal SSC 2.01, section 4.3)
abbrev pub protected_table_column : Column
protected_table_column = col 1

abbrev pub column_number_column : Column
column_number_column = col 2

abbrev pub protect_mechanisms_column : Column
protect_mechanisms_column = col 3

-- SP (Core 2.01, section 5.4)
abbrev pub org_column : Column
org_column = col 2

abbrev pub effective_auth_column : Column
effective_auth_column = col 3

abbrev pub sp_bytes_column : Column
sp_bytes_column = col 5

abbrev pub frozen_column : Column
frozen_column = col 7

abbrev pub life_cycle_state_column : Column
life_cycle_state_column = col 6

-- TPerInfo (Core 2.01, section 5.4; Opal SSC 2.01, section 4.2)
abbrev pub tper_bytes_column : Column
tper_bytes_column = col 1

abbrev pub gudid_column : Column
gudid_column = col 2

abbrev pub generation_column : Column
generation_column = col 3

abbrev pub firmware_version_column : Column
firmware_version_column = col 4

abbrev pub protocol_version_column : Column
protocol_version_column = col 5

abbrev pub space_for_issuance_column : Column
space_for_issuance_column = col 6

abbrev pub ssc_column : Column
ssc_column = col 7

abbrev pub programmatic_reset_enable_column : Column
programmatic_reset_enable_column = col 8

-- C_PIN (Core 2.01, section 5.3)
abbrev pub pin_column : Column
pin_column = col 3

abbrev pub char_set_column : Column
char_set_column = col 4

abbrev pub try_limit_column : Column
try_limit_column = col 5

abbrev pub tries_column : Column
tries_column = col 6

abbrev pub persistence_column : Column
persistence_column = col 7

-- Authority (Core 2.01, section 5.3)
abbrev pub is_class_column : Column
is_class_column = col 3

abbrev pub class_column : Column
class_column = col 4

abbrev pub enabled_column : Column
enabled_column = col 5

abbrev pub secure_column : Column
secure_column = col 6

abbrev pub hash_and_sign_column : Column
hash_and_sign_column = col 7

abbrev pub present_certificate_column : Column
present_certificate_column = col 8

abbrev pub response_sign_column : Column
response_sign_column = col 11

abbrev pub response_exch_column : Column
response_exch_column = col 12

abbrev pub limit_column : Column
limit_column = col 15

abbrev pub uses_column : Column
uses_column = col 16

abbrev pub log_column : Column
log_column = col 17

abbrev pub log_to_column : Column
log_to_column = col 18

abbrev pub operation_column : Column
operation_column = col 9

abbrev pub credential_column : Column
credential_column = col 10

-- ACE (Core 2.01, section 5.3)
abbrev pub boolean_expr_column : Column
boolean_expr_column = col 3

abbrev pub columns_column : Column
columns_column = col 4

-- Locking (Core 2.01, section 5.7)
abbrev pub range_start_column : Column
range_start_column = col 3

abbrev pub range_length_column : Column
range_length_column = col 4

abbrev pub read_lock_enabled_column : Column
read_lock_enabled_column = col 5

abbrev pub write_lock_enabled_column : Column
write_lock_enabled_column = col 6

abbrev pub read_locked_column : Column
read_locked_column = col 7

abbrev pub write_locked_column : Column
write_locked_column = col 8

abbrev pub lock_on_reset_column : Column
lock_on_reset_column = col 9

abbrev pub active_key_column : Column
active_key_column = col 10

-- K_AES_256 (Core 2.01, section 5.7)
abbrev pub mode_column : Column
mode_column = col 4

-- LockingInfo (Core 2.01, section 5.7; Opal SSC 2.01, section 4.3)
abbrev pub version_column : Column
version_column = col 2

abbrev pub encrypt_support_column : Column
encrypt_support_column = col 3

abbrev pub max_ranges_column : Column
max_ranges_column = col 4

abbrev pub max_re_encryptions_column : Column
max_re_encryptions_column = col 5

abbrev pub keys_available_cfg_column : Column
keys_available_cfg_column = col 6

abbrev pub alignment_required_column : Column
alignment_required_column = col 7

abbrev pub logical_block_size_column : Column
logical_block_size_column = col 8

abbrev pub alignment_granularity_column : Column
alignment_granularity_column = col 9

abbrev pub lowest_aligned_lba_column : Column
lowest_aligned_lba_column = col 10

-- Table (Core 2.01, section 5.3)
abbrev pub kind_column : Column
kind_column = col 4

abbrev pub rows_column : Column
rows_column = col 7

abbrev pub mandatory_write_granularity_column : Column
mandatory_write_granularity_column = col 13

abbrev pub recommended_access_granularity_column : Column
recommended_access_granularity_column = col 14

-- DataRemovalMechanism (Opal SSC 2.02)
abbrev pub active_data_removal_mechanism_column : Column
active_data_removal_mechanism_column = col 1

-- MBRControl (Core 2.01, section 5.7)
abbrev pub mbr_enable_column : Column
mbr_enable_column = col 1

abbrev pub mbr_done_column : Column
mbr_done_column = col 2

abbrev pub mbr_done_on_reset_column : Column
mbr_done_on_reset_column = col 3
