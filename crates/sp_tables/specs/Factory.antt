-- The cells of a new drive (Opal SSC 2.01, sections 4.2 and 4.3).
use Rattle.std.specs.Prelude.{◌≡◌, ◌+◌, ◌==◌, ℕ, Bool, true, false, List, [], ◌∷◌, ◌++◌, replicate, zero, suc, codes, if◌then◌else◌}
use Rattle.std.specs.Fmt.{decimal}
use Rattle.std.specs.List.{flat_map}
use Rattle.basics.specs.declared.profile.Profile.{Profile}
use Rattle.basics.specs.declared.profile.Profile.TheVariants.{Base, Field, Opal}
use Rattle.basics.specs.Profiles.{has_field}
use Rattle.sp_cells.specs.declared.names.TheConstants.{RANGES, USERS, ADMINS}
use Rattle.sp_cells.specs.declared.names.Uid.{Uid}
use Rattle.sp_cells.specs.declared.names.Column.{Column}
use Rattle.sp_cells.specs.declared.cells.Cell.{Cell}
use Rattle.sp_cells.specs.declared.cells.Cell.TheVariants.{Number, Bytes, Uid as Object, Numbers, Expr, Columns, OneName}
use Rattle.sp_cells.specs.declared.cells.Element.{Element}
use Rattle.sp_cells.specs.declared.cells.Element.TheVariants.{Authority, Or}
use Rattle.sp_cells.specs.Limits.{new_try_limit, no_try_limit, cryptographic_erase, manufactured, manufactured_inactive}
use Rattle.sp_cells.specs.Names.{uid, none, admin_sp, locking_sp, anybody, sid, admins_class, admin_base, admin_uid, users_class, user_base, user_uid, c_pin_sid, c_pin_msid, admin_pin_base, admin_pin_uid, user_pin_base, user_pin_uid, global_range, range_base, range_uid, mbr_control, tper_info, psid as psid_authority, c_pin_psid, locking_info, key_uid, mbr_table_row, datastore_table_row, data_removal}
use Rattle.sp_cells.specs.Names.{table_row, sp_info, sp_template_base, sp_template_own, template_base, template_admin, template_locking, secret_protect_key, makers_class, admin_sp_admin, c_pin_admin_sp_admin, global_key, key_base, next, get_acl, get, set, authenticate, revert, activate, gen_key, revert_sp, random}
use Rattle.sp_cells.specs.Names.{table_table, sp_info_table, sp_templates_table, method_id_table, access_control_table, ace_table, authority_table, c_pin_table, secret_protect_table, tper_info_table, template_table, sp_table, data_removal_table, locking_info_table, locking_table, mbr_control_table, key_table}
use Rattle.sp_cells.specs.Names.{ace_anybody, ace_admins, ace_anybody_get_common_name, ace_c_pin_sid_get_nopin, ace_c_pin_sid_set_pin, ace_c_pin_msid_get_pin, ace_c_pin_get_psid_nopin, ace_sp_psid, ace_sp_sid, ace_tper_info_set_programmatic_reset_enable, ace_ace_set_boolean_expression, ace_authority_set_enabled, ace_c_pin_admins_get_all_nopin, ace_c_pin_admins_set_pin, user_ace_base, ace_c_pin_user_set_pin, ace_locking_get_all, range_get_ace_base, ace_range_get, gen_key_ace_base, ace_key_gen_key, read_locked_ace_base, ace_range_set_read_locked, write_locked_ace_base, ace_range_set_write_locked, ace_locking_global_range_admins_set, ace_locking_admins_set, ace_mbr_control_admins_set, ace_mbr_control_set_done_to_dor, ace_datastore_get_all, ace_datastore_set_all, ace_data_removal_set_active}
use Rattle.sp_cells.specs.Names.{ace_set_enabled, ace_admins_set_common_name, user_common_name_ace_base, ace_user_set_common_name, ace_ace_get_all, ace_authority_get_all, ace_key_mode}
use Rattle.sp_cells.specs.ColumnNames.{uid_column, name_column, common_name_column, life_cycle_state_column, programmatic_reset_enable_column, pin_column, char_set_column, try_limit_column, tries_column, persistence_column}
use Rattle.sp_cells.specs.ColumnNames.{is_class_column, class_column, enabled_column, operation_column, credential_column, boolean_expr_column, columns_column}
use Rattle.sp_cells.specs.ColumnNames.{range_start_column, range_length_column, read_lock_enabled_column, write_lock_enabled_column, read_locked_column, write_locked_column, lock_on_reset_column, mbr_enable_column, mbr_done_column, mbr_done_on_reset_column}
use Rattle.sp_cells.specs.ColumnNames.{active_key_column, version_column, encrypt_support_column, max_ranges_column, max_re_encryptions_column, keys_available_cfg_column, alignment_required_column, logical_block_size_column, alignment_granularity_column, lowest_aligned_lba_column, kind_column, rows_column, mandatory_write_granularity_column, recommended_access_granularity_column, active_data_removal_mechanism_column}
use Rattle.sp_cells.specs.ColumnNames.{sp_id_column, sp_name_column, size_column, size_in_use_column, sp_session_timeout_column, sp_enabled_column, template_id_column, template_name_column, template_version_column, revision_number_column, instances_column, max_instances_column, protected_table_column, column_number_column, protect_mechanisms_column, org_column, effective_auth_column, sp_bytes_column, frozen_column, mode_column}
use Rattle.sp_cells.specs.ColumnNames.{tper_bytes_column, gudid_column, generation_column, firmware_version_column, protocol_version_column, space_for_issuance_column, ssc_column}
use Rattle.sp_cells.specs.ColumnNames.{secure_column, hash_and_sign_column, present_certificate_column, response_sign_column, response_exch_column, limit_column, uses_column, log_column, log_to_column}
use Rattle.shadow_mbr.specs.Stored.{sector_size}
use Rattle.sp_cells.specs.declared.byte_tables.TableSizes.{TableSizes}
use Rattle.sp_cells.specs.declared.byte_tables.ByteTable.TheVariants.{ShadowMbr, DataStore}
use Rattle.sp_cells.specs.ByteTables.{bytes_of_table}
use Rattle.sp_tables.specs.declared.sp_rows.runs.Run.{Run}
use Rattle.sp_tables.specs.Items.{Item, row_items, rows_from}
use Rattle.sp_tables.specs.Runs.{run_items}

-- the columns of a new row of each table

abbrev pub new_sp : Uid → List ℕ → ℕ → List (Column × Cell)
new_sp object name state =
    (uid_column, Object object)
    ∷ (name_column, Bytes name)
    ∷ (life_cycle_state_column, Number state)
    ∷ []

abbrev pub new_authority : Uid → List ℕ → ℕ → Uid → ℕ → ℕ → Uid → List (Column × Cell)
new_authority object name is_class class enabled operation credential =
    (uid_column, Object object)
    ∷ (name_column, Bytes name)
    ∷ (common_name_column, Bytes [])
    ∷ (is_class_column, Number is_class)
    ∷ (class_column, Object class)
    ∷ (enabled_column, Number enabled)
    ∷ (operation_column, Number operation)
    ∷ (credential_column, Object credential)
    ∷ []

-- Anybody and the classes have no PIN
abbrev pub new_group : Uid → List ℕ → ℕ → List (Column × Cell)
new_group object name is_class = new_authority object name is_class none 1 0 none

-- who has one signs in with it
abbrev pub new_member : Uid → List ℕ → Uid → ℕ → Uid → List (Column × Cell)
new_member object name class enabled credential =
    new_authority object name 0 class enabled 1 credential

abbrev pub new_pin : Uid → List ℕ → List ℕ → ℕ → List (Column × Cell)
new_pin object name secret limit =
    (uid_column, Object object)
    ∷ (name_column, Bytes name)
    ∷ (common_name_column, Bytes [])
    ∷ (pin_column, Bytes secret)
    ∷ (char_set_column, Object none)
    ∷ (try_limit_column, Number limit)
    ∷ (tries_column, Number 0)
    ∷ (persistence_column, Number 0)
    ∷ []

-- the set that has the power cycle alone
abbrev pub power_cycle_alone : Cell
power_cycle_alone = Numbers (record { power_cycle = true; hardware = false; programmatic = false })

abbrev pub new_range : Uid → List ℕ → List (Column × Cell)
new_range object name =
    (uid_column, Object object)
    ∷ (name_column, Bytes name)
    ∷ (common_name_column, Bytes [])
    ∷ (range_start_column, Number 0)
    ∷ (range_length_column, Number 0)
    ∷ (read_lock_enabled_column, Number 0)
    ∷ (write_lock_enabled_column, Number 0)
    ∷ (read_locked_column, Number 0)
    ∷ (write_locked_column, Number 0)
    ∷ (lock_on_reset_column, power_cycle_alone)
    ∷ []

abbrev pub new_mbr_control : Uid → List (Column × Cell)
new_mbr_control object =
    (uid_column, Object object)
    ∷ (mbr_enable_column, Number 0)
    ∷ (mbr_done_column, Number 0)
    ∷ (mbr_done_on_reset_column, power_cycle_alone)
    ∷ []

abbrev pub new_tper_info : Uid → List (Column × Cell)
new_tper_info object =
    (uid_column, Object object)
    ∷ (programmatic_reset_enable_column, Number 0)
    ∷ []

abbrev pub new_ace : Uid → List ℕ → List Element → List Column → List (Column × Cell)
new_ace object name expr columns =
    (uid_column, Object object)
    ∷ (name_column, Bytes name)
    ∷ (common_name_column, Bytes [])
    ∷ (boolean_expr_column, Expr expr)
    ∷ (columns_column, Columns columns)
    ∷ []

abbrev pub new_range_key : Uid → List (Column × Cell)
new_range_key key = (active_key_column, Object key) ∷ []

-- the drive encrypts, has so many ranges, and they need not be aligned
abbrev pub new_locking_info : Uid → List ℕ → List (Column × Cell)
new_locking_info object name =
    (uid_column, Object object)
    ∷ (name_column, Bytes name)
    ∷ (version_column, Number 1)
    ∷ (encrypt_support_column, Number 1)
    ∷ (max_ranges_column, Number RANGES)
    ∷ (max_re_encryptions_column, Number 0)
    ∷ (keys_available_cfg_column, Number 0)
    ∷ (alignment_required_column, Number 0)
    ∷ (logical_block_size_column, Number sector_size)
    ∷ (alignment_granularity_column, Number 1)
    ∷ (lowest_aligned_lba_column, Number 0)
    ∷ []

-- a table of so many bytes, any of which can be written alone
abbrev pub new_byte_table : Uid → List ℕ → ℕ → List (Column × Cell)
new_byte_table object name size =
    (uid_column, Object object)
    ∷ (name_column, Bytes name)
    ∷ (common_name_column, Bytes [])
    ∷ (kind_column, Number 2)
    ∷ (rows_column, Number size)
    ∷ (mandatory_write_granularity_column, Number 1)
    ∷ (recommended_access_granularity_column, Number 1)
    ∷ []

-- data are removed in the one way that the drive has
abbrev pub new_data_removal : Uid → List (Column × Cell)
new_data_removal object =
    (uid_column, Object object)
    ∷ (active_data_removal_mechanism_column, Number cryptographic_erase)
    ∷ []

-- a table of objects, in which no byte is written alone
abbrev pub new_object_table : Uid → List ℕ → List (Column × Cell)
new_object_table object name =
    (uid_column, Object object)
    ∷ (name_column, Bytes name)
    ∷ (common_name_column, Bytes [])
    ∷ (kind_column, Number 1)
    ∷ (mandatory_write_granularity_column, Number 0)
    ∷ (recommended_access_granularity_column, Number 0)
    ∷ []

abbrev pub new_method : Uid → List ℕ → List (Column × Cell)
new_method object name =
    (uid_column, Object object)
    ∷ (name_column, Bytes name)
    ∷ (common_name_column, Bytes [])
    ∷ []

-- an SP tells of itself: its sizes are not told, and it is enabled
abbrev pub new_sp_info : Uid → Uid → List ℕ → List (Column × Cell)
new_sp_info object sp name =
    (uid_column, Object object)
    ∷ (sp_id_column, Object sp)
    ∷ (sp_name_column, Bytes name)
    ∷ (size_column, Number 0)
    ∷ (size_in_use_column, Number 0)
    ∷ (sp_session_timeout_column, Number 0)
    ∷ (sp_enabled_column, Number 1)
    ∷ []

-- the template that an SP was made by, in its version 2
abbrev pub new_sp_template : Uid → Uid → List ℕ → List (Column × Cell)
new_sp_template object template name =
    (uid_column, Object object)
    ∷ (template_id_column, Object template)
    ∷ (template_name_column, Bytes name)
    ∷ (template_version_column, Bytes (0 ∷ 0 ∷ 0 ∷ 2 ∷ []))
    ∷ []

-- a template of which so many SPs are made, and no more can be
abbrev pub new_template : Uid → List ℕ → ℕ → List (Column × Cell)
new_template object name instances =
    (uid_column, Object object)
    ∷ (name_column, Bytes name)
    ∷ (revision_number_column, Number 1)
    ∷ (instances_column, Number instances)
    ∷ (max_instances_column, Number instances)
    ∷ []

-- the set that has the hardware reset alone
abbrev pub hardware_alone : Cell
hardware_alone = Numbers (record { power_cycle = false; hardware = true; programmatic = false })

-- this column of a table is kept secret, by the drive's hardware
abbrev pub new_secret_protect : Uid → Uid → ℕ → List (Column × Cell)
new_secret_protect object table column =
    (uid_column, Object object)
    ∷ (protected_table_column, Object table)
    ∷ (column_number_column, Number column)
    ∷ (protect_mechanisms_column, hardware_alone)
    ∷ []

-- the key of a range, but for the key itself: its mode is XTS
abbrev pub new_key : Uid → List ℕ → List (Column × Cell)
new_key object name =
    (uid_column, Object object)
    ∷ (name_column, Bytes name)
    ∷ (common_name_column, Bytes [])
    ∷ (mode_column, Number 7)
    ∷ []

-- the further columns of a row of SP, of TPerInfo and of Authority
abbrev pub further_sp : List (Column × Cell)
further_sp =
    (org_column, Object none)
    ∷ (effective_auth_column, Bytes [])
    ∷ (sp_bytes_column, Number 0)
    ∷ (frozen_column, Number 0)
    ∷ []

abbrev pub further_tper_info : List (Column × Cell)
further_tper_info =
    (tper_bytes_column, Number 0)
    ∷ (gudid_column, Bytes (replicate 12 0))
    ∷ (generation_column, Number 0)
    ∷ (firmware_version_column, Number 0)
    ∷ (protocol_version_column, Number 1)
    ∷ (space_for_issuance_column, Number 0)
    ∷ (ssc_column, OneName (codes "Opal"))
    ∷ []

abbrev pub further_authority : List (Column × Cell)
further_authority =
    (secure_column, Number 0)
    ∷ (hash_and_sign_column, Number 0)
    ∷ (present_certificate_column, Number 0)
    ∷ (response_sign_column, Object none)
    ∷ (response_exch_column, Object none)
    ∷ (limit_column, Number 0)
    ∷ (uses_column, Number 0)
    ∷ (log_column, Number 0)
    ∷ (log_to_column, Object none)
    ∷ []

-- an ACE that one authority, or one class, fulfils
abbrev pub ace_row : Uid → List ℕ → Uid → List Column → List Item
ace_row ace name authority columns =
    row_items ace (new_ace ace name (Authority authority ∷ []) columns)

-- an ACE that an Admin fulfils, or this authority
abbrev pub admins_or_row : Uid → List ℕ → Uid → List Column → List Item
admins_or_row ace name authority columns = row_items ace
    (new_ace ace name (Authority admins_class ∷ Authority authority ∷ Or ∷ []) columns)

-- the columns of a C_PIN row but for its names and the PIN
abbrev pub but_pin : List Column
but_pin = uid_column ∷ char_set_column ∷ try_limit_column ∷ tries_column ∷ persistence_column ∷ []

-- the columns that place a range, and those that lock it
abbrev pub bounds : List Column
bounds = range_start_column ∷ range_length_column ∷ []

abbrev pub locks : List Column
locks = read_lock_enabled_column ∷ write_lock_enabled_column ∷ read_locked_column
    ∷ write_locked_column ∷ lock_on_reset_column ∷ []

-- rows that a drive has under the profile `Field`, and under each that has all of it
abbrev pub in_field : Profile → List Item → List Item
in_field profile items = if has_field profile then items else []

-- rows that a drive has under the profile `Opal` alone
abbrev pub has_opal : Profile → Bool
has_opal Base = false
has_opal Field = false
has_opal Opal = true

abbrev pub in_opal : Profile → List Item → List Item
in_opal profile items = if has_opal profile then items else []

-- these runs of rows have these cells
abbrev pub HasRows : {R : Type 0} → (R → List (Column × Cell)) → List (Run R) → List Item → Type 0
HasRows columns runs items = flat_map (run_items columns) runs ≡ items

-- these cells are added behind those of the runs
abbrev pub AddsRows : {R : Type 0} → (R → List (Column × Cell)) → (old new : List (Run R))
    → List Item → Type 0
AddsRows columns old new items = HasRows columns new (flat_map (run_items columns) old ++ items)

-- the rows of the numbers 1 to n, each named by its base and its number
abbrev pub family : ℕ → (ℕ → List (Column × Cell)) → ℕ → List Item
family base values zero = []
family base values (suc n) = family base values n ++ row_items (uid (base + suc n)) (values (suc n))

-- these rows are those of the numbers 1 to n
abbrev pub IsFamily : {R : Type 0} → (R → List (Column × Cell)) → ℕ → (ℕ → List (Column × Cell)) → ℕ
    → List R → Type 0
IsFamily columns base values count rows =
    rows_from columns (base + 1) rows ≡ family base values count

-- SPs: the Admin SP is Manufactured, the Locking SP Manufactured-Inactive
unfoldable pub admin_sps : List Item
admin_sps = row_items admin_sp (new_sp admin_sp (codes "Admin") manufactured)
    ++ row_items locking_sp (new_sp locking_sp (codes "Locking") manufactured_inactive)

-- authorities
unfoldable pub admin_authorities : List Item
admin_authorities = row_items anybody (new_group anybody (codes "Anybody") 0)
    ++ row_items sid (new_member sid (codes "SID") none 1 c_pin_sid)

-- the label's is Field's
unfoldable pub label_authorities : List Item
label_authorities =
    row_items psid_authority (new_member psid_authority (codes "PSID") none 1 c_pin_psid)

-- and these are Opal's: the class of its Admins with one of them, who is not enabled, and that of the makers
unfoldable pub opal_authorities : List Item
opal_authorities =
    row_items admins_class (new_group admins_class (codes "Admins") 1)
    ++ row_items makers_class (new_group makers_class (codes "Makers") 1)
    ++ row_items admin_sp_admin
    (new_member admin_sp_admin (codes "Admin1") admins_class 0 c_pin_admin_sp_admin)

abbrev pub admin_authority : ℕ → List (Column × Cell)
admin_authority n = new_member (admin_uid n) (codes "Admin" ++ decimal n) admins_class
    (if n == 1 then 1 else 0) (admin_pin_uid n)

abbrev pub user_authority : ℕ → List (Column × Cell)
user_authority n = new_member (user_uid n) (codes "User" ++ decimal n) users_class 0
    (user_pin_uid n)

unfoldable pub locking_authorities : List Item
locking_authorities =
    row_items anybody (new_group anybody (codes "Anybody") 0)
    ++ row_items admins_class (new_group admins_class (codes "Admins") 1)
    ++ family admin_base admin_authority ADMINS
    ++ row_items users_class (new_group users_class (codes "Users") 1)
    ++ family user_base user_authority USERS

-- C_PIN rows
unfoldable pub admin_pins : List ℕ → List Item
admin_pins msid = row_items c_pin_sid (new_pin c_pin_sid (codes "C_PIN_SID") msid new_try_limit)
    ++ row_items c_pin_msid (new_pin c_pin_msid (codes "C_PIN_MSID") msid no_try_limit)

unfoldable pub label_pins : List ℕ → List Item
label_pins psid = row_items c_pin_psid (new_pin c_pin_psid (codes "C_PIN_PSID") psid new_try_limit)

unfoldable pub opal_pins : List Item
opal_pins = row_items c_pin_admin_sp_admin
    (new_pin c_pin_admin_sp_admin (codes "C_PIN_Admin1") [] new_try_limit)

abbrev pub admin_pin : ℕ → List (Column × Cell)
admin_pin n = new_pin (admin_pin_uid n) (codes "C_PIN_Admin" ++ decimal n) [] new_try_limit

abbrev pub user_pin : ℕ → List (Column × Cell)
user_pin n = new_pin (user_pin_uid n) (codes "C_PIN_User" ++ decimal n) [] new_try_limit

unfoldable pub locking_pins : List Item
locking_pins = family admin_pin_base admin_pin ADMINS ++ family user_pin_base user_pin USERS

-- ranges
abbrev pub numbered_range : ℕ → List (Column × Cell)
numbered_range n = new_range (range_uid n) (codes "Locking_Range" ++ decimal n)

unfoldable pub locking_ranges : List Item
locking_ranges = row_items global_range (new_range global_range (codes "Locking_GlobalRange"))
    ++ family range_base numbered_range RANGES

-- under Field each has a key
abbrev pub range_key : ℕ → List (Column × Cell)
range_key n = new_range_key (key_uid n)

unfoldable pub range_keys : List Item
range_keys = row_items global_range (range_key 0) ++ family range_base range_key RANGES

-- and the drive says what it can, and how large its byte tables are
unfoldable pub locking_infos : List Item
locking_infos = row_items locking_info (new_locking_info locking_info (codes "LockingInfo"))

unfoldable pub byte_tables : TableSizes → List Item
byte_tables sizes =
    row_items mbr_table_row
    (new_byte_table mbr_table_row (codes "MBR") (bytes_of_table sizes ShadowMbr))
    ++ row_items datastore_table_row
    (new_byte_table datastore_table_row (codes "DataStore") (bytes_of_table sizes DataStore))

-- and how it removes data
unfoldable pub data_removals : List Item
data_removals = row_items data_removal (new_data_removal data_removal)

-- the shadow MBR
unfoldable pub locking_mbr_controls : List Item
locking_mbr_controls = row_items mbr_control (new_mbr_control mbr_control)

-- what the drive says of itself: no command resets it
abbrev pub admin_tper_infos : List Item
admin_tper_infos = row_items tper_info (new_tper_info tper_info)

-- who may read the PIN row of SID but for its PIN: under Opal, that of the Admin SP's Admin1 too
abbrev pub sid_get_aces : Profile → List Item
sid_get_aces profile =
    if has_opal profile then admins_or_row ace_c_pin_sid_get_nopin (codes "C_PIN_SID_Get_NOPIN") sid
    but_pin else ace_row ace_c_pin_sid_get_nopin (codes "C_PIN_SID_Get_NOPIN") sid but_pin

-- ACEs
unfoldable pub admin_aces : Profile → List Item
admin_aces profile =
    ace_row ace_anybody (codes "Anybody") anybody []
    ++ sid_get_aces profile
    ++ ace_row ace_c_pin_sid_set_pin (codes "C_PIN_SID_Set_PIN") sid (pin_column ∷ [])
    ++ ace_row ace_c_pin_msid_get_pin (codes "C_PIN_MSID_Get_PIN") anybody
    (uid_column ∷ pin_column ∷ [])
    ++ ace_row ace_sp_sid (codes "SP_SID") sid []
    ++ ace_row ace_tper_info_set_programmatic_reset_enable
    (codes "TPerInfo_Set_ProgrammaticResetEnable") sid (programmatic_reset_enable_column ∷ [])

unfoldable pub label_aces : List Item
label_aces =
    ace_row ace_c_pin_get_psid_nopin (codes "C_PIN_Get_PSID_NOPIN") anybody but_pin
    ++ ace_row ace_sp_psid (codes "SP_PSID") psid_authority []

unfoldable pub removal_aces : List Item
removal_aces = ace_row ace_data_removal_set_active (codes "DataRemovalMechanism_Set_Active") sid
    (active_data_removal_mechanism_column ∷ [])

-- who may enable the Admin SP's Makers and its Admin1, and set the PIN of Admin1
unfoldable pub opal_admin_aces : List Item
opal_admin_aces =
    ace_row ace_admins (codes "Admins") admins_class []
    ++ ace_row ace_set_enabled (codes "Set_Enabled") sid (enabled_column ∷ [])
    ++ admins_or_row ace_c_pin_admins_set_pin (codes "C_PIN_Admins_Set_PIN") sid (pin_column ∷ [])

unfoldable pub authority_aces : List Item
authority_aces =
    ace_row ace_anybody (codes "Anybody") anybody []
    ++ ace_row ace_admins (codes "Admins") admins_class []
    ++ ace_row ace_anybody_get_common_name (codes "Anybody_Get_CommonName") anybody
    (uid_column ∷ common_name_column ∷ [])
    ++ ace_row ace_ace_set_boolean_expression (codes "ACE_Set_BooleanExpr") admins_class
    (boolean_expr_column ∷ [])
    ++ ace_row ace_authority_set_enabled (codes "Authority_Set_Enabled") admins_class
    (enabled_column ∷ [])

abbrev pub user_ace : ℕ → List (Column × Cell)
user_ace n = new_ace (ace_c_pin_user_set_pin n)
    (codes "C_PIN_User" ++ decimal n ++ codes "_Set_PIN")
    (Authority admins_class ∷ Authority (user_uid n) ∷ Or ∷ []) (pin_column ∷ [])

unfoldable pub pin_aces : List Item
pin_aces =
    ace_row ace_c_pin_admins_get_all_nopin (codes "C_PIN_Get_NOPIN") admins_class but_pin
    ++ ace_row ace_c_pin_admins_set_pin (codes "C_PIN_Admins_Set_PIN") admins_class
    (pin_column ∷ [])
    ++ family user_ace_base user_ace USERS

abbrev pub read_locked_ace : ℕ → List (Column × Cell)
read_locked_ace n = new_ace (ace_range_set_read_locked n)
    (codes "Range_" ++ decimal n ++ codes "_Set_RdLocked") (Authority admins_class ∷ [])
    (read_locked_column ∷ [])

abbrev pub write_locked_ace : ℕ → List (Column × Cell)
write_locked_ace n =
    new_ace (ace_range_set_write_locked n) (codes "Range_" ++ decimal n ++ codes "_Set_WrLocked")
    (Authority admins_class ∷ []) (write_locked_column ∷ [])

-- those of the two flags, the global range first
abbrev pub read_locked_aces : List Item
read_locked_aces = row_items (ace_range_set_read_locked 0) (read_locked_ace 0)
    ++ family read_locked_ace_base read_locked_ace RANGES

abbrev pub write_locked_aces : List Item
write_locked_aces = row_items (ace_range_set_write_locked 0) (write_locked_ace 0)
    ++ family write_locked_ace_base write_locked_ace RANGES

-- who may read a range: one ACE for all of them, or under Field one for each, which names its key, too
abbrev pub range_get_ace : ℕ → List (Column × Cell)
range_get_ace n = new_ace (ace_range_get n) (codes "Range_" ++ decimal n ++ codes "_Get")
    (Authority admins_class ∷ []) (bounds ++ locks ++ active_key_column ∷ [])

unfoldable pub range_get_aces : Profile → List Item
range_get_aces Base =
    ace_row ace_locking_get_all (codes "Locking_Get") admins_class (bounds ++ locks)
range_get_aces Field = row_items (ace_range_get 0) (range_get_ace 0)
    ++ family range_get_ace_base range_get_ace RANGES
range_get_aces Opal = row_items (ace_range_get 0) (range_get_ace 0)
    ++ family range_get_ace_base range_get_ace RANGES

-- who may make a new key for one
abbrev pub gen_key_ace : ℕ → List (Column × Cell)
gen_key_ace n =
    new_ace (ace_key_gen_key n) (codes "K_AES_256_Range_" ++ decimal n ++ codes "_GenKey")
    (Authority admins_class ∷ []) []

unfoldable pub gen_key_aces : List Item
gen_key_aces = row_items (ace_key_gen_key 0) (gen_key_ace 0)
    ++ family gen_key_ace_base gen_key_ace RANGES

unfoldable pub range_aces : Profile → List Item
range_aces profile =
    range_get_aces profile
    ++ read_locked_aces
    ++ write_locked_aces
    ++ ace_row ace_locking_global_range_admins_set (codes "Locking_Global_Set") admins_class locks
    ++ ace_row ace_locking_admins_set (codes "Locking_Range_Set") admins_class (bounds ++ locks)

unfoldable pub mbr_aces : List Item
mbr_aces =
    ace_row ace_mbr_control_admins_set (codes "MBRControl_Set") admins_class
    (mbr_enable_column ∷ mbr_done_column ∷ mbr_done_on_reset_column ∷ [])
    ++ ace_row ace_mbr_control_set_done_to_dor (codes "MBRControl_Set_DoneToDOR") admins_class
    (mbr_done_column ∷ mbr_done_on_reset_column ∷ [])

-- who may read and write the bytes of DataStore
unfoldable pub datastore_aces : List Item
datastore_aces =
    ace_row ace_datastore_get_all (codes "DataStore_Get_All") admins_class []
    ++ ace_row ace_datastore_set_all (codes "DataStore_Set_All") admins_class []

-- who may give a name, read ACEs, authorities and the mode of a key
abbrev pub user_name_ace : ℕ → List (Column × Cell)
user_name_ace n = new_ace (ace_user_set_common_name n)
    (codes "User" ++ decimal n ++ codes "_Set_CommonName")
    (Authority admins_class ∷ Authority (user_uid n) ∷ Or ∷ []) (common_name_column ∷ [])

unfoldable pub opal_locking_aces : List Item
opal_locking_aces =
    ace_row ace_admins_set_common_name (codes "Admins_Set_CommonName") admins_class
    (common_name_column ∷ [])
    ++ ace_row ace_ace_get_all (codes "ACE_Get_All") admins_class []
    ++ ace_row ace_authority_get_all (codes "Authority_Get_All") admins_class []
    ++ family user_common_name_ace_base user_name_ace USERS
    ++ ace_row ace_key_mode (codes "K_AES_Mode") anybody (mode_column ∷ [])

-- rows whose cells no host sets

-- the row of a table of objects in the Table table
abbrev pub object_table : ℕ → List ℕ → List Item
object_table table name = row_items (table_row table) (new_object_table (table_row table) name)

abbrev pub method_row : Uid → List ℕ → List Item
method_row object name = row_items object (new_method object name)

abbrev pub admin_object_tables : List Item
admin_object_tables =
    object_table table_table (codes "Table")
    ++ object_table sp_info_table (codes "SPInfo")
    ++ object_table sp_templates_table (codes "SPTemplates")
    ++ object_table method_id_table (codes "MethodID")
    ++ object_table access_control_table (codes "AccessControl")
    ++ object_table ace_table (codes "ACE")
    ++ object_table authority_table (codes "Authority")
    ++ object_table c_pin_table (codes "C_PIN")
    ++ object_table tper_info_table (codes "TPerInfo")
    ++ object_table template_table (codes "Template")
    ++ object_table sp_table (codes "SP")
    ++ object_table data_removal_table (codes "DataRemovalMechanism")

abbrev pub admin_methods : List Item
admin_methods =
    method_row next (codes "Next")
    ++ method_row get_acl (codes "GetACL")
    ++ method_row get (codes "Get")
    ++ method_row set (codes "Set")
    ++ method_row authenticate (codes "Authenticate")
    ++ method_row revert (codes "Revert")
    ++ method_row activate (codes "Activate")
    ++ method_row random (codes "Random")

-- both SPs have the template Base, and each its own
abbrev pub admin_templates : List Item
admin_templates =
    row_items sp_info (new_sp_info sp_info admin_sp (codes "Admin"))
    ++ row_items sp_template_base (new_sp_template sp_template_base template_base (codes "Base"))
    ++ row_items sp_template_own (new_sp_template sp_template_own template_admin (codes "Admin"))
    ++ row_items template_base (new_template template_base (codes "Base") 2)
    ++ row_items template_admin (new_template template_admin (codes "Admin") 1)
    ++ row_items template_locking (new_template template_locking (codes "Locking") 1)

abbrev pub admin_further : List Item
admin_further =
    row_items admin_sp further_sp
    ++ row_items locking_sp further_sp
    ++ row_items tper_info further_tper_info
    ++ row_items anybody further_authority
    ++ row_items admins_class further_authority
    ++ row_items makers_class further_authority
    ++ row_items sid further_authority
    ++ row_items admin_sp_admin further_authority
    ++ row_items psid_authority further_authority

unfoldable pub admin_constants : List Item
admin_constants = admin_object_tables ++ admin_methods ++ admin_templates ++ admin_further

abbrev pub locking_object_tables : List Item
locking_object_tables =
    object_table table_table (codes "Table")
    ++ object_table sp_info_table (codes "SPInfo")
    ++ object_table sp_templates_table (codes "SPTemplates")
    ++ object_table method_id_table (codes "MethodID")
    ++ object_table access_control_table (codes "AccessControl")
    ++ object_table ace_table (codes "ACE")
    ++ object_table authority_table (codes "Authority")
    ++ object_table c_pin_table (codes "C_PIN")
    ++ object_table secret_protect_table (codes "SecretProtect")
    ++ object_table locking_info_table (codes "LockingInfo")
    ++ object_table locking_table (codes "Locking")
    ++ object_table mbr_control_table (codes "MBRControl")
    ++ object_table key_table (codes "K_AES_256")

abbrev pub locking_methods : List Item
locking_methods =
    method_row next (codes "Next")
    ++ method_row get_acl (codes "GetACL")
    ++ method_row gen_key (codes "GenKey")
    ++ method_row revert_sp (codes "RevertSP")
    ++ method_row get (codes "Get")
    ++ method_row set (codes "Set")
    ++ method_row authenticate (codes "Authenticate")
    ++ method_row random (codes "Random")

abbrev pub locking_templates : List Item
locking_templates =
    row_items sp_info (new_sp_info sp_info locking_sp (codes "Locking"))
    ++ row_items sp_template_base (new_sp_template sp_template_base template_base (codes "Base"))
    ++ row_items sp_template_own
    (new_sp_template sp_template_own template_locking (codes "Locking"))

-- the keys of the ranges, whose column 3 no one reads
abbrev pub numbered_key : ℕ → List (Column × Cell)
numbered_key n = new_key (key_uid n) (codes "K_AES_256_Range" ++ decimal n ++ codes "_Key")

abbrev pub locking_keys : List Item
locking_keys =
    row_items secret_protect_key (new_secret_protect secret_protect_key (table_row key_table) 3)
    ++ row_items global_key (new_key global_key (codes "K_AES_256_GlobalRange_Key"))
    ++ family key_base numbered_key RANGES

abbrev pub locking_further : List Item
locking_further =
    row_items anybody further_authority
    ++ row_items admins_class further_authority
    ++ family admin_base (λ _. further_authority) ADMINS
    ++ row_items users_class further_authority
    ++ family user_base (λ _. further_authority) USERS

unfoldable pub locking_constants : List Item
locking_constants =
    locking_object_tables ++ locking_methods ++ locking_templates ++ locking_keys ++ locking_further

-- the Admin SP of a drive with this MSID, and this PIN on its label
abbrev pub admin_factory : Profile → (msid psid : List ℕ) → List Item
admin_factory profile msid psid = admin_sps
    ++ ((admin_authorities
    ++ in_field profile label_authorities
    ++ in_opal profile opal_authorities)
    ++ ((admin_pins msid
    ++ in_field profile (label_pins psid)
    ++ in_opal profile opal_pins)
    ++ (admin_tper_infos
    ++ ((admin_aces profile
    ++ in_field profile label_aces
    ++ in_field profile removal_aces
    ++ in_opal profile opal_admin_aces)
    ++ (in_field profile data_removals ++ in_opal profile admin_constants)))))

abbrev pub locking_aces : Profile → List Item
locking_aces profile = authority_aces ++ pin_aces ++ range_aces profile ++ mbr_aces
    ++ in_field profile gen_key_aces ++ in_field profile datastore_aces
    ++ in_opal profile opal_locking_aces

-- the Locking SP of a drive with byte tables so large
abbrev pub locking_factory : Profile → TableSizes → List Item
locking_factory profile sizes = locking_authorities
    ++ (locking_pins ++ (locking_ranges
    ++ (locking_mbr_controls ++ (locking_aces profile
    ++ (in_field profile range_keys ++ (in_field profile locking_infos
    ++ (in_field profile (byte_tables sizes) ++ in_opal profile locking_constants)))))))
