-- The names that the standards give to objects and methods (Core 2.01, chapter 5; Opal SSC 2.01, sections 4.2 and 4.3;
-- PSID feature set 1.00).
use Rattle.std.specs.Prelude.{◌==◌, ◌+◌, ◌++◌, ℕ, zero, suc, List, [], ◌∷◌, Option, None, Some, codes, decimal, if◌then◌else◌}
use Rattle.std.specs.Str.{bytes_eq}
use Rattle.sp_cells.specs.declared.names.TheConstants.{RANGES, USERS, ADMINS}
use Rattle.sp_cells.specs.declared.names.Uid.{Uid}
use Rattle.sp_cells.specs.Names.{table_table, sp_info_table, sp_templates_table, method_id_table, access_control_table, ace_table, authority_table, c_pin_table, secret_protect_table, tper_info_table, template_table, sp_table, locking_info_table, locking_table, mbr_control_table, key_table, data_removal_table, table_uid, table_row}
use Rattle.sp_cells.specs.Names.{this_sp, admin_sp, locking_sp, sp_info, sp_template_base, sp_template_own, template_base, template_admin, template_locking, access_control, secret_protect_key, tper_info, anybody, sid, psid, admins_class, makers_class, admin_sp_admin, users_class, admin_uid, user_uid, c_pin_sid, c_pin_msid, c_pin_admin_sp_admin, c_pin_psid, admin_pin_uid, user_pin_uid, range_uid, locking_info, key_uid, mbr_control, mbr_table, mbr_table_row, datastore_table, datastore_table_row, data_removal}
use Rattle.sp_cells.specs.Names.{ace_anybody, ace_admins, ace_anybody_get_common_name, ace_admins_set_common_name, ace_user_set_common_name, ace_ace_get_all, ace_authority_get_all, ace_key_mode, ace_set_enabled, ace_c_pin_sid_get_nopin, ace_c_pin_sid_set_pin, ace_c_pin_msid_get_pin, ace_c_pin_get_psid_nopin, ace_sp_psid, ace_sp_sid, ace_tper_info_set_programmatic_reset_enable, ace_ace_set_boolean_expression, ace_authority_set_enabled, ace_c_pin_admins_get_all_nopin, ace_c_pin_admins_set_pin, ace_c_pin_user_set_pin, ace_range_get, ace_key_gen_key, ace_range_set_read_locked, ace_range_set_write_locked, ace_locking_global_range_admins_set, ace_locking_admins_set, ace_mbr_control_admins_set, ace_mbr_control_set_done_to_dor, ace_datastore_get_all, ace_datastore_set_all, ace_data_removal_set_active}
use Rattle.sp_cells.specs.Names.{get, set, authenticate, revert, activate, gen_key, revert_sp, next, get_acl, random, session_manager, properties, start_session, sync_session}

-- an object and its name
abbrev pub Named : Type 0
Named = Uid × List ℕ

-- the objects of tables that have one row or few
unfoldable pub object_singles : List Named
object_singles =
    (this_sp, codes "ThisSP")
    ∷ (admin_sp, codes "AdminSP")
    ∷ (locking_sp, codes "LockingSP")
    ∷ (tper_info, codes "TPerInfo")
    ∷ (locking_info, codes "LockingInfo")
    ∷ (mbr_control, codes "MBRControl")
    ∷ (mbr_table, codes "MBR")
    ∷ (mbr_table_row, codes "Table_MBR")
    ∷ (datastore_table, codes "DataStore")
    ∷ (datastore_table_row, codes "Table_DataStore")
    ∷ (data_removal, codes "DataRemovalMechanism")
    ∷ (sp_info, codes "SPInfo")
    ∷ (sp_template_base, codes "SPTemplates_Base")
    ∷ (sp_template_own, codes "SPTemplates_Own")
    ∷ (template_base, codes "Template_Base")
    ∷ (template_admin, codes "Template_Admin")
    ∷ (template_locking, codes "Template_Locking")
    ∷ (secret_protect_key, codes "SecretProtect_K_AES_256_Key")
    ∷ []

-- the tables that have more than one row
unfoldable pub table_singles : List Named
table_singles =
    (table_uid table_table, codes "Table")
    ∷ (table_uid sp_templates_table, codes "SPTemplates")
    ∷ (table_uid method_id_table, codes "MethodID")
    ∷ (access_control, codes "AccessControl")
    ∷ (table_uid ace_table, codes "ACE")
    ∷ (table_uid authority_table, codes "Authority")
    ∷ (table_uid c_pin_table, codes "C_PIN")
    ∷ (table_uid secret_protect_table, codes "SecretProtect")
    ∷ (table_uid template_table, codes "Template")
    ∷ (table_uid sp_table, codes "SP")
    ∷ (table_uid locking_table, codes "Locking_Table")
    ∷ (table_uid key_table, codes "K_AES_256")
    ∷ []

-- the rows of the Table table, but for those of the byte tables
unfoldable pub table_row_singles : List Named
table_row_singles =
    (table_row table_table, codes "Table_Table")
    ∷ (table_row sp_info_table, codes "Table_SPInfo")
    ∷ (table_row sp_templates_table, codes "Table_SPTemplates")
    ∷ (table_row method_id_table, codes "Table_MethodID")
    ∷ (table_row access_control_table, codes "Table_AccessControl")
    ∷ (table_row ace_table, codes "Table_ACE")
    ∷ (table_row authority_table, codes "Table_Authority")
    ∷ (table_row c_pin_table, codes "Table_C_PIN")
    ∷ (table_row secret_protect_table, codes "Table_SecretProtect")
    ∷ (table_row tper_info_table, codes "Table_TPerInfo")
    ∷ (table_row template_table, codes "Table_Template")
    ∷ (table_row sp_table, codes "Table_SP")
    ∷ (table_row locking_info_table, codes "Table_LockingInfo")
    ∷ (table_row locking_table, codes "Table_Locking")
    ∷ (table_row mbr_control_table, codes "Table_MBRControl")
    ∷ (table_row key_table, codes "Table_K_AES_256")
    ∷ (table_row data_removal_table, codes "Table_DataRemovalMechanism")
    ∷ []

-- authorities, and the rows of their PINs
unfoldable pub authority_singles : List Named
authority_singles =
    (anybody, codes "Anybody")
    ∷ (sid, codes "SID")
    ∷ (psid, codes "PSID")
    ∷ (admins_class, codes "Admins")
    ∷ (users_class, codes "Users")
    ∷ (c_pin_sid, codes "C_PIN_SID")
    ∷ (c_pin_msid, codes "C_PIN_MSID")
    ∷ (c_pin_psid, codes "C_PIN_PSID")
    ∷ (makers_class, codes "Makers")
    ∷ (admin_sp_admin, codes "AdminSP_Admin1")
    ∷ (c_pin_admin_sp_admin, codes "C_PIN_AdminSP_Admin1")
    ∷ []

-- the ACEs of the Admin SP, and those of both
unfoldable pub admin_ace_singles : List Named
admin_ace_singles =
    (ace_anybody, codes "ACE_Anybody")
    ∷ (ace_admins, codes "ACE_Admin")
    ∷ (ace_c_pin_sid_get_nopin, codes "ACE_C_PIN_SID_Get_NOPIN")
    ∷ (ace_c_pin_sid_set_pin, codes "ACE_C_PIN_SID_Set_PIN")
    ∷ (ace_c_pin_msid_get_pin, codes "ACE_C_PIN_MSID_Get_PIN")
    ∷ (ace_c_pin_get_psid_nopin, codes "ACE_C_PIN_Get_PSID_NOPIN")
    ∷ (ace_sp_psid, codes "ACE_SP_PSID")
    ∷ (ace_sp_sid, codes "ACE_SP_SID")
    ∷ (
      ace_tper_info_set_programmatic_reset_enable,
      codes "ACE_TPerInfo_Set_ProgrammaticResetEnable",
    )
    ∷ (ace_data_removal_set_active, codes "ACE_DataRemovalMechanism_Set_Active")
    ∷ (ace_set_enabled, codes "ACE_Set_Enabled")
    ∷ []

-- the ACEs of the Locking SP
unfoldable pub locking_ace_singles : List Named
locking_ace_singles =
    (ace_anybody_get_common_name, codes "ACE_Anybody_Get_CommonName")
    ∷ (ace_ace_set_boolean_expression, codes "ACE_ACE_Set_BooleanExpression")
    ∷ (ace_authority_set_enabled, codes "ACE_Authority_Set_Enabled")
    ∷ (ace_c_pin_admins_get_all_nopin, codes "ACE_C_PIN_Admins_Get_All_NOPIN")
    ∷ (ace_c_pin_admins_set_pin, codes "ACE_C_PIN_Admins_Set_PIN")
    ∷ (ace_locking_global_range_admins_set, codes "ACE_Locking_GlblRng_Admins_Set")
    ∷ (ace_locking_admins_set, codes "ACE_Locking_Admins_RangeStartToLOR")
    ∷ (ace_mbr_control_admins_set, codes "ACE_MBRControl_Admins_Set")
    ∷ (ace_mbr_control_set_done_to_dor, codes "ACE_MBRControl_Set_DoneToDOR")
    ∷ (ace_datastore_get_all, codes "ACE_DataStore_Get_All")
    ∷ (ace_datastore_set_all, codes "ACE_DataStore_Set_All")
    ∷ (ace_admins_set_common_name, codes "ACE_Admins_Set_CommonName")
    ∷ (ace_ace_get_all, codes "ACE_ACE_Get_All")
    ∷ (ace_authority_get_all, codes "ACE_Authority_Get_All")
    ∷ (ace_key_mode, codes "ACE_K_AES_Mode")
    ∷ []

-- the session manager, and the methods
unfoldable pub method_singles : List Named
method_singles =
    (session_manager, codes "SMUID")
    ∷ (properties, codes "Properties")
    ∷ (start_session, codes "StartSession")
    ∷ (sync_session, codes "SyncSession")
    ∷ (get, codes "Get")
    ∷ (set, codes "Set")
    ∷ (authenticate, codes "Authenticate")
    ∷ (revert, codes "Revert")
    ∷ (activate, codes "Activate")
    ∷ (gen_key, codes "GenKey")
    ∷ (revert_sp, codes "RevertSP")
    ∷ (next, codes "Next")
    ∷ (get_acl, codes "GetACL")
    ∷ (random, codes "Random")
    ∷ []

-- the members of a family from a number on, so many
abbrev pub members : (ℕ → Uid) → (ℕ → List ℕ) → (from count : ℕ) → List Named
members object text from zero = []
members object text from (suc n) = (object from, text from) ∷ members object text (suc from) n

-- a number between two texts, and a range between two
abbrev pub number_between : (before behind : List ℕ) → ℕ → List ℕ
number_between before behind n = before ++ decimal n ++ behind

abbrev pub range_text : ℕ → List ℕ
range_text zero = codes "GlobalRange"
range_text (suc n) = codes "Range" ++ decimal (suc n)

abbrev pub range_between : (before behind : List ℕ) → ℕ → List ℕ
range_between before behind n = before ++ range_text n ++ behind

-- the families of authorities, of their PINs and of the ACEs of both (Opal SSC 2.01, section 4.3)
unfoldable pub of_numbers : (ℕ → Uid) → (before behind : List ℕ) → (count : ℕ) → List Named
of_numbers object before behind count = members object (number_between before behind) 1 count

abbrev pub authority_families : List Named
authority_families =
    of_numbers admin_uid (codes "Admin") [] ADMINS
    ++ of_numbers user_uid (codes "User") [] USERS
    ++ of_numbers admin_pin_uid (codes "C_PIN_Admin") [] ADMINS
    ++ of_numbers user_pin_uid (codes "C_PIN_User") [] USERS
    ++ of_numbers ace_c_pin_user_set_pin (codes "ACE_C_PIN_User") (codes "_Set_PIN") USERS
    ++ of_numbers ace_user_set_common_name (codes "ACE_User") (codes "_Set_CommonName") USERS

-- those of the ranges, of their keys and of the ACEs of both; the global range is number 0
unfoldable pub of_ranges : (ℕ → Uid) → (before behind : List ℕ) → List Named
of_ranges object before behind = members object (range_between before behind) 0 (RANGES + 1)

abbrev pub range_families : List Named
range_families =
    of_ranges range_uid (codes "Locking_") []
    ++ of_ranges key_uid (codes "K_AES_256_") (codes "_Key")
    ++ of_ranges ace_key_gen_key (codes "ACE_K_AES_256_") (codes "_GenKey")
    ++ of_ranges ace_range_get (codes "ACE_Locking_") (codes "_Get_RangeStartToActiveKey")
    ++ of_ranges ace_range_set_read_locked (codes "ACE_Locking_") (codes "_Set_RdLocked")
    ++ of_ranges ace_range_set_write_locked (codes "ACE_Locking_") (codes "_Set_WrLocked")

-- all that have a name
abbrev pub singles : List Named
singles =
    object_singles ++ table_singles ++ table_row_singles ++ authority_singles
    ++ admin_ace_singles ++ locking_ace_singles ++ method_singles

unfoldable pub named_objects : List Named
named_objects = singles ++ authority_families ++ range_families

-- the name of an object among these, and the object of a name
abbrev pub name_in : List Named → Uid → Option (List ℕ)
name_in [] object = None
name_in (e ∷ es) object = if e.0.0 == object.0 then Some e.1 else name_in es object

abbrev pub object_in : List Named → List ℕ → Option Uid
object_in [] name = None
object_in (e ∷ es) name = if bytes_eq e.1 name then Some e.0 else object_in es name

abbrev pub object_name : Uid → Option (List ℕ)
object_name object = name_in named_objects object

abbrev pub object_by_name : List ℕ → Option Uid
object_by_name name = object_in named_objects name

-- the first number of so many whose text this is
unfoldable pub number_making : (ℕ → List ℕ) → (from count : ℕ) → List ℕ → Option ℕ
number_making text from zero name = None
number_making text from (suc n) name =
    if bytes_eq (text from) name then Some from else number_making text (suc from) n name
