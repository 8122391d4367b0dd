-- The fixed access list, for each method of each object its access control list (ACL): which ACEs may allow a method of an object (Core 2.01, section 5.3, table AccessControl; Opal SSC 2.01, sections 4.2 and 4.3).
use Rattle.std.specs.Prelude.{◌≡◌, ◌==◌, ◌&&◌, Bool, true, is_none, ℕ, ◌+◌, nat_le, List, [], ◌∷◌, ◌++◌, length, map, drop, Option, None, Some, if◌then◌else◌, option_map}
use Rattle.arrayvec.specs.ArrayVec.{ArrayVec}
use Rattle.basics.specs.declared.profile.Profile.{Profile}
use Rattle.basics.specs.declared.profile.Profile.TheVariants.{Base, Field, Opal}
use Rattle.basics.specs.Profiles.{has_field}
use Rattle.sp_cells.specs.declared.names.Uid.{Uid}
use Rattle.sp_cells.specs.declared.names.Sp.{Sp}
use Rattle.sp_cells.specs.declared.names.Sp.TheVariants.{Admin, Locking}
use Rattle.sp_cells.specs.Names.{get, set, authenticate, revert, activate, gen_key, revert_sp, next, get_acl, random, this_sp, admin_sp, locking_sp, anybody, sid, admin_uid, user_uid, c_pin_sid, c_pin_msid, admin_pin_uid, user_pin_uid, global_range, range_uid, mbr_control, mbr_table, tper_info, psid, c_pin_psid, locking_info, mbr_table_row, datastore_table, datastore_table_row, data_removal, key_uid, sp_info, sp_template_base, sp_template_own, template_base, template_admin, template_locking, access_control, secret_protect_key, makers_class, admin_sp_admin, admins_class, c_pin_admin_sp_admin, table_uid, table_row}
use Rattle.sp_cells.specs.Names.{table_table, sp_info_table, sp_templates_table, method_id_table, access_control_table, ace_table, authority_table, c_pin_table, secret_protect_table, template_table, sp_table, locking_info_table, locking_table, mbr_control_table, tper_info_table, key_table, data_removal_table}
use Rattle.sp_cells.specs.Names.{ace_anybody, ace_admins, ace_anybody_get_common_name, ace_c_pin_sid_get_nopin, ace_c_pin_sid_set_pin, ace_c_pin_msid_get_pin, ace_c_pin_get_psid_nopin, ace_sp_psid, ace_sp_sid, ace_tper_info_set_programmatic_reset_enable, ace_ace_set_boolean_expression, ace_authority_set_enabled, ace_c_pin_admins_get_all_nopin, ace_c_pin_admins_set_pin, ace_c_pin_user_set_pin, ace_locking_get_all, ace_range_get, ace_key_gen_key, ace_range_set_read_locked, ace_range_set_write_locked, ace_locking_global_range_admins_set, ace_locking_admins_set, ace_mbr_control_admins_set, ace_mbr_control_set_done_to_dor, ace_datastore_get_all, ace_datastore_set_all, ace_data_removal_set_active, ace_admins_set_common_name, ace_user_set_common_name, ace_ace_get_all, ace_authority_get_all, ace_key_mode, ace_set_enabled}
use Rattle.sp_cells.specs.Authorities.{admins, users, numbered_ranges, all_ranges, authorities_of_locking}
use Rattle.sp_cells.specs.Flat.{sp_eq}

-- the ACL of a method of an object: the ACEs that may allow it, in their order
pub record Grant : Type 0 where
  pub sp : Sp
  pub object : Uid
  pub method : Uid
  pub acl : List Uid

abbrev pub grant : Sp → Uid → Uid → List Uid → Grant
grant sp object method acl = record { sp = sp; object = object; method = method; acl = acl }

-- the same for each of these objects
abbrev pub grants : Sp → List Uid → Uid → List Uid → List Grant
grants sp objects method acl = map (λ object. grant sp object method acl) objects

-- those that a drive has under the profile `Field`, and under each that has all of it
abbrev pub of_field : Profile → List Grant → List Grant
of_field profile gs = if has_field profile then gs else []

-- those that it has under the profile `Opal` alone
abbrev pub of_opal : Profile → List Grant → List Grant
of_opal Base gs = []
of_opal Field gs = []
of_opal Opal gs = gs

-- the SPs themselves
unfoldable pub this_sp_grants : List Grant
this_sp_grants = grant Admin this_sp authenticate (ace_anybody ∷ [])
    ∷ grant Locking this_sp authenticate (ace_anybody ∷ []) ∷ []

-- who may revert the drive: its owner, and under Field who holds its label (PSID feature set 1.00); under Opal the Admin SP's
-- Admin1 too
abbrev pub reverters : Profile → List Uid
reverters Base = ace_sp_sid ∷ []
reverters Field = ace_sp_sid ∷ ace_sp_psid ∷ []
reverters Opal = ace_sp_sid ∷ ace_admins ∷ ace_sp_psid ∷ []

-- who may revert the Locking SP from the Admin SP
abbrev pub reverters_of_locking : Profile → List Uid
reverters_of_locking Base = ace_sp_sid ∷ []
reverters_of_locking Field = ace_sp_sid ∷ []
reverters_of_locking Opal = ace_sp_sid ∷ ace_admins ∷ []

-- who may read an ACE of the Locking SP: under Opal the Admins alone
abbrev pub ace_getters : Profile → List Uid
ace_getters Base = ace_admins ∷ ace_anybody_get_common_name ∷ []
ace_getters Field = ace_admins ∷ ace_anybody_get_common_name ∷ []
ace_getters Opal = ace_ace_get_all ∷ []

-- who may read an authority of it
abbrev pub authority_getters : Profile → List Uid
authority_getters Base = ace_admins ∷ ace_anybody_get_common_name ∷ []
authority_getters Field = ace_admins ∷ ace_anybody_get_common_name ∷ []
authority_getters Opal = ace_authority_get_all ∷ ace_anybody_get_common_name ∷ []

-- who may name a row: under Opal a host can name the ranges and the authorities of the Locking SP
abbrev pub namers : Profile → Uid → List Uid
namers Base ace = []
namers Field ace = []
namers Opal ace = ace ∷ []

-- the Admin SP
unfoldable pub owner_grants : Profile → List Grant
owner_grants profile =
    grants Admin (admin_sp ∷ locking_sp ∷ anybody ∷ sid ∷ ace_anybody ∷ ace_c_pin_sid_get_nopin
    ∷ ace_c_pin_sid_set_pin ∷ ace_c_pin_msid_get_pin ∷ ace_sp_sid
    ∷ ace_tper_info_set_programmatic_reset_enable ∷ tper_info ∷ []) get (ace_anybody ∷ [])
    ++ grant Admin c_pin_sid get (ace_c_pin_sid_get_nopin ∷ [])
    ∷ grant Admin c_pin_sid set (ace_c_pin_sid_set_pin ∷ [])
    ∷ grant Admin c_pin_msid get (ace_c_pin_msid_get_pin ∷ [])
    ∷ grant Admin locking_sp activate (ace_sp_sid ∷ [])
    ∷ grant Admin locking_sp revert (reverters_of_locking profile)
    ∷ grant Admin admin_sp revert (reverters profile)
    ∷ grant Admin tper_info set (ace_tper_info_set_programmatic_reset_enable ∷ [])
    ∷ []

-- the label's authority, PIN and ACEs
unfoldable pub label_grants : List Grant
label_grants =
    grants Admin (psid ∷ ace_c_pin_get_psid_nopin ∷ ace_sp_psid ∷ []) get (ace_anybody ∷ [])
    ++ grant Admin c_pin_psid get (ace_c_pin_get_psid_nopin ∷ []) ∷ []

-- how the drive removes data
unfoldable pub removal_grants : List Grant
removal_grants =
    grants Admin (data_removal ∷ ace_data_removal_set_active ∷ []) get (ace_anybody ∷ [])
    ++ grant Admin data_removal set (ace_data_removal_set_active ∷ []) ∷ []

-- the tables that an SP tells of under Opal (Opal SSC 2.01, sections 4.2.1 and 4.3.1, table Table); it tells of the two byte
-- tables under Field too
abbrev pub told_tables : Sp → List ℕ
told_tables Admin = table_table ∷ sp_info_table ∷ sp_templates_table ∷ method_id_table
    ∷ access_control_table ∷ ace_table ∷ authority_table ∷ c_pin_table ∷ tper_info_table
    ∷ template_table ∷ sp_table ∷ data_removal_table ∷ []
told_tables Locking = table_table ∷ sp_info_table ∷ sp_templates_table ∷ method_id_table
    ∷ access_control_table ∷ ace_table ∷ authority_table ∷ c_pin_table ∷ secret_protect_table
    ∷ locking_info_table ∷ locking_table ∷ mbr_control_table ∷ key_table ∷ []

-- those whose rows it lists: each of objects that may have more than one
abbrev pub next_tables : Sp → List ℕ
next_tables Admin = table_table ∷ sp_templates_table ∷ method_id_table ∷ ace_table
    ∷ authority_table ∷ c_pin_table ∷ template_table ∷ sp_table ∷ []
next_tables Locking = table_table ∷ sp_templates_table ∷ method_id_table ∷ ace_table
    ∷ authority_table ∷ c_pin_table ∷ secret_protect_table ∷ locking_table ∷ key_table ∷ []

-- the methods of an SP, each a row of its table MethodID
abbrev pub methods_of : Sp → List Uid
methods_of Admin = next ∷ get_acl ∷ get ∷ set ∷ authenticate ∷ revert ∷ activate ∷ random ∷ []
methods_of Locking = next ∷ get_acl ∷ gen_key ∷ revert_sp ∷ get ∷ set ∷ authenticate ∷ random ∷ []

-- what anybody may ask each SP: random bytes, and of itself its access list, its templates, the rows of its tables, and what it
-- tells of its tables and methods
unfoldable pub own_grants : Sp → List Grant
own_grants sp =
    grant sp access_control get_acl (ace_anybody ∷ [])
    ∷ grant sp this_sp random (ace_anybody ∷ [])
    ∷ grants sp (sp_info ∷ sp_template_base ∷ sp_template_own ∷ []) get (ace_anybody ∷ [])

unfoldable pub listed_grants : Sp → List Grant
listed_grants sp = grants sp (map table_uid (next_tables sp)) next (ace_anybody ∷ [])

unfoldable pub told_grants : Sp → List Grant
told_grants sp = grants sp (map table_row (told_tables sp)) get (ace_anybody ∷ [])

unfoldable pub method_grants : Sp → List Grant
method_grants sp = grants sp (methods_of sp) get (ace_anybody ∷ [])

abbrev pub sp_grants : Sp → List Grant
sp_grants sp = own_grants sp ++ listed_grants sp ++ told_grants sp ++ method_grants sp

-- the Admin SP's Makers and Admin1, with what tells of them, and the templates (Opal SSC 2.01, sections 4.2.1.5 to 4.2.1.8
-- and 4.2.3)
unfoldable pub maker_grants : List Grant
maker_grants =
    grants Admin (admins_class ∷ makers_class ∷ admin_sp_admin ∷ ace_admins ∷ ace_set_enabled
    ∷ ace_c_pin_admins_set_pin ∷ template_base ∷ template_admin ∷ template_locking ∷ []) get
    (ace_anybody ∷ [])
    ++ grants Admin (makers_class ∷ admin_sp_admin ∷ []) set (ace_set_enabled ∷ [])
    ++ grant Admin c_pin_admin_sp_admin get (ace_c_pin_sid_get_nopin ∷ [])
    ∷ grant Admin c_pin_admin_sp_admin set (ace_c_pin_admins_set_pin ∷ []) ∷ []

abbrev pub admin_grants : Profile → List Grant
admin_grants profile = owner_grants profile ++ of_field profile (label_grants ++ removal_grants)
    ++ of_opal profile (sp_grants Admin ++ maker_grants)

unfoldable pub authority_grants : Profile → List Grant
authority_grants profile =
    grants Locking authorities_of_locking get (authority_getters profile)
    ++ grants Locking (map admin_uid (drop 1 admins)) set
    (ace_authority_set_enabled ∷ namers profile ace_admins_set_common_name)
    ++ map (λ n. grant Locking (user_uid n) set
    (ace_authority_set_enabled ∷ namers profile (ace_user_set_common_name n))) users

-- ACEs whose expression can be set
abbrev pub settable : Profile → List Uid → List Grant
settable profile aces = grants Locking aces get (ace_getters profile)
    ++ grants Locking aces set (ace_ace_set_boolean_expression ∷ [])

-- the ACEs of the Locking SP whose expression stays
abbrev pub fixed_aces : List Uid
fixed_aces = ace_anybody ∷ ace_admins ∷ ace_anybody_get_common_name ∷ ace_ace_set_boolean_expression
    ∷ ace_authority_set_enabled ∷ ace_c_pin_admins_get_all_nopin ∷ ace_c_pin_admins_set_pin
    ∷ ace_locking_global_range_admins_set ∷ ace_locking_admins_set
    ∷ ace_mbr_control_admins_set ∷ []

unfoldable pub fixed_ace_gets : Profile → List Grant
fixed_ace_gets profile = grants Locking fixed_aces get (ace_getters profile)

unfoldable pub user_ace_grants : Profile → List Grant
user_ace_grants profile = settable profile (map ace_c_pin_user_set_pin users)

-- under Field each range has an ACE for reading it, and one for making a key
unfoldable pub range_get_ace_grants : Profile → List Grant
range_get_ace_grants Base =
    grants Locking (ace_locking_get_all ∷ []) get (ace_getters Base)
range_get_ace_grants Field = settable Field (map ace_range_get all_ranges)
range_get_ace_grants Opal = settable Opal (map ace_range_get all_ranges)

unfoldable pub gen_key_ace_grants : Profile → List Grant
gen_key_ace_grants profile = settable profile (map ace_key_gen_key all_ranges)

unfoldable pub read_locked_ace_grants : Profile → List Grant
read_locked_ace_grants profile = settable profile (map ace_range_set_read_locked all_ranges)

unfoldable pub write_locked_ace_grants : Profile → List Grant
write_locked_ace_grants profile = settable profile (map ace_range_set_write_locked all_ranges)

unfoldable pub done_ace_grants : Profile → List Grant
done_ace_grants profile = settable profile (ace_mbr_control_set_done_to_dor ∷ [])

-- its C_PIN rows
unfoldable pub pin_grants : List Grant
pin_grants =
    grants Locking (map admin_pin_uid admins ++ map user_pin_uid users) get
    (ace_c_pin_admins_get_all_nopin ∷ [])
    ++ grants Locking (map admin_pin_uid admins) set (ace_c_pin_admins_set_pin ∷ [])
    ++ map (λ n. grant Locking (user_pin_uid n) set (ace_c_pin_user_set_pin n ∷ [])) users

-- its ranges
unfoldable pub range_get_grants : Profile → List Grant
range_get_grants Base = grants Locking (map range_uid all_ranges) get
    (ace_locking_get_all ∷ ace_anybody_get_common_name ∷ [])
range_get_grants Field =
    map (λ n. grant Locking (range_uid n) get
    (ace_range_get n ∷ ace_anybody_get_common_name ∷ [])) all_ranges
range_get_grants Opal =
    map (λ n. grant Locking (range_uid n) get
    (ace_range_get n ∷ ace_anybody_get_common_name ∷ [])) all_ranges

unfoldable pub range_set_grants : Profile → List Grant
range_set_grants profile =
    grant Locking global_range set
    (ace_locking_global_range_admins_set ∷ ace_range_set_read_locked 0
    ∷ ace_range_set_write_locked 0 ∷ namers profile ace_admins_set_common_name)
    ∷ map (λ n. grant Locking (range_uid n) set
    (ace_locking_admins_set ∷ ace_range_set_read_locked n ∷ ace_range_set_write_locked n
    ∷ namers profile ace_admins_set_common_name)) numbered_ranges

-- the shadow MBR
unfoldable pub mbr_grants : List Grant
mbr_grants =
    grant Locking mbr_control get (ace_anybody ∷ [])
    ∷ grant Locking mbr_control set
    (ace_mbr_control_admins_set ∷ ace_mbr_control_set_done_to_dor ∷ [])
    ∷ grant Locking mbr_table get (ace_anybody ∷ [])
    ∷ grant Locking mbr_table set (ace_admins ∷ [])
    ∷ []

-- what the drive says of itself
unfoldable pub info_grants : List Grant
info_grants = grants Locking (locking_info ∷ mbr_table_row ∷ datastore_table_row ∷ []) get
    (ace_anybody ∷ [])

-- the bytes of DataStore, and their ACEs
unfoldable pub datastore_grants : Profile → List Grant
datastore_grants profile =
    grant Locking datastore_table get (ace_datastore_get_all ∷ [])
    ∷ grant Locking datastore_table set (ace_datastore_set_all ∷ [])
    ∷ settable profile (ace_datastore_get_all ∷ ace_datastore_set_all ∷ [])

-- its keys, and the SP itself (Opal SSC 2.01, sections 4.3 and 5.1)
unfoldable pub key_grants : List Grant
key_grants =
    map (λ n. grant Locking (key_uid n) gen_key (ace_key_gen_key n ∷ [])) all_ranges
    ++ grant Locking this_sp revert_sp (ace_admins ∷ []) ∷ []

-- the first Admin's name, and the ACEs on names and on reading (Opal SSC 2.01, sections 4.3.1.5 and 4.3.1.6)
unfoldable pub name_grants : List Grant
name_grants =
    grants Locking (ace_admins_set_common_name ∷ ace_ace_get_all ∷ ace_authority_get_all
    ∷ ace_key_mode ∷ []) get (ace_getters Opal)
    ++ settable Opal (map ace_user_set_common_name users)
    ++ grant Locking (admin_uid 1) set (namers Opal ace_admins_set_common_name) ∷ []

-- the mode of its keys, and how they are protected (Opal SSC 2.01, sections 4.3.1.9 and 4.3.5.5)
unfoldable pub mode_grants : List Grant
mode_grants =
    grants Locking (map key_uid all_ranges) get (ace_key_mode ∷ [])
    ++ grant Locking secret_protect_key get (ace_anybody ∷ []) ∷ []

-- the Locking SP
abbrev pub locking_grants : Profile → List Grant
locking_grants profile = authority_grants profile ++ fixed_ace_gets profile
    ++ user_ace_grants profile ++ range_get_ace_grants profile ++ read_locked_ace_grants profile
    ++ write_locked_ace_grants profile ++ done_ace_grants profile ++ pin_grants
    ++ range_get_grants profile ++ range_set_grants profile ++ mbr_grants
    ++ of_field profile (gen_key_ace_grants profile ++ info_grants ++ datastore_grants profile
    ++ key_grants)
    ++ of_opal profile (sp_grants Locking ++ name_grants ++ mode_grants)

-- the whole list
abbrev pub access_list : Profile → List Grant
access_list profile = this_sp_grants ++ admin_grants profile ++ locking_grants profile

-- the ACL that a list has for a method of an object
abbrev pub acl_in : List Grant → Sp → Uid → Uid → Option (List Uid)
acl_in [] sp object method = None
acl_in (g ∷ gs) sp object method =
    if sp_eq g.sp sp && (g.object.0 == object.0) && (g.method.0 == method.0) then Some g.acl else
    acl_in gs sp object method

-- the answer is what these grants have
abbrev pub IsAnsweredByGrants : List Grant → Sp → Uid → Uid → Option (ArrayVec Uid) → Type 0
IsAnsweredByGrants gs sp object method result = option_map (λ v. v.items) result
    ≡ acl_in gs sp object method

-- how many lines these grants have for an SP
abbrev pub line_count : Sp → List Grant → ℕ
line_count sp [] = 0
line_count sp (g ∷ gs) = if sp_eq g.sp sp then 1 + line_count sp gs else line_count sp gs

-- no two are for one method of one object of one SP
abbrev pub lines_differ : List Grant → Bool
lines_differ [] = true
lines_differ (g ∷ gs) = is_none (acl_in gs g.sp g.object g.method) && lines_differ gs

-- each has from one to four ACEs
abbrev pub have_room : List Grant → Bool
have_room [] = true
have_room (g ∷ gs) = nat_le 1 (length g.acl) && nat_le (length g.acl) 4 && have_room gs
