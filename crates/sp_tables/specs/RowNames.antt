-- The names of the rows of a table of a new drive of the profile `Opal`, rising, for each table whose rows the method Next
-- tells (Opal SSC 2.01, sections 4.2 and 4.3; Core 2.01, section 5.3.3.8).
use Rattle.std.specs.Prelude.{◌==◌, ◌+◌, ◌&&◌, ◌||◌, not, nat_lt, ℕ, zero, suc, Bool, true, List, [], ◌∷◌, ◌++◌, map, is_some, IsTrue, if◌then◌else◌}
use Rattle.std.specs.List.{list_all, list_any}
use Rattle.sp_cells.specs.declared.names.TheConstants.{RANGES, USERS, ADMINS}
use Rattle.sp_cells.specs.declared.names.Uid.{Uid}
use Rattle.sp_cells.specs.declared.names.Sp.{Sp}
use Rattle.sp_cells.specs.declared.names.Sp.TheVariants.{Admin, Locking}
use Rattle.sp_cells.specs.Names.{table_of, table_row, sp_template_base, sp_template_own, template_base, template_admin, template_locking, admin_sp, locking_sp, mbr_table_row, datastore_table_row, secret_protect_key}
use Rattle.sp_cells.specs.Names.{table_table, sp_info_table, sp_templates_table, method_id_table, access_control_table, ace_table, authority_table, c_pin_table, secret_protect_table, tper_info_table, template_table, sp_table, data_removal_table, locking_info_table, locking_table, mbr_control_table, key_table}
use Rattle.sp_cells.specs.Names.{next, get_acl, get, set, authenticate, revert, activate, random, gen_key, revert_sp}
use Rattle.sp_cells.specs.Names.{anybody, admins_class, makers_class, sid, admin_sp_admin, psid, admin_uid, users_class, user_uid, c_pin_sid, c_pin_admin_sp_admin, c_pin_msid, c_pin_psid, admin_pin_uid, user_pin_uid, range_uid, key_uid}
use Rattle.sp_cells.specs.Names.{ace_anybody, ace_admins, ace_anybody_get_common_name, ace_admins_set_common_name, ace_c_pin_sid_get_nopin, ace_c_pin_sid_set_pin, ace_c_pin_msid_get_pin, ace_c_pin_get_psid_nopin, ace_sp_psid, ace_set_enabled, ace_sp_sid, ace_tper_info_set_programmatic_reset_enable, ace_c_pin_admins_set_pin, ace_data_removal_set_active, ace_ace_get_all, ace_ace_set_boolean_expression, ace_authority_get_all, ace_authority_set_enabled, ace_c_pin_admins_get_all_nopin, ace_c_pin_user_set_pin, ace_key_gen_key, ace_key_mode, ace_range_get, ace_range_set_read_locked, ace_range_set_write_locked, ace_locking_global_range_admins_set, ace_locking_admins_set, ace_mbr_control_admins_set, ace_mbr_control_set_done_to_dor, ace_datastore_get_all, ace_datastore_set_all, ace_user_set_common_name}
use Rattle.sp_cells.specs.ColumnNames.{uid_column}
use Rattle.sp_tables.specs.declared.row_names.Family.{Family}
use Rattle.sp_tables.specs.declared.row_names.Family.TheVariants as families
use Rattle.sp_tables.specs.declared.row_names.Names.{Names}
use Rattle.sp_tables.specs.declared.row_names.Names.TheVariants.{One, OfAdmins, OfUsers, OfRanges}
use Rattle.sp_tables.specs.declared.row_names.TableRows.{TableRows}
use Rattle.sp_tables.specs.Items.{Item, item_at}
use Rattle.std.specs.List.{flat_map}

-- the names of so many rows of a family, from this number on
abbrev pub numbered_uids : (ℕ → Uid) → ℕ → ℕ → List Uid
numbered_uids name first zero = []
numbered_uids name first (suc n) = name first ∷ numbered_uids name (suc first) n

-- one for each Admin, and for each User, and for each range, the global one first
abbrev pub of_each_admin : (ℕ → Uid) → List Uid
of_each_admin name = numbered_uids name 1 ADMINS

abbrev pub of_each_user : (ℕ → Uid) → List Uid
of_each_user name = numbered_uids name 1 USERS

abbrev pub of_each_range : (ℕ → Uid) → List Uid
of_each_range name = numbered_uids name 0 (RANGES + 1)

abbrev pub admin_ace_names : List Uid
admin_ace_names =
    ace_anybody
    ∷ ace_admins
    ∷ ace_c_pin_sid_get_nopin
    ∷ ace_c_pin_sid_set_pin
    ∷ ace_c_pin_msid_get_pin
    ∷ ace_c_pin_get_psid_nopin
    ∷ ace_sp_psid
    ∷ ace_set_enabled
    ∷ ace_sp_sid
    ∷ ace_tper_info_set_programmatic_reset_enable
    ∷ ace_c_pin_admins_set_pin
    ∷ ace_data_removal_set_active
    ∷ []

abbrev pub locking_ace_names : List Uid
locking_ace_names =
    (ace_anybody
    ∷ ace_admins
    ∷ ace_anybody_get_common_name
    ∷ ace_admins_set_common_name
    ∷ ace_ace_get_all
    ∷ ace_ace_set_boolean_expression
    ∷ ace_authority_get_all
    ∷ ace_authority_set_enabled
    ∷ ace_c_pin_admins_get_all_nopin
    ∷ ace_c_pin_admins_set_pin
    ∷ [])
    ++ (of_each_user ace_c_pin_user_set_pin
    ++ (of_each_range ace_key_gen_key
    ++ ((ace_key_mode ∷ [])
    ++ (of_each_range ace_range_get
    ++ (of_each_range ace_range_set_read_locked
    ++ (of_each_range ace_range_set_write_locked
    ++ ((ace_locking_global_range_admins_set
    ∷ ace_locking_admins_set
    ∷ ace_mbr_control_admins_set
    ∷ ace_mbr_control_set_done_to_dor
    ∷ ace_datastore_get_all
    ∷ ace_datastore_set_all
    ∷ [])
    ++ of_each_user ace_user_set_common_name)))))))

-- the tables of an SP that have Next, each with the names of its rows
unfoldable pub listed_tables : Sp → List (ℕ × List Uid)
listed_tables Admin = (
  table_table,
  map table_row
      (table_table
      ∷ sp_info_table
      ∷ sp_templates_table
      ∷ method_id_table
      ∷ access_control_table
      ∷ ace_table
      ∷ authority_table
      ∷ c_pin_table
      ∷ tper_info_table
      ∷ template_table
      ∷ sp_table
      ∷ data_removal_table
      ∷ []),
)
    ∷ (sp_templates_table, sp_template_base ∷ sp_template_own ∷ [])
    ∷ (
      method_id_table,
      next ∷ get_acl ∷ get ∷ set ∷ authenticate ∷ revert ∷ activate ∷ random ∷ [],
    )
    ∷ (ace_table, admin_ace_names)
    ∷ (
      authority_table,
      anybody ∷ admins_class ∷ makers_class ∷ sid ∷ admin_sp_admin ∷ psid ∷ [],
    )
    ∷ (c_pin_table, c_pin_sid ∷ c_pin_admin_sp_admin ∷ c_pin_msid ∷ c_pin_psid ∷ [])
    ∷ (template_table, template_base ∷ template_admin ∷ template_locking ∷ [])
    ∷ (sp_table, admin_sp ∷ locking_sp ∷ [])
    ∷ []
listed_tables Locking = (
  table_table,
  map table_row
      (table_table
      ∷ sp_info_table
      ∷ sp_templates_table
      ∷ method_id_table
      ∷ access_control_table
      ∷ ace_table
      ∷ authority_table
      ∷ c_pin_table
      ∷ secret_protect_table
      ∷ locking_info_table
      ∷ locking_table
      ∷ mbr_control_table
      ∷ [])
      ++ (mbr_table_row ∷ table_row key_table ∷ datastore_table_row ∷ []),
)
    ∷ (sp_templates_table, sp_template_base ∷ sp_template_own ∷ [])
    ∷ (
      method_id_table,
      next ∷ get_acl ∷ gen_key ∷ revert_sp ∷ get ∷ set ∷ authenticate ∷ random ∷ [],
    )
    ∷ (ace_table, locking_ace_names)
    ∷ (
      authority_table,
      (anybody ∷ admins_class ∷ []) ++ (of_each_admin admin_uid
          ++ ((users_class ∷ []) ++ of_each_user user_uid)),
    )
    ∷ (c_pin_table, of_each_admin admin_pin_uid ++ of_each_user user_pin_uid)
    ∷ (secret_protect_table, secret_protect_key ∷ [])
    ∷ (locking_table, of_each_range range_uid)
    ∷ (key_table, of_each_range key_uid)
    ∷ []

-- the rows of the table of this number; none where it is not among these
abbrev pub rows_among : List (ℕ × List Uid) → ℕ → List Uid
rows_among [] table = []
rows_among (t ∷ ts) table = if t.0 == table then t.1 else rows_among ts table

-- the names of the rows of a table of an SP
abbrev pub rows_of_table : Sp → ℕ → List Uid
rows_of_table sp table = rows_among (listed_tables sp) table

-- each name is smaller than the next
abbrev pub uids_rise : List Uid → Bool
uids_rise [] = true
uids_rise (o ∷ []) = true
uids_rise (o ∷ (p ∷ os)) = nat_lt o.0 p.0 && uids_rise (p ∷ os)

-- each of these rows has a cell of its name, and each of these cells of the table is of one of them
abbrev pub have_names : List Item → List Uid → Bool
have_names items rows = list_all (λ o. is_some (item_at items o uid_column)) rows

abbrev pub are_of_rows : List Item → ℕ → List Uid → Bool
are_of_rows items table rows =
    list_all (λ i. not (table_of i.object == table) || list_any (λ o. o.0 == i.object.0) rows) items

-- these names are those of the rows of a table, rising
pub record AreRows (items : List Item) (table : ℕ) (rows : List Uid) : Type 0 where
  pub there : IsTrue (have_names items rows)
  pub only : IsTrue (are_of_rows items table rows)
  pub rising : IsTrue (uids_rise rows)

-- what the entries of a table of the code stand for
abbrev pub family_name : Family → ℕ → Uid
family_name families.Admins n = admin_uid n
family_name families.Users n = user_uid n
family_name families.AdminPins n = admin_pin_uid n
family_name families.UserPins n = user_pin_uid n
family_name families.Ranges n = range_uid n
family_name families.Keys n = key_uid n
family_name families.UserPinAces n = ace_c_pin_user_set_pin n
family_name families.UserNameAces n = ace_user_set_common_name n
family_name families.RangeGetAces n = ace_range_get n
family_name families.ReadLockedAces n = ace_range_set_read_locked n
family_name families.WriteLockedAces n = ace_range_set_write_locked n
family_name families.GenKeyAces n = ace_key_gen_key n

abbrev pub uids_in : Names → List Uid
uids_in (One object) = object ∷ []
uids_in (OfAdmins f) = of_each_admin (family_name f)
uids_in (OfUsers f) = of_each_user (family_name f)
uids_in (OfRanges f) = of_each_range (family_name f)

abbrev pub listed_table : TableRows → ℕ × List Uid
listed_table t = (t.table, flat_map uids_in t.rows.now)
