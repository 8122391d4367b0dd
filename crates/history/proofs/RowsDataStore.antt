-- The bytes of DataStore, and how the drive removes data, under the field profile: what calls come to, were they granted.
use Rattle.std.proofs.Common.{◌≡◌, ℕ, true, false, Bool, List, [], ◌∷◌, ◌++◌, reverse, replicate, Option, Some, None, refl}
use Rattle.basics.specs.declared.profile.Profile.TheVariants.{Base, Field}
use Rattle.sp_cells.specs.Config.{Config, field_config, stored_config}
use Rattle.sp_cells.specs.declared.names.Uid.{Uid}
use Rattle.sp_cells.specs.declared.names.Sp.{Sp}
use Rattle.sp_cells.specs.declared.names.Sp.TheVariants.{Admin, Locking}
use Rattle.sp_cells.specs.declared.cells.Cell.TheVariants.{Number}
use Rattle.sp_cells.specs.ColumnNames.{active_data_removal_mechanism_column}
use Rattle.sp_cells.specs.Names.{this_sp, locking_sp, admin_uid, mbr_table, datastore_table, data_removal, get, set, revert_sp}
use Rattle.tcg_tokens.specs.Message.{Message, begin, end}
use Rattle.tcg_tokens.specs.Tree.{Tree, trees_of}
use Rattle.tcg_calls.specs.declared.call_shapes.ask.Ask.{Ask}
use Rattle.tcg_calls.specs.declared.call_shapes.ask.Ask.TheVariants.{GetCells, GetBytes, SetCells, SetBytes}
use Rattle.methods.specs.Judgement.{Judgement, Refuses, Gives, Makes, asked, does}
use Rattle.sessions.specs.Deeds.{Begun, cells_set, bytes_set}
use Rattle.history.specs.Opening.{Origin, activated_origin}
use Rattle.history.specs.Facts.{facts, standing}
use Rattle.history.specs.History.{Act, log}
use Rattle.history.proofs.Scripts.{msid, start_as, tell, in_it, call_of}
use Rattle.sp_cells.specs.Authorities.{authorities_of_locking}
use Rattle.sp_tables.specs.Faults.{any_to}
use Rattle.sp_tables.specs.Factory.{label_authorities, opal_authorities, opal_pins, opal_admin_aces, admin_constants, label_pins, label_aces, removal_aces, data_removals, datastore_aces, gen_key_aces, opal_locking_aces, locking_constants, range_keys, locking_infos, byte_tables, admin_sps, admin_authorities, locking_authorities, admin_pins, locking_pins, locking_ranges, locking_mbr_controls, admin_aces, authority_aces, pin_aces, range_get_aces, range_aces, mbr_aces}
use Rattle.ace_eval.specs.Access.{label_grants, removal_grants, datastore_grants, gen_key_ace_grants, info_grants, key_grants, this_sp_grants, owner_grants, authority_grants, fixed_ace_gets, user_ace_grants, read_locked_ace_grants, write_locked_ace_grants, done_ace_grants, pin_grants, range_get_ace_grants, range_get_grants, range_set_grants, mbr_grants}
use Rattle.locking.specs.Ranges.{ranges_in}
use Rattle.locking.specs.Verdict.{verdict_of}
use Rattle.shadow_mbr.specs.Stored.{zeros, sectors_from}
use Rattle.tcg_tokens.specs.Lex.{first_lexeme}
use Rattle.tcg_tokens.specs.Reading.{expect, number_at, uid_at, values_up_to, list_with, list_value_with, named_with, value_after_token, list_at, status_at, call_at, reply_at, message_at, reading as message_in}
use Rattle.tcg_tokens.specs.Spelling.{number_spelling, bytes_spelling}
use Rattle.tcg_tokens.specs.Tree as tree
use Rattle.transactions.specs.Resets.{is_range}
use Rattle.methods.specs.Listed.{listed_among}
use Rattle.methods.specs.Settings.{cells_for}
use Rattle.history.specs.Decisions.{any_below}
use Rattle.audit.specs.declared.rules.rule.Rule.TheVariants.{OutsideTable, WrongValue}
use Rattle.sp_cells.specs.declared.error.SetError.TheVariants.{WrongType}

-- A drive with a shadow of 8 sectors, and so many bytes of DataStore.
drive_of : ℕ → Origin
drive_of bytes = activated_origin (stored_config (field_config 1000 8 msid) bytes)

session : Sp → Begun
session sp = record { number = 0x1000; host = 1; com_id = 0x1000; sp = sp; authorities = [] }

-- What a call comes to after some acts, were it granted.
comes_to : Origin → Sp → List Act → Uid → Ask → Judgement
comes_to o sp acts object ask =
    does (standing (facts o (log o (reverse acts))) (session sp)) object ask

pairs : Uid → ℕ → List ℕ → Message
pairs object row content = call_of object set (tree.named (tree.number 0) (tree.number row) ∷ tree.named (tree.number 1) (tree.bytes content) ∷ [])

signed_in : List Act
signed_in = tell 0x1000 0 0 (start_as locking_sp (admin_uid 1) msid)

writes : List Act
writes = signed_in ++ in_it (pairs datastore_table 16 (0xde ∷ 0xad ∷ []))

-- The same in a transaction that ends with this status.
within : ℕ → List Act
within status =
    signed_in ++ in_it (begin 0) ++ in_it (pairs datastore_table 0 (0xaa ∷ [])) ++ in_it (end status)

-- A Set of how the drive removes data.
removal : ℕ → Judgement
removal mechanism = comes_to (drive_of 0) Admin [] data_removal (SetCells ((1, tree.number mechanism) ∷ []))

-- Its bytes stand behind those of the shadow, which has 4096, and end with its own.
row_set : (comes_to (drive_of 4096) Locking [] datastore_table (SetBytes 16 (0xde ∷ [])) ≡ Makes (bytes_set 4112 (0xde ∷ []))) × (comes_to (drive_of 4096) Locking [] datastore_table (SetBytes 4095 (1 ∷ [])) ≡ Makes (bytes_set 8191 (1 ∷ [])))
unfolding label_authorities opal_authorities opal_pins opal_admin_aces admin_constants label_pins label_aces removal_aces data_removals datastore_aces gen_key_aces opal_locking_aces locking_constants range_keys locking_infos byte_tables label_grants removal_grants datastore_grants gen_key_ace_grants info_grants key_grants admin_sps admin_authorities locking_authorities admin_pins locking_pins locking_ranges locking_mbr_controls admin_aces authority_aces pin_aces range_get_aces range_aces mbr_aces this_sp_grants owner_grants authority_grants fixed_ace_gets user_ace_grants read_locked_ace_grants write_locked_ace_grants done_ace_grants pin_grants range_get_ace_grants range_get_grants range_set_grants mbr_grants first_lexeme expect number_at uid_at values_up_to list_with list_value_with named_with value_after_token list_at status_at call_at reply_at message_at message_in number_spelling bytes_spelling any_below ranges_in verdict_of is_range listed_among cells_for zeros sectors_from authorities_of_locking any_to drive_of session comes_to pairs signed_in writes within removal
row_set = (refl, refl)

row_set_past : (comes_to (drive_of 4096) Locking [] datastore_table (SetBytes 4095 (1 ∷ 2 ∷ [])) ≡ Refuses 0x0c WrongValue) × (comes_to (drive_of 10) Locking [] datastore_table (SetBytes 10 (1 ∷ [])) ≡ Refuses 0x0c WrongValue)
unfolding label_authorities opal_authorities opal_pins opal_admin_aces admin_constants label_pins label_aces removal_aces data_removals datastore_aces gen_key_aces opal_locking_aces locking_constants range_keys locking_infos byte_tables label_grants removal_grants datastore_grants gen_key_ace_grants info_grants key_grants admin_sps admin_authorities locking_authorities admin_pins locking_pins locking_ranges locking_mbr_controls admin_aces authority_aces pin_aces range_get_aces range_aces mbr_aces this_sp_grants owner_grants authority_grants fixed_ace_gets user_ace_grants read_locked_ace_grants write_locked_ace_grants done_ace_grants pin_grants range_get_ace_grants range_get_grants range_set_grants mbr_grants first_lexeme expect number_at uid_at values_up_to list_with list_value_with named_with value_after_token list_at status_at call_at reply_at message_at message_in number_spelling bytes_spelling any_below ranges_in verdict_of is_range listed_among cells_for zeros sectors_from authorities_of_locking any_to drive_of session comes_to pairs signed_in writes within removal
row_set_past = (refl, refl)

-- The shadow's are where they were, and none of them is one of DataStore.
row_shadow : (comes_to (drive_of 4096) Locking [] mbr_table (SetBytes 4095 (1 ∷ [])) ≡ Makes (bytes_set 4095 (1 ∷ []))) × (comes_to (drive_of 4096) Locking [] mbr_table (SetBytes 4096 (1 ∷ [])) ≡ Refuses 0x0c WrongValue)
unfolding label_authorities opal_authorities opal_pins opal_admin_aces admin_constants label_pins label_aces removal_aces data_removals datastore_aces gen_key_aces opal_locking_aces locking_constants range_keys locking_infos byte_tables label_grants removal_grants datastore_grants gen_key_ace_grants info_grants key_grants admin_sps admin_authorities locking_authorities admin_pins locking_pins locking_ranges locking_mbr_controls admin_aces authority_aces pin_aces range_get_aces range_aces mbr_aces this_sp_grants owner_grants authority_grants fixed_ace_gets user_ace_grants read_locked_ace_grants write_locked_ace_grants done_ace_grants pin_grants range_get_ace_grants range_get_grants range_set_grants mbr_grants first_lexeme expect number_at uid_at values_up_to list_with list_value_with named_with value_after_token list_at status_at call_at reply_at message_at message_in number_spelling bytes_spelling any_below ranges_in verdict_of is_range listed_among cells_for zeros sectors_from authorities_of_locking any_to drive_of session comes_to pairs signed_in writes within removal
row_shadow = (refl, refl)

-- What is written is read, and no byte of the shadow is another.
row_read : (comes_to (drive_of 4096) Locking writes datastore_table (GetBytes 15 (Some 18)) ≡ Gives (tree.bytes (0 ∷ 0xde ∷ 0xad ∷ 0 ∷ []) ∷ [])) × (comes_to (drive_of 4096) Locking writes mbr_table (GetBytes 15 (Some 18)) ≡ Gives (tree.bytes (replicate 4 0) ∷ []))
unfolding label_authorities opal_authorities opal_pins opal_admin_aces admin_constants label_pins label_aces removal_aces data_removals datastore_aces gen_key_aces opal_locking_aces locking_constants range_keys locking_infos byte_tables label_grants removal_grants datastore_grants gen_key_ace_grants info_grants key_grants admin_sps admin_authorities locking_authorities admin_pins locking_pins locking_ranges locking_mbr_controls admin_aces authority_aces pin_aces range_get_aces range_aces mbr_aces this_sp_grants owner_grants authority_grants fixed_ace_gets user_ace_grants read_locked_ace_grants write_locked_ace_grants done_ace_grants pin_grants range_get_ace_grants range_get_grants range_set_grants mbr_grants first_lexeme expect number_at uid_at values_up_to list_with list_value_with named_with value_after_token list_at status_at call_at reply_at message_at message_in number_spelling bytes_spelling any_below ranges_in verdict_of is_range listed_among cells_for zeros sectors_from authorities_of_locking any_to drive_of session comes_to pairs signed_in writes within removal
row_read = (refl, refl)

row_read_past : (comes_to (drive_of 10) Locking [] datastore_table (GetBytes 9 (Some 10)) ≡ Refuses 0x0c OutsideTable) × (comes_to (drive_of 10) Locking [] datastore_table (GetBytes 8 None) ≡ Gives (tree.bytes (0 ∷ 0 ∷ []) ∷ []))
unfolding label_authorities opal_authorities opal_pins opal_admin_aces admin_constants label_pins label_aces removal_aces data_removals datastore_aces gen_key_aces opal_locking_aces locking_constants range_keys locking_infos byte_tables label_grants removal_grants datastore_grants gen_key_ace_grants info_grants key_grants admin_sps admin_authorities locking_authorities admin_pins locking_pins locking_ranges locking_mbr_controls admin_aces authority_aces pin_aces range_get_aces range_aces mbr_aces this_sp_grants owner_grants authority_grants fixed_ace_gets user_ace_grants read_locked_ace_grants write_locked_ace_grants done_ace_grants pin_grants range_get_ace_grants range_get_grants range_set_grants mbr_grants first_lexeme expect number_at uid_at values_up_to list_with list_value_with named_with value_after_token list_at status_at call_at reply_at message_at message_in number_spelling bytes_spelling any_below ranges_in verdict_of is_range listed_among cells_for zeros sectors_from authorities_of_locking any_to drive_of session comes_to pairs signed_in writes within removal
row_read_past = (refl, refl)

-- One of no bytes has none to read and none to write.
row_none : (comes_to (drive_of 0) Locking [] datastore_table (GetBytes 0 None) ≡ Refuses 0x0c OutsideTable) × (comes_to (drive_of 0) Locking [] datastore_table (SetBytes 0 (1 ∷ [])) ≡ Refuses 0x0c WrongValue)
unfolding label_authorities opal_authorities opal_pins opal_admin_aces admin_constants label_pins label_aces removal_aces data_removals datastore_aces gen_key_aces opal_locking_aces locking_constants range_keys locking_infos byte_tables label_grants removal_grants datastore_grants gen_key_ace_grants info_grants key_grants admin_sps admin_authorities locking_authorities admin_pins locking_pins locking_ranges locking_mbr_controls admin_aces authority_aces pin_aces range_get_aces range_aces mbr_aces this_sp_grants owner_grants authority_grants fixed_ace_gets user_ace_grants read_locked_ace_grants write_locked_ace_grants done_ace_grants pin_grants range_get_ace_grants range_get_grants range_set_grants mbr_grants first_lexeme expect number_at uid_at values_up_to list_with list_value_with named_with value_after_token list_at status_at call_at reply_at message_at message_in number_spelling bytes_spelling any_below ranges_in verdict_of is_range listed_among cells_for zeros sectors_from authorities_of_locking any_to drive_of session comes_to pairs signed_in writes within removal
row_none = (refl, refl)

-- A transaction that is aborted leaves none of its bytes, one that is committed leaves them, and a RevertSP leaves zeros.
row_transactions : (comes_to (drive_of 10) Locking (within 1) datastore_table (GetBytes 0 (Some 0)) ≡ Gives (tree.bytes (0 ∷ []) ∷ [])) × (comes_to (drive_of 10) Locking (within 0) datastore_table (GetBytes 0 (Some 0)) ≡ Gives (tree.bytes (0xaa ∷ []) ∷ []))
unfolding label_authorities opal_authorities opal_pins opal_admin_aces admin_constants label_pins label_aces removal_aces data_removals datastore_aces gen_key_aces opal_locking_aces locking_constants range_keys locking_infos byte_tables label_grants removal_grants datastore_grants gen_key_ace_grants info_grants key_grants admin_sps admin_authorities locking_authorities admin_pins locking_pins locking_ranges locking_mbr_controls admin_aces authority_aces pin_aces range_get_aces range_aces mbr_aces this_sp_grants owner_grants authority_grants fixed_ace_gets user_ace_grants read_locked_ace_grants write_locked_ace_grants done_ace_grants pin_grants range_get_ace_grants range_get_grants range_set_grants mbr_grants first_lexeme expect number_at uid_at values_up_to list_with list_value_with named_with value_after_token list_at status_at call_at reply_at message_at message_in number_spelling bytes_spelling any_below ranges_in verdict_of is_range listed_among cells_for zeros sectors_from authorities_of_locking any_to drive_of session comes_to pairs signed_in writes within removal
row_transactions = (refl, refl)

row_reverted : comes_to (drive_of 4096) Locking (writes ++ in_it (call_of this_sp revert_sp [])) datastore_table (GetBytes 16 (Some 17)) ≡ Gives (tree.bytes (0 ∷ 0 ∷ []) ∷ [])
unfolding label_authorities opal_authorities opal_pins opal_admin_aces admin_constants label_pins label_aces removal_aces data_removals datastore_aces gen_key_aces opal_locking_aces locking_constants range_keys locking_infos byte_tables label_grants removal_grants datastore_grants gen_key_ace_grants info_grants key_grants admin_sps admin_authorities locking_authorities admin_pins locking_pins locking_ranges locking_mbr_controls admin_aces authority_aces pin_aces range_get_aces range_aces mbr_aces this_sp_grants owner_grants authority_grants fixed_ace_gets user_ace_grants read_locked_ace_grants write_locked_ace_grants done_ace_grants pin_grants range_get_ace_grants range_get_grants range_set_grants mbr_grants first_lexeme expect number_at uid_at values_up_to list_with list_value_with named_with value_after_token list_at status_at call_at reply_at message_at message_in number_spelling bytes_spelling any_below ranges_in verdict_of is_range listed_among cells_for zeros sectors_from authorities_of_locking any_to drive_of session comes_to pairs signed_in writes within removal
row_reverted = refl

-- The shapes: rows, where the profile has the table; of base it is an object like any other.
rows : ℕ → ℕ → List Tree
rows first last = tree.list (trees_of (tree.named (tree.number 1) (tree.number first) ∷ tree.named (tree.number 2) (tree.number last) ∷ [])) ∷ []

row_shapes : (asked Field Locking datastore_table get (trees_of (rows 3 4)) ≡ Some (GetBytes 3 (Some 4))) × (asked Base Locking datastore_table get (trees_of (rows 3 4)) ≡ None) × (asked Field Admin datastore_table get (trees_of (rows 3 4)) ≡ None)
unfolding rows
row_shapes = (refl, refl, refl)

-- Data are removed in the one way that the drive has, and a Set takes that alone.
row_removal : (removal 2 ≡ Makes (cells_set data_removal ((active_data_removal_mechanism_column, Number 2) ∷ []))) × (removal 1 ≡ Refuses 0x0c WrongValue)
unfolding label_authorities opal_authorities opal_pins opal_admin_aces admin_constants label_pins label_aces removal_aces data_removals datastore_aces gen_key_aces opal_locking_aces locking_constants range_keys locking_infos byte_tables label_grants removal_grants datastore_grants gen_key_ace_grants info_grants key_grants admin_sps admin_authorities locking_authorities admin_pins locking_pins locking_ranges locking_mbr_controls admin_aces authority_aces pin_aces range_get_aces range_aces mbr_aces this_sp_grants owner_grants authority_grants fixed_ace_gets user_ace_grants read_locked_ace_grants write_locked_ace_grants done_ace_grants pin_grants range_get_ace_grants range_get_grants range_set_grants mbr_grants first_lexeme expect number_at uid_at values_up_to list_with list_value_with named_with value_after_token list_at status_at call_at reply_at message_at message_in number_spelling bytes_spelling any_below ranges_in verdict_of is_range listed_among cells_for zeros sectors_from authorities_of_locking any_to drive_of session comes_to pairs signed_in writes within removal
row_removal = (refl, refl)
