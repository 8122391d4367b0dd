-- What GenKey and RevertSP erase, and when they do not, under the field profile: their judgement and what comes of it, for
-- a session of the Locking SP to which they are granted.
use Rattle.std.proofs.Common.{◌≡◌, ℕ, true, false, Bool, List, [], ◌∷◌, ◌++◌, reverse, replicate, Option, Some, None, refl}
use Rattle.basics.specs.declared.profile.Profile.TheVariants.{Base, Field}
use Rattle.sp_cells.specs.Config.{Config}
use Rattle.sp_cells.specs.declared.names.Uid.{Uid}
use Rattle.sp_cells.specs.declared.names.Sp.TheVariants.{Locking}
use Rattle.sp_cells.specs.Names.{this_sp, locking_sp, range_uid, key_uid, admin_uid, gen_key, revert_sp}
use Rattle.sp_cells.specs.Authorities.{authorities_of_locking}
use Rattle.sp_tables.specs.Faults.{any_to}
use Rattle.sp_tables.specs.Factory.{label_authorities, opal_authorities, opal_pins, opal_admin_aces, admin_constants, label_pins, label_aces, removal_aces, data_removals, datastore_aces, gen_key_aces, opal_locking_aces, locking_constants, range_keys, locking_infos, byte_tables, admin_sps, admin_authorities, locking_authorities, admin_pins, locking_pins, locking_ranges, locking_mbr_controls, admin_aces, authority_aces, pin_aces, range_get_aces, range_aces, mbr_aces}
use Rattle.ace_eval.specs.Access.{label_grants, removal_grants, datastore_grants, gen_key_ace_grants, info_grants, key_grants, this_sp_grants, owner_grants, authority_grants, fixed_ace_gets, user_ace_grants, read_locked_ace_grants, write_locked_ace_grants, done_ace_grants, pin_grants, range_get_ace_grants, range_get_grants, range_set_grants, mbr_grants}
use Rattle.locking.specs.Ranges.{ranges_in}
use Rattle.locking.specs.Verdict.{verdict_of}
use Rattle.shadow_mbr.specs.Stored.{zeros, sectors_from}
use Rattle.tcg_tokens.specs.Lex.{first_lexeme}
use Rattle.tcg_tokens.specs.Reading.{expect, number_at, uid_at, values_up_to, list_with, list_value_with, named_with, value_after_token, list_at, status_at, call_at, reply_at, message_at, reading as message_in}
use Rattle.tcg_tokens.specs.Spelling.{number_spelling, bytes_spelling}
use Rattle.tcg_tokens.specs.Message.{Message, begin}
use Rattle.tcg_tokens.specs.Tree.{Tree, trees_of}
use Rattle.tcg_tokens.specs.Tree as tree
use Rattle.transactions.specs.Resets.{is_range}
use Rattle.tcg_calls.specs.declared.call_shapes.ask.Ask.{Ask}
use Rattle.tcg_calls.specs.declared.call_shapes.ask.Ask.TheVariants.{GenKey, RevertSp, Other}
use Rattle.methods.specs.Listed.{listed_among}
use Rattle.methods.specs.Settings.{cells_for}
use Rattle.methods.specs.Erasures.{numbered_runs}
use Rattle.methods.specs.Said.{refusal_of}
use Rattle.methods.specs.Judgement.{asked, does}
use Rattle.methods.specs.Calls.{outcome_of}
use Rattle.sessions.specs.Deeds.{Begun, Outcome, Unchanged, says, refuses as refuses_item}
use Rattle.history.specs.Opening.{Origin, activated_origin, with_range}
use Rattle.history.specs.Events.{Event}
use Rattle.history.specs.Readers.{sector}
use Rattle.history.specs.Facts.{facts, standing}
use Rattle.history.specs.Decisions.{any_below}
use Rattle.history.specs.Tcg.{answers}
use Rattle.history.specs.History.{Act, log}
use Rattle.history.proofs.Scripts.{msid, config, range_row, dwrite, start_as, tell, in_it, set_cells}
use Rattle.audit.specs.declared.rules.rule.Rule.TheVariants.{InTransaction, GlobalLocked}

field : Origin
field = activated_origin (record config { profile = Field })

-- Range 1 is sectors 100 to 109.
ranged : Origin
ranged = with_range (range_row 1 100 10 false false false false) field

session : Begun
session = record { number = 0x1000; host = 1; com_id = 0x1000; sp = Locking; authorities = [] }

-- What a call comes to after some acts, were it granted.
comes_to : Origin → List Act → Uid → Ask → Outcome
comes_to o acts object ask =
    outcome_of (facts o (log o (reverse acts))).rows Locking (does (standing (facts o (log o (reverse acts))) session) object ask)

-- What a sector holds then.
after : Origin → List Act → Uid → Ask → ℕ → List ℕ
after o acts object ask place =
    sector (answers 0x1000 (record { tsn = 0x1000; hsn = 1 }) (comes_to o acts object ask) ∷ log o (reverse acts)) place

-- A sector of the global range, and one of range 1.
writes : List Act
writes = dwrite 5 1 0xaa ∷ dwrite 105 1 0xbb ∷ []

-- Within a transaction, in which range 1 begins at sector 0.
moves : List Act
moves =
    writes ++ tell 0x1000 0 0 (start_as locking_sp (admin_uid 1) msid) ++ in_it (begin 0)
    ++ in_it (set_cells (range_uid 1) ((3, tree.number 0) ∷ []))

-- GenKey of the global range makes zeros of what no numbered range has, and of nothing else.
row_global_key : (after ranged writes (key_uid 0) GenKey 5 ≡ replicate 512 0) × (after ranged writes (key_uid 0) GenKey 105 ≡ replicate 512 0xbb)
unfolding label_authorities opal_authorities opal_pins opal_admin_aces admin_constants label_pins label_aces removal_aces data_removals datastore_aces gen_key_aces opal_locking_aces locking_constants range_keys locking_infos byte_tables label_grants removal_grants datastore_grants gen_key_ace_grants info_grants key_grants admin_sps admin_authorities locking_authorities admin_pins locking_pins locking_ranges locking_mbr_controls admin_aces authority_aces pin_aces range_get_aces range_aces mbr_aces this_sp_grants owner_grants authority_grants fixed_ace_gets user_ace_grants read_locked_ace_grants write_locked_ace_grants done_ace_grants pin_grants range_get_ace_grants range_get_grants range_set_grants mbr_grants first_lexeme expect number_at uid_at values_up_to list_with list_value_with named_with value_after_token list_at status_at call_at reply_at message_at message_in number_spelling bytes_spelling any_below ranges_in verdict_of is_range listed_among cells_for zeros sectors_from authorities_of_locking any_to numbered_runs field ranged session comes_to after writes moves
row_global_key = (refl, refl)

-- GenKey of range 1 makes zeros of what that has.
row_range_key : (after ranged writes (key_uid 1) GenKey 5 ≡ replicate 512 0xaa) × (after ranged writes (key_uid 1) GenKey 105 ≡ replicate 512 0)
unfolding label_authorities opal_authorities opal_pins opal_admin_aces admin_constants label_pins label_aces removal_aces data_removals datastore_aces gen_key_aces opal_locking_aces locking_constants range_keys locking_infos byte_tables label_grants removal_grants datastore_grants gen_key_ace_grants info_grants key_grants admin_sps admin_authorities locking_authorities admin_pins locking_pins locking_ranges locking_mbr_controls admin_aces authority_aces pin_aces range_get_aces range_aces mbr_aces this_sp_grants owner_grants authority_grants fixed_ace_gets user_ace_grants read_locked_ace_grants write_locked_ace_grants done_ace_grants pin_grants range_get_ace_grants range_get_grants range_set_grants mbr_grants first_lexeme expect number_at uid_at values_up_to list_with list_value_with named_with value_after_token list_at status_at call_at reply_at message_at message_in number_spelling bytes_spelling any_below ranges_in verdict_of is_range listed_among cells_for zeros sectors_from authorities_of_locking any_to numbered_runs field ranged session comes_to after writes moves
row_range_key = (refl, refl)

-- Range 2 has no sector.
row_empty_range_key : (after ranged writes (key_uid 2) GenKey 5 ≡ replicate 512 0xaa) × (after ranged writes (key_uid 2) GenKey 105 ≡ replicate 512 0xbb)
unfolding label_authorities opal_authorities opal_pins opal_admin_aces admin_constants label_pins label_aces removal_aces data_removals datastore_aces gen_key_aces opal_locking_aces locking_constants range_keys locking_infos byte_tables label_grants removal_grants datastore_grants gen_key_ace_grants info_grants key_grants admin_sps admin_authorities locking_authorities admin_pins locking_pins locking_ranges locking_mbr_controls admin_aces authority_aces pin_aces range_get_aces range_aces mbr_aces this_sp_grants owner_grants authority_grants fixed_ace_gets user_ace_grants read_locked_ace_grants write_locked_ace_grants done_ace_grants pin_grants range_get_ace_grants range_get_grants range_set_grants mbr_grants first_lexeme expect number_at uid_at values_up_to list_with list_value_with named_with value_after_token list_at status_at call_at reply_at message_at message_in number_spelling bytes_spelling any_below ranges_in verdict_of is_range listed_among cells_for zeros sectors_from authorities_of_locking any_to numbered_runs field ranged session comes_to after writes moves
row_empty_range_key = (refl, refl)

-- GenKey within a transaction fails, and so none goes by the places of an open one.
row_key_within : (comes_to ranged moves (key_uid 1) GenKey ≡ refuses_item (refusal_of 0x3f) InTransaction) × (after ranged moves (key_uid 1) GenKey 5 ≡ replicate 512 0xaa)
unfolding label_authorities opal_authorities opal_pins opal_admin_aces admin_constants label_pins label_aces removal_aces data_removals datastore_aces gen_key_aces opal_locking_aces locking_constants range_keys locking_infos byte_tables label_grants removal_grants datastore_grants gen_key_ace_grants info_grants key_grants admin_sps admin_authorities locking_authorities admin_pins locking_pins locking_ranges locking_mbr_controls admin_aces authority_aces pin_aces range_get_aces range_aces mbr_aces this_sp_grants owner_grants authority_grants fixed_ace_gets user_ace_grants read_locked_ace_grants write_locked_ace_grants done_ace_grants pin_grants range_get_ace_grants range_get_grants range_set_grants mbr_grants first_lexeme expect number_at uid_at values_up_to list_with list_value_with named_with value_after_token list_at status_at call_at reply_at message_at message_in number_spelling bytes_spelling any_below ranges_in verdict_of is_range listed_among cells_for zeros sectors_from authorities_of_locking any_to numbered_runs field ranged session comes_to after writes moves
row_key_within = (refl, refl)

-- RevertSP makes zeros of all sectors; where it keeps the global range, of those of range 1 alone, though no range has
-- a sector any more.
row_revert_sp : (after ranged writes this_sp (RevertSp false) 5 ≡ replicate 512 0) × (after ranged writes this_sp (RevertSp false) 105 ≡ replicate 512 0)
unfolding label_authorities opal_authorities opal_pins opal_admin_aces admin_constants label_pins label_aces removal_aces data_removals datastore_aces gen_key_aces opal_locking_aces locking_constants range_keys locking_infos byte_tables label_grants removal_grants datastore_grants gen_key_ace_grants info_grants key_grants admin_sps admin_authorities locking_authorities admin_pins locking_pins locking_ranges locking_mbr_controls admin_aces authority_aces pin_aces range_get_aces range_aces mbr_aces this_sp_grants owner_grants authority_grants fixed_ace_gets user_ace_grants read_locked_ace_grants write_locked_ace_grants done_ace_grants pin_grants range_get_ace_grants range_get_grants range_set_grants mbr_grants first_lexeme expect number_at uid_at values_up_to list_with list_value_with named_with value_after_token list_at status_at call_at reply_at message_at message_in number_spelling bytes_spelling any_below ranges_in verdict_of is_range listed_among cells_for zeros sectors_from authorities_of_locking any_to numbered_runs field ranged session comes_to after writes moves
row_revert_sp = (refl, refl)

row_revert_sp_keeps : (after ranged writes this_sp (RevertSp true) 5 ≡ replicate 512 0xaa) × (after ranged writes this_sp (RevertSp true) 105 ≡ replicate 512 0)
unfolding label_authorities opal_authorities opal_pins opal_admin_aces admin_constants label_pins label_aces removal_aces data_removals datastore_aces gen_key_aces opal_locking_aces locking_constants range_keys locking_infos byte_tables label_grants removal_grants datastore_grants gen_key_ace_grants info_grants key_grants admin_sps admin_authorities locking_authorities admin_pins locking_pins locking_ranges locking_mbr_controls admin_aces authority_aces pin_aces range_get_aces range_aces mbr_aces this_sp_grants owner_grants authority_grants fixed_ace_gets user_ace_grants read_locked_ace_grants write_locked_ace_grants done_ace_grants pin_grants range_get_ace_grants range_get_grants range_set_grants mbr_grants first_lexeme expect number_at uid_at values_up_to list_with list_value_with named_with value_after_token list_at status_at call_at reply_at message_at message_in number_spelling bytes_spelling any_below ranges_in verdict_of is_range listed_among cells_for zeros sectors_from authorities_of_locking any_to numbered_runs field ranged session comes_to after writes moves
row_revert_sp_keeps = (refl, refl)

-- RevertSP within a transaction fails.
row_revert_sp_within : (comes_to ranged moves this_sp (RevertSp false) ≡ refuses_item (refusal_of 0x3f) InTransaction) × (comes_to ranged moves this_sp (RevertSp true) ≡ refuses_item (refusal_of 0x3f) InTransaction)
unfolding label_authorities opal_authorities opal_pins opal_admin_aces admin_constants label_pins label_aces removal_aces data_removals datastore_aces gen_key_aces opal_locking_aces locking_constants range_keys locking_infos byte_tables label_grants removal_grants datastore_grants gen_key_ace_grants info_grants key_grants admin_sps admin_authorities locking_authorities admin_pins locking_pins locking_ranges locking_mbr_controls admin_aces authority_aces pin_aces range_get_aces range_aces mbr_aces this_sp_grants owner_grants authority_grants fixed_ace_gets user_ace_grants read_locked_ace_grants write_locked_ace_grants done_ace_grants pin_grants range_get_ace_grants range_get_grants range_set_grants mbr_grants first_lexeme expect number_at uid_at values_up_to list_with list_value_with named_with value_after_token list_at status_at call_at reply_at message_at message_in number_spelling bytes_spelling any_below ranges_in verdict_of is_range listed_among cells_for zeros sectors_from authorities_of_locking any_to numbered_runs field ranged session comes_to after writes moves
row_revert_sp_within = (refl, refl)

-- A global range that is locked both ways is not kept; without the parameter, or where one lock does not count, it is no
-- matter.
locked : Bool → Origin
locked counts = with_range (range_row 0 0 0 true counts true true) field

row_locked : (comes_to (locked true) [] this_sp (RevertSp true) ≡ refuses_item (refusal_of 0x3f) GlobalLocked) × ((comes_to (locked true) [] this_sp (RevertSp false)).said ≡ refusal_of 0) × ((comes_to (locked false) [] this_sp (RevertSp true)).said ≡ refusal_of 0)
unfolding label_authorities opal_authorities opal_pins opal_admin_aces admin_constants label_pins label_aces removal_aces data_removals datastore_aces gen_key_aces opal_locking_aces locking_constants range_keys locking_infos byte_tables label_grants removal_grants datastore_grants gen_key_ace_grants info_grants key_grants admin_sps admin_authorities locking_authorities admin_pins locking_pins locking_ranges locking_mbr_controls admin_aces authority_aces pin_aces range_get_aces range_aces mbr_aces this_sp_grants owner_grants authority_grants fixed_ace_gets user_ace_grants read_locked_ace_grants write_locked_ace_grants done_ace_grants pin_grants range_get_ace_grants range_get_grants range_set_grants mbr_grants first_lexeme expect number_at uid_at values_up_to list_with list_value_with named_with value_after_token list_at status_at call_at reply_at message_at message_in number_spelling bytes_spelling any_below ranges_in verdict_of is_range listed_among cells_for zeros sectors_from authorities_of_locking any_to numbered_runs field ranged session comes_to after writes moves locked
row_locked = (refl, refl, refl)

-- The shapes: GenKey takes no argument, RevertSP one at most, which says 0 or 1. The base profile knows neither name.
keep : ℕ → Tree
keep n = tree.named (tree.number 0x060000) (tree.number n)

row_shapes : (asked Field Locking (key_uid 0) gen_key (trees_of []) ≡ Some GenKey) × (asked Field Locking (key_uid 0) gen_key (trees_of (keep 0 ∷ [])) ≡ None)
unfolding keep
row_shapes = (refl, refl)

row_revert_shapes : (asked Field Locking this_sp revert_sp (trees_of []) ≡ Some (RevertSp false)) × (asked Field Locking this_sp revert_sp (trees_of (keep 0 ∷ [])) ≡ Some (RevertSp false)) × (asked Field Locking this_sp revert_sp (trees_of (keep 1 ∷ [])) ≡ Some (RevertSp true))
unfolding keep
row_revert_shapes = (refl, refl, refl)

row_no_revert_shapes : (asked Field Locking this_sp revert_sp (trees_of (keep 2 ∷ [])) ≡ None) × (asked Field Locking this_sp revert_sp (trees_of (keep 0 ∷ keep 1 ∷ [])) ≡ None) × (asked Field Locking this_sp revert_sp (trees_of (tree.named (tree.number 0) (tree.number 1) ∷ [])) ≡ None)
unfolding keep
row_no_revert_shapes = (refl, refl, refl)

row_base_shapes : (asked Base Locking (key_uid 0) gen_key (trees_of (keep 2 ∷ [])) ≡ Some Other) × (asked Base Locking this_sp revert_sp (trees_of (keep 2 ∷ [])) ≡ Some Other)
unfolding keep
row_base_shapes = (refl, refl)
