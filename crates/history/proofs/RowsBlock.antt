-- When SID is blocked, and when that ends, under the field profile: Level 0 discovery tells it, and attempts on SID fail.
use Rattle.std.proofs.Common.{◌≡◌, ℕ, true, false, Bool, List, [], ◌∷◌, ◌++◌, reverse, refl}
use Rattle.basics.specs.declared.profile.Profile.TheVariants.{Field}
use Rattle.sp_cells.specs.declared.names.Sp.TheVariants.{Admin}
use Rattle.sp_cells.specs.Names.{admin_sp, locking_sp, sid, c_pin_sid, revert}
use Rattle.sp_cells.specs.Authorities.{authorities_of_locking}
use Rattle.sp_tables.specs.Faults.{any_to}
use Rattle.sp_tables.specs.Factory.{label_authorities, opal_authorities, opal_pins, opal_admin_aces, admin_constants, label_pins, label_aces, removal_aces, data_removals, datastore_aces, gen_key_aces, opal_locking_aces, locking_constants, range_keys, locking_infos, byte_tables, admin_sps, admin_authorities, locking_authorities, admin_pins, locking_pins, locking_ranges, locking_mbr_controls, admin_aces, authority_aces, pin_aces, range_get_aces, range_aces, mbr_aces}
use Rattle.ace_eval.specs.Access.{label_grants, removal_grants, datastore_grants, gen_key_ace_grants, info_grants, key_grants, this_sp_grants, owner_grants, authority_grants, fixed_ace_gets, user_ace_grants, read_locked_ace_grants, write_locked_ace_grants, done_ace_grants, pin_grants, range_get_ace_grants, range_get_grants, range_set_grants, mbr_grants}
use Rattle.locking.specs.Ranges.{ranges_in}
use Rattle.locking.specs.Verdict.{verdict_of}
use Rattle.shadow_mbr.specs.Stored.{zeros, sectors_from}
use Rattle.tcg_tokens.specs.Lex.{first_lexeme}
use Rattle.tcg_tokens.specs.Reading.{expect, number_at, uid_at, values_up_to, list_with, list_value_with, named_with, value_after_token, list_at, status_at, call_at, reply_at, message_at, reading as message_in}
use Rattle.tcg_tokens.specs.Spelling.{number_spelling, bytes_spelling}
use Rattle.transactions.specs.Resets.{is_range}
use Rattle.methods.specs.Listed.{listed_among}
use Rattle.methods.specs.Settings.{cells_for}
use Rattle.tcg_tokens.specs.Message.{begin, end}
use Rattle.tcg_tokens.specs.Tree as tree
use Rattle.audit.specs.declared.reason.AttemptFailure.TheVariants.{Blocked}
use Rattle.audit.specs.declared.reason.Why.TheVariants.{AttemptFailed}
use Rattle.trusted_cmds.specs.declared.block.SidBlock.{SidBlock}
use Rattle.trusted_cmds.specs.declared.block.SidBlock.TheVariants.{Free, UntilPowerCycle, UntilHardwareReset}
use Rattle.device_data.specs.Discovery.{has_owner}
use Rattle.device_data.specs.ErrorLog.{sized}
use Rattle.sessions.specs.Starts.{sync_message}
use Rattle.history.specs.Opening.{Origin, factory_origin}
use Rattle.history.specs.Readers.{beside, in_force, tries}
use Rattle.history.specs.Decisions.{any_below}
use Rattle.history.specs.History.{Act, Accept, Reset, log}
use Rattle.history.proofs.Scripts.{msid, config, new_drive, fis, tell, start_as, in_it, set_cells, try_pin, call_of, replies, whys, fails_with, said}

field : Origin
field = factory_origin (record config { profile = Field })

-- The command, with this first byte.
block : ℕ → Act
block first = Accept (fis 0x5f 2 0x500 1) (sized 512 (first ∷ []))

left : Origin → List Act → SidBlock
left o acts = (beside (log o (reverse acts))).block

owned : List Act → Bool
owned acts = has_owner (in_force field (log field (reverse acts)))

-- Bit 0 of the first byte says whether a hardware reset ends it; a power cycle does. A reset by a command ends it never.
row_ends : (left field (block 1 ∷ []) ≡ UntilHardwareReset) × (left field (block 0xfe ∷ []) ≡ UntilPowerCycle) × (left field (block 1 ∷ Reset 1 ∷ []) ≡ Free) × (left field (block 1 ∷ Reset 3 ∷ []) ≡ UntilHardwareReset) × (left field (block 0 ∷ Reset 1 ∷ []) ≡ UntilPowerCycle) × (left field (block 0 ∷ Reset 0 ∷ []) ≡ Free)
unfolding label_authorities opal_authorities opal_pins opal_admin_aces admin_constants label_pins label_aces removal_aces data_removals datastore_aces gen_key_aces opal_locking_aces locking_constants range_keys locking_infos byte_tables label_grants removal_grants datastore_grants gen_key_ace_grants info_grants key_grants admin_sps admin_authorities locking_authorities admin_pins locking_pins locking_ranges locking_mbr_controls admin_aces authority_aces pin_aces range_get_aces range_aces mbr_aces this_sp_grants owner_grants authority_grants fixed_ace_gets user_ace_grants read_locked_ace_grants write_locked_ace_grants done_ace_grants pin_grants range_get_ace_grants range_get_grants range_set_grants mbr_grants first_lexeme expect number_at uid_at values_up_to list_with list_value_with named_with value_after_token list_at status_at call_at reply_at message_at message_in number_spelling bytes_spelling any_below ranges_in verdict_of is_range listed_among cells_for zeros sectors_from authorities_of_locking any_to field block left owned
row_ends = (refl, refl, refl, refl, refl, refl)

-- A second command is refused, and changes nothing; a base drive refuses the first.
row_again : (fails_with field (block 0 ∷ block 1 ∷ []) ≡ 4 ∷ []) × (left field (block 0 ∷ block 1 ∷ []) ≡ UntilPowerCycle) × (fails_with new_drive (block 1 ∷ []) ≡ 4 ∷ []) × (left new_drive (block 1 ∷ []) ≡ Free)
unfolding label_authorities opal_authorities opal_pins opal_admin_aces admin_constants label_pins label_aces removal_aces data_removals datastore_aces gen_key_aces opal_locking_aces locking_constants range_keys locking_infos byte_tables label_grants removal_grants datastore_grants gen_key_ace_grants info_grants key_grants admin_sps admin_authorities locking_authorities admin_pins locking_pins locking_ranges locking_mbr_controls admin_aces authority_aces pin_aces range_get_aces range_aces mbr_aces this_sp_grants owner_grants authority_grants fixed_ace_gets user_ace_grants read_locked_ace_grants write_locked_ace_grants done_ace_grants pin_grants range_get_ace_grants range_get_grants range_set_grants mbr_grants first_lexeme expect number_at uid_at values_up_to list_with list_value_with named_with value_after_token list_at status_at call_at reply_at message_at message_in number_spelling bytes_spelling any_below ranges_in verdict_of is_range listed_among cells_for zeros sectors_from authorities_of_locking any_to field block left owned
row_again = (refl, refl, refl, refl)

-- The MSID opens no session of SID while it is blocked, and counts no try.
opens : List Act
opens = tell 0x1000 0 0 (start_as admin_sp sid msid)

wrong : List Act
wrong = block 1 ∷ tell 0x1000 0 0 (start_as admin_sp sid (1 ∷ [])) ++ opens

row_blocked : (replies field (wrong ++ Reset 1 ∷ opens) ≡ said (sync_message 1 0 1) ∷ said (sync_message 1 0 1) ∷ said (sync_message 1 0x1000 0) ∷ []) × (whys field wrong ≡ AttemptFailed Admin sid Blocked ∷ AttemptFailed Admin sid Blocked ∷ []) × (tries (log field (reverse wrong)) Admin c_pin_sid ≡ 0)
unfolding label_authorities opal_authorities opal_pins opal_admin_aces admin_constants label_pins label_aces removal_aces data_removals datastore_aces gen_key_aces opal_locking_aces locking_constants range_keys locking_infos byte_tables label_grants removal_grants datastore_grants gen_key_ace_grants info_grants key_grants admin_sps admin_authorities locking_authorities admin_pins locking_pins locking_ranges locking_mbr_controls admin_aces authority_aces pin_aces range_get_aces range_aces mbr_aces this_sp_grants owner_grants authority_grants fixed_ace_gets user_ace_grants read_locked_ace_grants write_locked_ace_grants done_ace_grants pin_grants range_get_ace_grants range_get_grants range_set_grants mbr_grants first_lexeme expect number_at uid_at values_up_to list_with list_value_with named_with value_after_token list_at status_at call_at reply_at message_at message_in number_spelling bytes_spelling any_below ranges_in verdict_of is_range listed_among cells_for zeros sectors_from authorities_of_locking any_to field block left owned opens wrong
row_blocked = (refl, refl, refl)

-- A PIN that an open transaction alone has set is none of its own. The command is taken, and the session goes on.
sets : List Act
sets = opens ++ in_it (begin 0) ++ in_it (set_cells c_pin_sid ((3, tree.bytes (0x6f ∷ [])) ∷ []))

row_view : (owned sets ≡ false) × (left field (sets ++ block 0 ∷ []) ≡ UntilPowerCycle) × (owned (sets ++ block 0 ∷ in_it (end 0)) ≡ true) × (fails_with field (sets ++ in_it (end 0) ++ block 0 ∷ []) ≡ 4 ∷ [])
unfolding label_authorities opal_authorities opal_pins opal_admin_aces admin_constants label_pins label_aces removal_aces data_removals datastore_aces gen_key_aces opal_locking_aces locking_constants range_keys locking_infos byte_tables label_grants removal_grants datastore_grants gen_key_ace_grants info_grants key_grants admin_sps admin_authorities locking_authorities admin_pins locking_pins locking_ranges locking_mbr_controls admin_aces authority_aces pin_aces range_get_aces range_aces mbr_aces this_sp_grants owner_grants authority_grants fixed_ace_gets user_ace_grants read_locked_ace_grants write_locked_ace_grants done_ace_grants pin_grants range_get_ace_grants range_get_grants range_set_grants mbr_grants first_lexeme expect number_at uid_at values_up_to list_with list_value_with named_with value_after_token list_at status_at call_at reply_at message_at message_in number_spelling bytes_spelling any_below ranges_in verdict_of is_range listed_among cells_for zeros sectors_from authorities_of_locking any_to field block left owned opens sets
row_view = (refl, refl, refl, refl)

-- In it an attempt on SID answers 0, and a Revert of the Admin SP frees SID; one of the Locking SP does not.
row_reverts : (whys field (opens ++ block 1 ∷ in_it (try_pin sid msid)) ≡ AttemptFailed Admin sid Blocked ∷ []) × (left field (opens ++ block 1 ∷ in_it (call_of locking_sp revert [])) ≡ UntilHardwareReset) × (left field (opens ++ block 1 ∷ in_it (call_of admin_sp revert [])) ≡ Free)
unfolding label_authorities opal_authorities opal_pins opal_admin_aces admin_constants label_pins label_aces removal_aces data_removals datastore_aces gen_key_aces opal_locking_aces locking_constants range_keys locking_infos byte_tables label_grants removal_grants datastore_grants gen_key_ace_grants info_grants key_grants admin_sps admin_authorities locking_authorities admin_pins locking_pins locking_ranges locking_mbr_controls admin_aces authority_aces pin_aces range_get_aces range_aces mbr_aces this_sp_grants owner_grants authority_grants fixed_ace_gets user_ace_grants read_locked_ace_grants write_locked_ace_grants done_ace_grants pin_grants range_get_ace_grants range_get_grants range_set_grants mbr_grants first_lexeme expect number_at uid_at values_up_to list_with list_value_with named_with value_after_token list_at status_at call_at reply_at message_at message_in number_spelling bytes_spelling any_below ranges_in verdict_of is_range listed_among cells_for zeros sectors_from authorities_of_locking any_to field block left owned opens
row_reverts = (refl, refl, refl)
