-- Transactions: transfers see no open Sets; a commit brings them, an abort does not.
use Rattle.std.proofs.Common.{◌≡◌, ℕ, true, false, List, [], ◌∷◌, ◌++◌, reverse, Some, refl}
use Rattle.sp_cells.specs.declared.names.Sp.TheVariants.{Admin, Locking}
use Rattle.sp_cells.specs.declared.cells.Cell.TheVariants.{Number, Bytes}
use Rattle.sp_cells.specs.Authorities.{authorities_of_locking}
use Rattle.sp_cells.specs.Names.{admin_sp, locking_sp, sid, admin_uid, c_pin_sid, range_uid, revert, activate}
use Rattle.sp_cells.specs.ColumnNames.{pin_column, read_lock_enabled_column}
use Rattle.sp_tables.specs.Faults.{any_to}
use Rattle.sp_tables.specs.Factory.{admin_sps, admin_authorities, locking_authorities, admin_pins, locking_pins, locking_ranges, locking_mbr_controls, admin_aces, authority_aces, pin_aces, range_get_aces, range_aces, mbr_aces}
use Rattle.ace_eval.specs.Access.{this_sp_grants, owner_grants, authority_grants, fixed_ace_gets, user_ace_grants, read_locked_ace_grants, write_locked_ace_grants, done_ace_grants, pin_grants, range_get_ace_grants, range_get_grants, range_set_grants, mbr_grants}
use Rattle.locking.specs.Ranges.{ranges_in}
use Rattle.locking.specs.Verdict.{verdict_of}
use Rattle.audit.specs.declared.reason.Why.TheVariants.{ReadLocked}
use Rattle.shadow_mbr.specs.Stored.{zeros, sectors_from}
use Rattle.tcg_tokens.specs.Lex.{first_lexeme}
use Rattle.tcg_tokens.specs.Reading.{expect, number_at, uid_at, values_up_to, list_with, list_value_with, named_with, value_after_token, list_at, status_at, call_at, reply_at, message_at, reading as message_in}
use Rattle.tcg_tokens.specs.Spelling.{number_spelling, bytes_spelling}
use Rattle.tcg_tokens.specs.Message.{Message, begin, end}
use Rattle.tcg_tokens.specs.Tree.{Tree, Trees, trees_of}
use Rattle.tcg_tokens.specs.Tree as tree
use Rattle.transactions.specs.Resets.{is_range}
use Rattle.methods.specs.Listed.{listed_among}
use Rattle.methods.specs.Settings.{cells_for}
use Rattle.history.specs.Opening.{Origin}
use Rattle.sessions.specs.Starts.{sync_message}
use Rattle.methods.specs.Said.{refusal_of}
use Rattle.history.specs.Readers.{in_force}
use Rattle.history.specs.Decisions.{any_below}
use Rattle.history.specs.History.{Act, Reset, log}
use Rattle.history.proofs.Scripts.{msid, new_drive, range_row, activated, opened, dread, tell, call_of, start_as, in_it, set_cells, replies, whys, said}

locked : Origin
locked = opened (range_row 1 100 10 true false true false)

script : ℕ → List Act
script n =
    tell 0x1000 0 0 (start_as locking_sp (admin_uid 1) msid)
    ++ in_it (begin 0) ++ in_it (set_cells (range_uid 1) ((7, tree.number 0) ∷ [])) ++ dread 100 1 ∷ in_it (end n) ++ dread 100 1 ∷ []

commit_serves : whys locked (script 0) ≡ ReadLocked 100 1 1 ∷ []
unfolding admin_sps admin_authorities locking_authorities admin_pins locking_pins locking_ranges locking_mbr_controls admin_aces authority_aces pin_aces range_get_aces range_aces mbr_aces this_sp_grants owner_grants authority_grants fixed_ace_gets user_ace_grants read_locked_ace_grants write_locked_ace_grants done_ace_grants pin_grants range_get_ace_grants range_get_grants range_set_grants mbr_grants first_lexeme expect number_at uid_at values_up_to list_with list_value_with named_with value_after_token list_at status_at call_at reply_at message_at message_in number_spelling bytes_spelling any_below ranges_in verdict_of is_range listed_among cells_for zeros sectors_from authorities_of_locking any_to locked script
commit_serves = refl

abort_denies : whys locked (script 1) ≡ ReadLocked 100 1 1 ∷ ReadLocked 100 1 1 ∷ []
unfolding admin_sps admin_authorities locking_authorities admin_pins locking_pins locking_ranges locking_mbr_controls admin_aces authority_aces pin_aces range_get_aces range_aces mbr_aces this_sp_grants owner_grants authority_grants fixed_ace_gets user_ace_grants read_locked_ace_grants write_locked_ace_grants done_ace_grants pin_grants range_get_ace_grants range_get_grants range_set_grants mbr_grants first_lexeme expect number_at uid_at values_up_to list_with list_value_with named_with value_after_token list_at status_at call_at reply_at message_at message_in number_spelling bytes_spelling any_below ranges_in verdict_of is_range listed_among cells_for zeros sectors_from authorities_of_locking any_to locked script
abort_denies = refl

abort_replies : replies locked (script 1) ≡ said (sync_message 1 0x1000 0) ∷ (0xfb ∷ 0 ∷ []) ∷ said (refusal_of 0) ∷ (0xfc ∷ 1 ∷ []) ∷ []
unfolding admin_sps admin_authorities locking_authorities admin_pins locking_pins locking_ranges locking_mbr_controls admin_aces authority_aces pin_aces range_get_aces range_aces mbr_aces this_sp_grants owner_grants authority_grants fixed_ace_gets user_ace_grants read_locked_ace_grants write_locked_ace_grants done_ace_grants pin_grants range_get_ace_grants range_get_grants range_set_grants mbr_grants first_lexeme expect number_at uid_at values_up_to list_with list_value_with named_with value_after_token list_at status_at call_at reply_at message_at message_in number_spelling bytes_spelling any_below ranges_in verdict_of is_range listed_among cells_for zeros sectors_from authorities_of_locking any_to locked script
abort_replies = refl

-- A reset behind the Set: a commit in the old session leaves no response, and the sectors stay locked.
after_reset : List Act
after_reset =
    tell 0x1000 0 0 (start_as locking_sp (admin_uid 1) msid)
    ++ in_it (begin 0) ++ in_it (set_cells (range_uid 1) ((7, tree.number 0) ∷ [])) ++ Reset 1 ∷ in_it (end 0) ++ dread 100 1 ∷ []

reset_replies : replies locked after_reset ≡ said (sync_message 1 0x1000 0) ∷ (0xfb ∷ 0 ∷ []) ∷ said (refusal_of 0) ∷ []
unfolding admin_sps admin_authorities locking_authorities admin_pins locking_pins locking_ranges locking_mbr_controls admin_aces authority_aces pin_aces range_get_aces range_aces mbr_aces this_sp_grants owner_grants authority_grants fixed_ace_gets user_ace_grants read_locked_ace_grants write_locked_ace_grants done_ace_grants pin_grants range_get_ace_grants range_get_grants range_set_grants mbr_grants first_lexeme expect number_at uid_at values_up_to list_with list_value_with named_with value_after_token list_at status_at call_at reply_at message_at message_in number_spelling bytes_spelling any_below ranges_in verdict_of is_range listed_among cells_for zeros sectors_from authorities_of_locking any_to locked after_reset
reset_replies = refl

reset_denies : whys locked after_reset ≡ ReadLocked 100 1 1 ∷ []
unfolding admin_sps admin_authorities locking_authorities admin_pins locking_pins locking_ranges locking_mbr_controls admin_aces authority_aces pin_aces range_get_aces range_aces mbr_aces this_sp_grants owner_grants authority_grants fixed_ace_gets user_ace_grants read_locked_ace_grants write_locked_ace_grants done_ace_grants pin_grants range_get_ace_grants range_get_grants range_set_grants mbr_grants first_lexeme expect number_at uid_at values_up_to list_with list_value_with named_with value_after_token list_at status_at call_at reply_at message_at message_in number_spelling bytes_spelling any_below ranges_in verdict_of is_range listed_among cells_for zeros sectors_from authorities_of_locking any_to locked after_reset
reset_denies = refl

-- Two transactions at once, one on each SP: both take effect.
in_second : Message → List Act
in_second message = tell 0x1000 0x1001 1 message

two : List Act
two =
    tell 0x1000 0 0 (start_as admin_sp sid msid) ++ tell 0x1000 0 0 (start_as locking_sp (admin_uid 1) msid)
    ++ in_it (begin 0) ++ in_second (begin 0)
    ++ in_it (set_cells c_pin_sid ((3, tree.bytes (0x41 ∷ [])) ∷ [])) ++ in_second (set_cells (range_uid 1) ((5, tree.number 1) ∷ []))
    ++ in_second (end 0) ++ in_it (end 0)

two_pin : in_force activated (log activated (reverse two)) Admin c_pin_sid pin_column ≡ Some (Bytes (0x41 ∷ []))
unfolding admin_sps admin_authorities locking_authorities admin_pins locking_pins locking_ranges locking_mbr_controls admin_aces authority_aces pin_aces range_get_aces range_aces mbr_aces this_sp_grants owner_grants authority_grants fixed_ace_gets user_ace_grants read_locked_ace_grants write_locked_ace_grants done_ace_grants pin_grants range_get_ace_grants range_get_grants range_set_grants mbr_grants first_lexeme expect number_at uid_at values_up_to list_with list_value_with named_with value_after_token list_at status_at call_at reply_at message_at message_in number_spelling bytes_spelling any_below ranges_in verdict_of is_range listed_among cells_for zeros sectors_from authorities_of_locking any_to in_second two
two_pin = refl

two_flag : in_force activated (log activated (reverse two)) Locking (range_uid 1) read_lock_enabled_column ≡ Some (Number 1)
unfolding admin_sps admin_authorities locking_authorities admin_pins locking_pins locking_ranges locking_mbr_controls admin_aces authority_aces pin_aces range_get_aces range_aces mbr_aces this_sp_grants owner_grants authority_grants fixed_ace_gets user_ace_grants read_locked_ace_grants write_locked_ace_grants done_ace_grants pin_grants range_get_ace_grants range_get_grants range_set_grants mbr_grants first_lexeme expect number_at uid_at values_up_to list_with list_value_with named_with value_after_token list_at status_at call_at reply_at message_at message_in number_spelling bytes_spelling any_below ranges_in verdict_of is_range listed_among cells_for zeros sectors_from authorities_of_locking any_to in_second two
two_flag = refl

-- A Revert by SID of the Locking SP, whose session has a transaction open: the session is gone, and no Set of it is in force.
reverted : List Act
reverted =
    tell 0x1000 0 0 (start_as admin_sp sid msid) ++ tell 0x1000 0 0 (start_as locking_sp (admin_uid 1) msid)
    ++ in_second (begin 0) ++ in_second (set_cells (range_uid 1) ((5, tree.number 1) ∷ []))
    ++ in_it (call_of locking_sp revert []) ++ in_second (end 0)

reverted_replies : replies activated reverted ≡ said (sync_message 1 0x1000 0) ∷ said (sync_message 1 0x1001 0) ∷ (0xfb ∷ 0 ∷ []) ∷ said (refusal_of 0) ∷ said (refusal_of 0) ∷ []
unfolding admin_sps admin_authorities locking_authorities admin_pins locking_pins locking_ranges locking_mbr_controls admin_aces authority_aces pin_aces range_get_aces range_aces mbr_aces this_sp_grants owner_grants authority_grants fixed_ace_gets user_ace_grants read_locked_ace_grants write_locked_ace_grants done_ace_grants pin_grants range_get_ace_grants range_get_grants range_set_grants mbr_grants first_lexeme expect number_at uid_at values_up_to list_with list_value_with named_with value_after_token list_at status_at call_at reply_at message_at message_in number_spelling bytes_spelling any_below ranges_in verdict_of is_range listed_among cells_for zeros sectors_from authorities_of_locking any_to in_second reverted
reverted_replies = refl

reverted_flag : in_force activated (log activated (reverse reverted)) Locking (range_uid 1) read_lock_enabled_column ≡ Some (Number 0)
unfolding admin_sps admin_authorities locking_authorities admin_pins locking_pins locking_ranges locking_mbr_controls admin_aces authority_aces pin_aces range_get_aces range_aces mbr_aces this_sp_grants owner_grants authority_grants fixed_ace_gets user_ace_grants read_locked_ace_grants write_locked_ace_grants done_ace_grants pin_grants range_get_ace_grants range_get_grants range_set_grants mbr_grants first_lexeme expect number_at uid_at values_up_to list_with list_value_with named_with value_after_token list_at status_at call_at reply_at message_at message_in number_spelling bytes_spelling any_below ranges_in verdict_of is_range listed_among cells_for zeros sectors_from authorities_of_locking any_to in_second reverted
reverted_flag = refl

-- An Activate in the session's own transaction fails.
activate_inside : replies new_drive (tell 0x1000 0 0 (start_as admin_sp sid msid) ++ in_it (begin 0) ++ in_it (call_of locking_sp activate [])) ≡ said (sync_message 1 0x1000 0) ∷ (0xfb ∷ 0 ∷ []) ∷ said (refusal_of 0x3f) ∷ []
unfolding admin_sps admin_authorities locking_authorities admin_pins locking_pins locking_ranges locking_mbr_controls admin_aces authority_aces pin_aces range_get_aces range_aces mbr_aces this_sp_grants owner_grants authority_grants fixed_ace_gets user_ace_grants read_locked_ace_grants write_locked_ace_grants done_ace_grants pin_grants range_get_ace_grants range_get_grants range_set_grants mbr_grants first_lexeme expect number_at uid_at values_up_to list_with list_value_with named_with value_after_token list_at status_at call_at reply_at message_at message_in number_spelling bytes_spelling any_below ranges_in verdict_of is_range listed_among cells_for zeros sectors_from authorities_of_locking any_to
activate_inside = refl
