-- The longest response, and one that is too long.
use Rattle.sp_cells.specs.Config.{base_config}
use Rattle.std.proofs.Common.{◌≡◌, ℕ, List, [], ◌∷◌, ◌++◌, reverse, Option, Some, None, refl}
use Rattle.std.specs.Prelude.{length}
use Rattle.sp_cells.specs.Authorities.{authorities_of_locking}
use Rattle.sp_cells.specs.Names.{locking_sp, admin_uid, mbr_table, get}
use Rattle.sp_tables.specs.Faults.{any_to}
use Rattle.sp_tables.specs.Factory.{admin_sps, admin_authorities, locking_authorities, admin_pins, locking_pins, locking_ranges, locking_mbr_controls, admin_aces, authority_aces, pin_aces, range_get_aces, range_aces, mbr_aces}
use Rattle.ace_eval.specs.Access.{this_sp_grants, owner_grants, authority_grants, fixed_ace_gets, user_ace_grants, read_locked_ace_grants, write_locked_ace_grants, done_ace_grants, pin_grants, range_get_ace_grants, range_get_grants, range_set_grants, mbr_grants}
use Rattle.locking.specs.Ranges.{ranges_in}
use Rattle.locking.specs.Verdict.{verdict_of}
use Rattle.shadow_mbr.specs.Stored.{zeros, sectors_from}
use Rattle.tcg_tokens.specs.Lex.{first_lexeme}
use Rattle.tcg_tokens.specs.Reading.{expect, number_at, uid_at, values_up_to, list_with, list_value_with, named_with, value_after_token, list_at, status_at, call_at, reply_at, message_at, reading as message_in}
use Rattle.tcg_tokens.specs.Spelling.{number_spelling, bytes_spelling}
use Rattle.tcg_tokens.specs.Message.{Message}
use Rattle.tcg_tokens.specs.Tree.{Tree, Trees, trees_of}
use Rattle.tcg_tokens.specs.Tree as tree
use Rattle.transactions.specs.Resets.{is_range}
use Rattle.methods.specs.Listed.{listed_among}
use Rattle.methods.specs.Settings.{cells_for}
use Rattle.history.specs.Opening.{Origin, activated_origin}
use Rattle.sessions.specs.Starts.{sync_message}
use Rattle.methods.specs.Said.{refusal_of}
use Rattle.history.specs.Readers.{waiting}
use Rattle.history.specs.Decisions.{any_below}
use Rattle.history.specs.History.{Act, log}
use Rattle.history.proofs.Scripts.{msid, send, tell, call_of, start_as, in_it, replies, said}

wide : Origin
wide = activated_origin (base_config 1000 128 msid)

get_up_to : ℕ → Message
get_up_to last = call_of mbr_table get (tree.list (trees_of (tree.named (tree.number 2) (tree.number last) ∷ [])) ∷ [])

signed_in : List Act
signed_in = tell 0x1000 0 0 (start_as locking_sp (admin_uid 1) msid)

waiting_length : Option (List ℕ) → ℕ
waiting_length None = 0
waiting_length (Some response) = length response

longest_response : waiting_length (waiting (log wide (reverse (signed_in ++ send 0x1000 0x1000 1 (get_up_to 65467) ∷ []))) 0x1000) ≡ 65536
unfolding admin_sps admin_authorities locking_authorities admin_pins locking_pins locking_ranges locking_mbr_controls admin_aces authority_aces pin_aces range_get_aces range_aces mbr_aces this_sp_grants owner_grants authority_grants fixed_ace_gets user_ace_grants read_locked_ace_grants write_locked_ace_grants done_ace_grants pin_grants range_get_ace_grants range_get_grants range_set_grants mbr_grants first_lexeme expect number_at uid_at values_up_to list_with list_value_with named_with value_after_token list_at status_at call_at reply_at message_at message_in number_spelling bytes_spelling any_below ranges_in verdict_of is_range listed_among cells_for zeros sectors_from authorities_of_locking any_to wide get_up_to signed_in waiting_length
longest_response = refl

too_long_response : replies wide (signed_in ++ in_it (get_up_to 65468) ++ in_it (get_up_to 65536)) ≡ said (sync_message 1 0x1000 0) ∷ said (refusal_of 0x11) ∷ said (refusal_of 0x0c) ∷ []
unfolding admin_sps admin_authorities locking_authorities admin_pins locking_pins locking_ranges locking_mbr_controls admin_aces authority_aces pin_aces range_get_aces range_aces mbr_aces this_sp_grants owner_grants authority_grants fixed_ace_gets user_ace_grants read_locked_ace_grants write_locked_ace_grants done_ace_grants pin_grants range_get_ace_grants range_get_grants range_set_grants mbr_grants first_lexeme expect number_at uid_at values_up_to list_with list_value_with named_with value_after_token list_at status_at call_at reply_at message_at message_in number_spelling bytes_spelling any_below ranges_in verdict_of is_range listed_among cells_for zeros sectors_from authorities_of_locking any_to wide get_up_to signed_in
too_long_response = refl
