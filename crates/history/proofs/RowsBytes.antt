-- The bytes of Level 0 discovery, IDENTIFY, log page 10h and the responses that wait.
use Rattle.std.proofs.Common.{◌≡◌, ℕ, true, false, List, [], ◌∷◌, ◌++◌, reverse, replicate, Option, Some, None, refl}
use Rattle.std.specs.Prelude.{take, length}
use Rattle.sp_cells.specs.Authorities.{authorities_of_locking}
use Rattle.sp_cells.specs.Names.{locking_sp, admin_uid, mbr_control, mbr_table, get, admin_sp}
use Rattle.sp_tables.specs.Faults.{any_to}
use Rattle.sp_tables.specs.Factory.{admin_sps, admin_authorities, locking_authorities, admin_pins, locking_pins, locking_ranges, locking_mbr_controls, admin_aces, authority_aces, pin_aces, range_get_aces, range_aces, mbr_aces}
use Rattle.ace_eval.specs.Access.{this_sp_grants, owner_grants, authority_grants, fixed_ace_gets, user_ace_grants, read_locked_ace_grants, write_locked_ace_grants, done_ace_grants, pin_grants, range_get_ace_grants, range_get_grants, range_set_grants, mbr_grants}
use Rattle.locking.specs.Ranges.{ranges_in}
use Rattle.locking.specs.Verdict.{verdict_of}
use Rattle.shadow_mbr.specs.Stored.{zeros, sectors_from}
use Rattle.tcg_tokens.specs.Lex.{first_lexeme}
use Rattle.tcg_tokens.specs.Reading.{expect, number_at, uid_at, values_up_to, list_with, list_value_with, named_with, value_after_token, list_at, status_at, call_at, reply_at, message_at, reading as message_in}
use Rattle.tcg_tokens.specs.Spelling.{number_spelling, bytes_spelling}
use Rattle.tcg_tokens.specs.Message.{Message}
use Rattle.tcg_tokens.specs.Tree.{Tree, Trees, trees_of}
use Rattle.tcg_tokens.specs.Tree as tree
use Rattle.transactions.specs.Resets.{is_range}
use Rattle.methods.specs.Listed.{listed_among}
use Rattle.methods.specs.Settings.{cells_for}
use Rattle.history.specs.Opening.{Origin}
use Rattle.basics.specs.declared.profile.Profile.TheVariants.{Base}
use Rattle.sessions.specs.Properties.{properties_message}
use Rattle.sessions.specs.Beside.{least_limits}
use Rattle.history.specs.Readers.{waiting}
use Rattle.history.specs.Facts.{facts}
use Rattle.history.specs.Decisions.{any_below}
use Rattle.device_data.specs.Identity.{identity_of}
use Rattle.device_data.specs.ErrorLog.{sized, error_log}
use Rattle.history.specs.Tcg.{accepted_data}
use Rattle.device_data.specs.Discovery.{locking_flags, any_range_below}
use Rattle.history.specs.History.{Act, Accept, event, log, Reset}
use Rattle.history.proofs.Scripts.{msid, new_drive, range_row, activated, opened, fis, dread, read_queued, send, receive, tell, call_of, start_as, in_it, set_cells, fails_with, said, start_anybody}

discovery_bytes : accepted_data (facts new_drive []) (fis 0x5d 1 0x100 1) (event new_drive [] (receive 1 1)) ≡ sized 512 (
    0 ∷ 0 ∷ 0 ∷ 0x80 ∷ 0 ∷ 0 ∷ 0 ∷ 1 ∷ replicate 40 0
    ++ 0 ∷ 1 ∷ 0x10 ∷ 0x0c ∷ 0x11 ∷ replicate 11 0
    ++ 0 ∷ 2 ∷ 0x10 ∷ 0x0c ∷ 0x01 ∷ replicate 11 0
    ++ 0 ∷ 3 ∷ 0x10 ∷ 0x1c ∷ replicate 8 0 ++ 0 ∷ 0 ∷ 2 ∷ 0 ∷ 0 ∷ 0 ∷ 0 ∷ 0 ∷ 0 ∷ 0 ∷ 0 ∷ 1 ∷ replicate 8 0
    ++ 2 ∷ 3 ∷ 0x10 ∷ 0x10 ∷ 0x10 ∷ 0 ∷ 0 ∷ 4 ∷ 0 ∷ 0 ∷ 4 ∷ 0 ∷ 0x10 ∷ 0 ∷ 0 ∷ replicate 5 0)
unfolding any_range_below admin_sps admin_authorities locking_authorities admin_pins locking_pins locking_ranges locking_mbr_controls admin_aces authority_aces pin_aces range_get_aces range_aces mbr_aces this_sp_grants owner_grants authority_grants fixed_ace_gets user_ace_grants read_locked_ace_grants write_locked_ace_grants done_ace_grants pin_grants range_get_ace_grants range_get_grants range_set_grants mbr_grants first_lexeme expect number_at uid_at values_up_to list_with list_value_with named_with value_after_token list_at status_at call_at reply_at message_at message_in number_spelling bytes_spelling any_below ranges_in verdict_of is_range listed_among cells_for zeros sectors_from authorities_of_locking any_to
discovery_bytes = refl

identity_bytes : identity_of (facts new_drive []).config (facts new_drive []).settings ≡ replicate 96 0 ++ 0x01 ∷ 0x40 ∷ replicate 52 0 ++ 0x1f ∷ 0 ∷ 0 ∷ 0x01 ∷ replicate 12 0 ++ 0 ∷ 0x64 ∷ replicate 32 0 ++ 0xe8 ∷ 0x03 ∷ replicate 310 0
unfolding any_range_below admin_sps admin_authorities locking_authorities admin_pins locking_pins locking_ranges locking_mbr_controls admin_aces authority_aces pin_aces range_get_aces range_aces mbr_aces this_sp_grants owner_grants authority_grants fixed_ace_gets user_ace_grants read_locked_ace_grants write_locked_ace_grants done_ace_grants pin_grants range_get_ace_grants range_get_grants range_set_grants mbr_grants first_lexeme expect number_at uid_at values_up_to list_with list_value_with named_with value_after_token list_at status_at call_at reply_at message_at message_in number_spelling bytes_spelling any_below ranges_in verdict_of is_range listed_among cells_for zeros sectors_from authorities_of_locking any_to
identity_bytes = refl

locked : Origin
locked = opened (range_row 1 100 10 true false true false)

log_page : error_log (facts locked (log locked (read_queued 3 100 1 ∷ []))).failure ≡ 3 ∷ 0 ∷ 0x51 ∷ 4 ∷ 0x64 ∷ 0 ∷ 0 ∷ 0x40 ∷ 0 ∷ 0 ∷ 0 ∷ 0 ∷ 0x18 ∷ 0 ∷ replicate 497 0 ++ 0xec ∷ []
unfolding any_range_below admin_sps admin_authorities locking_authorities admin_pins locking_pins locking_ranges locking_mbr_controls admin_aces authority_aces pin_aces range_get_aces range_aces mbr_aces this_sp_grants owner_grants authority_grants fixed_ace_gets user_ace_grants read_locked_ace_grants write_locked_ace_grants done_ace_grants pin_grants range_get_ace_grants range_get_grants range_set_grants mbr_grants first_lexeme expect number_at uid_at values_up_to list_with list_value_with named_with value_after_token list_at status_at call_at reply_at message_at message_in number_spelling bytes_spelling any_below ranges_in verdict_of is_range listed_among cells_for zeros sectors_from authorities_of_locking any_to locked
log_page = refl

log_page_none : error_log (facts locked []).failure ≡ 0x80 ∷ replicate 510 0 ++ 0x80 ∷ []
unfolding any_range_below admin_sps admin_authorities locking_authorities admin_pins locking_pins locking_ranges locking_mbr_controls admin_aces authority_aces pin_aces range_get_aces range_aces mbr_aces this_sp_grants owner_grants authority_grants fixed_ace_gets user_ace_grants read_locked_ace_grants write_locked_ace_grants done_ace_grants pin_grants range_get_ace_grants range_get_grants range_set_grants mbr_grants first_lexeme expect number_at uid_at values_up_to list_with list_value_with named_with value_after_token list_at status_at call_at reply_at message_at message_in number_spelling bytes_spelling any_below ranges_in verdict_of is_range listed_among cells_for zeros sectors_from authorities_of_locking any_to locked
log_page_none = refl

-- The failure ends with its page; what comes between is aborted, without a reason.
failure_ends : fails_with locked (read_queued 3 100 1 ∷ dread 100 1 ∷ Accept (fis 0x47 0 0x10 1) [] ∷ dread 500 1 ∷ []) ≡ 4 ∷ 4 ∷ []
unfolding any_range_below admin_sps admin_authorities locking_authorities admin_pins locking_pins locking_ranges locking_mbr_controls admin_aces authority_aces pin_aces range_get_aces range_aces mbr_aces this_sp_grants owner_grants authority_grants fixed_ace_gets user_ace_grants read_locked_ace_grants write_locked_ace_grants done_ace_grants pin_grants range_get_ace_grants range_get_grants range_set_grants mbr_grants first_lexeme expect number_at uid_at values_up_to list_with list_value_with named_with value_after_token list_at status_at call_at reply_at message_at message_in number_spelling bytes_spelling any_below ranges_in verdict_of is_range listed_among cells_for zeros sectors_from authorities_of_locking any_to locked
failure_ends = refl

-- Bytes 0 to 533 of the shadow: 600 bytes in all. One block has no room for them and tells their size, two give them; a send between fails.
signed_in : List Act
signed_in = tell 0x1000 0 0 (start_as locking_sp (admin_uid 1) msid)

get_534 : Message
get_534 = call_of mbr_table get (tree.list (trees_of (tree.named (tree.number 2) (tree.number 533) ∷ [])) ∷ [])

long : List Act
long = signed_in ++ send 0x1000 0x1000 1 get_534 ∷ []

short_room : take 20 (accepted_data (facts activated (log activated (reverse long))) (fis 0x5d 1 0x100000 1) (event activated (log activated (reverse long)) (receive 0x1000 1))) ≡
    0 ∷ 0 ∷ 0 ∷ 0 ∷ 0x10 ∷ 0 ∷ 0 ∷ 0 ∷ 0 ∷ 0 ∷ 2 ∷ 0x58 ∷ 0 ∷ 0 ∷ 2 ∷ 0x58 ∷ 0 ∷ 0 ∷ 0 ∷ 0 ∷ []
unfolding any_range_below admin_sps admin_authorities locking_authorities admin_pins locking_pins locking_ranges locking_mbr_controls admin_aces authority_aces pin_aces range_get_aces range_aces mbr_aces this_sp_grants owner_grants authority_grants fixed_ace_gets user_ace_grants read_locked_ace_grants write_locked_ace_grants done_ace_grants pin_grants range_get_ace_grants range_get_grants range_set_grants mbr_grants first_lexeme expect number_at uid_at values_up_to list_with list_value_with named_with value_after_token list_at status_at call_at reply_at message_at message_in number_spelling bytes_spelling any_below ranges_in verdict_of is_range listed_among cells_for zeros sectors_from authorities_of_locking any_to signed_in get_534 long
short_room = refl

response_stays : fails_with activated (long ++ receive 0x1000 1 ∷ send 0x1000 0x1000 1 get_534 ∷ receive 0x1000 2 ∷ send 0x1000 0x1000 1 get_534 ∷ []) ≡ 4 ∷ []
unfolding any_range_below admin_sps admin_authorities locking_authorities admin_pins locking_pins locking_ranges locking_mbr_controls admin_aces authority_aces pin_aces range_get_aces range_aces mbr_aces this_sp_grants owner_grants authority_grants fixed_ace_gets user_ace_grants read_locked_ace_grants write_locked_ace_grants done_ace_grants pin_grants range_get_ace_grants range_get_grants range_set_grants mbr_grants first_lexeme expect number_at uid_at values_up_to list_with list_value_with named_with value_after_token list_at status_at call_at reply_at message_at message_in number_spelling bytes_spelling any_below ranges_in verdict_of is_range listed_among cells_for zeros sectors_from authorities_of_locking any_to signed_in get_534 long
response_stays = refl

-- A reset drops it: the next send is taken.
response_dropped : fails_with new_drive (send 0x1000 0 0 (start_anybody admin_sp) ∷ send 0x1000 0 0 (start_anybody admin_sp) ∷ Reset 1 ∷ send 0x1000 0 0 (start_anybody admin_sp) ∷ []) ≡ 4 ∷ []
unfolding any_range_below admin_sps admin_authorities locking_authorities admin_pins locking_pins locking_ranges locking_mbr_controls admin_aces authority_aces pin_aces range_get_aces range_aces mbr_aces this_sp_grants owner_grants authority_grants fixed_ace_gets user_ace_grants read_locked_ace_grants write_locked_ace_grants done_ace_grants pin_grants range_get_ace_grants range_get_grants range_set_grants mbr_grants first_lexeme expect number_at uid_at values_up_to list_with list_value_with named_with value_after_token list_at status_at call_at reply_at message_at message_in number_spelling bytes_spelling any_below ranges_in verdict_of is_range listed_among cells_for zeros sectors_from authorities_of_locking any_to
response_dropped = refl

waiting_length : Option (List ℕ) → ℕ
waiting_length None = 0
waiting_length (Some response) = length response

response_length : waiting_length (waiting (log activated (reverse long)) 0x1000) ≡ 600
unfolding any_range_below admin_sps admin_authorities locking_authorities admin_pins locking_pins locking_ranges locking_mbr_controls admin_aces authority_aces pin_aces range_get_aces range_aces mbr_aces this_sp_grants owner_grants authority_grants fixed_ace_gets user_ace_grants read_locked_ace_grants write_locked_ace_grants done_ace_grants pin_grants range_get_ace_grants range_get_grants range_set_grants mbr_grants first_lexeme expect number_at uid_at values_up_to list_with list_value_with named_with value_after_token list_at status_at call_at reply_at message_at message_in number_spelling bytes_spelling any_below ranges_in verdict_of is_range listed_among cells_for zeros sectors_from authorities_of_locking any_to signed_in get_534 long waiting_length
response_length = refl

row_properties : length (said (properties_message Base least_limits [])) ≡ 138
unfolding any_range_below admin_sps admin_authorities locking_authorities admin_pins locking_pins locking_ranges locking_mbr_controls admin_aces authority_aces pin_aces range_get_aces range_aces mbr_aces this_sp_grants owner_grants authority_grants fixed_ace_gets user_ace_grants read_locked_ace_grants write_locked_ace_grants done_ace_grants pin_grants range_get_ace_grants range_get_grants range_set_grants mbr_grants first_lexeme expect number_at uid_at values_up_to list_with list_value_with named_with value_after_token list_at status_at call_at reply_at message_at message_in number_spelling bytes_spelling any_below ranges_in verdict_of is_range listed_among cells_for zeros sectors_from authorities_of_locking any_to
row_properties = refl

-- The Locking byte of Level 0: Manufactured and locked; then with the shadow up; then lifted.
flags : Origin → List Act → ℕ
flags o acts = locking_flags (facts o (log o (reverse acts))).rows

row_flags : flags locked [] ≡ 0x07
unfolding any_range_below admin_sps admin_authorities locking_authorities admin_pins locking_pins locking_ranges locking_mbr_controls admin_aces authority_aces pin_aces range_get_aces range_aces mbr_aces this_sp_grants owner_grants authority_grants fixed_ace_gets user_ace_grants read_locked_ace_grants write_locked_ace_grants done_ace_grants pin_grants range_get_ace_grants range_get_grants range_set_grants mbr_grants first_lexeme expect number_at uid_at values_up_to list_with list_value_with named_with value_after_token list_at status_at call_at reply_at message_at message_in number_spelling bytes_spelling any_below ranges_in verdict_of is_range listed_among cells_for zeros sectors_from authorities_of_locking any_to locked flags
row_flags = refl

row_flags_shadow : flags activated (signed_in ++ in_it (set_cells mbr_control ((1, tree.number 1) ∷ []))) ≡ 0x13
unfolding any_range_below admin_sps admin_authorities locking_authorities admin_pins locking_pins locking_ranges locking_mbr_controls admin_aces authority_aces pin_aces range_get_aces range_aces mbr_aces this_sp_grants owner_grants authority_grants fixed_ace_gets user_ace_grants read_locked_ace_grants write_locked_ace_grants done_ace_grants pin_grants range_get_ace_grants range_get_grants range_set_grants mbr_grants first_lexeme expect number_at uid_at values_up_to list_with list_value_with named_with value_after_token list_at status_at call_at reply_at message_at message_in number_spelling bytes_spelling any_below ranges_in verdict_of is_range listed_among cells_for zeros sectors_from authorities_of_locking any_to signed_in flags
row_flags_shadow = refl

row_flags_done : flags activated (signed_in ++ in_it (set_cells mbr_control ((1, tree.number 1) ∷ (2, tree.number 1) ∷ []))) ≡ 0x33
unfolding any_range_below admin_sps admin_authorities locking_authorities admin_pins locking_pins locking_ranges locking_mbr_controls admin_aces authority_aces pin_aces range_get_aces range_aces mbr_aces this_sp_grants owner_grants authority_grants fixed_ace_gets user_ace_grants read_locked_ace_grants write_locked_ace_grants done_ace_grants pin_grants range_get_ace_grants range_get_grants range_set_grants mbr_grants first_lexeme expect number_at uid_at values_up_to list_with list_value_with named_with value_after_token list_at status_at call_at reply_at message_at message_in number_spelling bytes_spelling any_below ranges_in verdict_of is_range listed_among cells_for zeros sectors_from authorities_of_locking any_to signed_in flags
row_flags_done = refl
