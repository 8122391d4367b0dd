-- Activate and Revert.
use Rattle.std.proofs.Common.{◌≡◌, List, [], ◌∷◌, ◌++◌, reverse, replicate, Some, refl}
use Rattle.std.specs.Prelude.{take}
use Rattle.sp_cells.specs.declared.names.Sp.TheVariants.{Admin}
use Rattle.sp_cells.specs.declared.cells.Cell.TheVariants.{Number}
use Rattle.sp_cells.specs.Authorities.{authorities_of_locking}
use Rattle.sp_cells.specs.Names.{admin_sp, locking_sp, sid, admin_uid, revert, activate, session_manager, properties}
use Rattle.sp_cells.specs.ColumnNames.{life_cycle_state_column}
use Rattle.sp_tables.specs.Faults.{any_to}
use Rattle.sp_tables.specs.Factory.{admin_sps, admin_authorities, locking_authorities, admin_pins, locking_pins, locking_ranges, locking_mbr_controls, admin_aces, authority_aces, pin_aces, range_get_aces, range_aces, mbr_aces}
use Rattle.ace_eval.specs.Access.{this_sp_grants, owner_grants, authority_grants, fixed_ace_gets, user_ace_grants, read_locked_ace_grants, write_locked_ace_grants, done_ace_grants, pin_grants, range_get_ace_grants, range_get_grants, range_set_grants, mbr_grants}
use Rattle.locking.specs.Ranges.{ranges_in}
use Rattle.locking.specs.Verdict.{verdict_of}
use Rattle.shadow_mbr.specs.Stored.{zeros, sectors_from}
use Rattle.compacket.specs.Spelling.{frame_bytes}
use Rattle.tcg_tokens.specs.Lex.{first_lexeme}
use Rattle.tcg_tokens.specs.Reading.{expect, number_at, uid_at, values_up_to, list_with, list_value_with, named_with, value_after_token, list_at, status_at, call_at, reply_at, message_at, reading as message_in}
use Rattle.tcg_tokens.specs.Spelling.{number_spelling, bytes_spelling}
use Rattle.tcg_tokens.specs.Message.{end_session}
use Rattle.transactions.specs.Resets.{is_range}
use Rattle.methods.specs.Listed.{listed_among}
use Rattle.methods.specs.Settings.{cells_for}
use Rattle.sessions.specs.Starts.{sync_message}
use Rattle.basics.specs.declared.profile.Profile.TheVariants.{Base}
use Rattle.sessions.specs.Properties.{properties_message}
use Rattle.methods.specs.Said.{refusal_of}
use Rattle.history.specs.Readers.{in_force, sector}
use Rattle.history.specs.Decisions.{any_below}
use Rattle.device_data.specs.ErrorLog.{sized}
use Rattle.history.specs.History.{Act, Accept, log}
use Rattle.history.proofs.Scripts.{msid, new_drive, fis, dwrite, send, receive, tell, call_of, start_as, start_anybody, in_it, replies, fails_with, said}
use Rattle.sessions.specs.Beside.{least_limits}

script : List Act
script =
    tell 0x1000 0 0 (start_as admin_sp sid msid) ++ in_it (call_of locking_sp activate []) ++ dwrite 5 1 0xaa ∷ in_it (call_of locking_sp revert [])
    ++ tell 0x1000 0 0 (start_as locking_sp (admin_uid 1) msid)

life_replies : replies new_drive script ≡ said (sync_message 1 0x1000 0) ∷ said (refusal_of 0) ∷ said (refusal_of 0) ∷ said (sync_message 1 0 0x0c) ∷ []
unfolding admin_sps admin_authorities locking_authorities admin_pins locking_pins locking_ranges locking_mbr_controls admin_aces authority_aces pin_aces range_get_aces range_aces mbr_aces this_sp_grants owner_grants authority_grants fixed_ace_gets user_ace_grants read_locked_ace_grants write_locked_ace_grants done_ace_grants pin_grants range_get_ace_grants range_get_grants range_set_grants mbr_grants first_lexeme expect number_at uid_at values_up_to list_with list_value_with named_with value_after_token list_at status_at call_at reply_at message_at message_in number_spelling bytes_spelling any_below ranges_in verdict_of is_range listed_among cells_for zeros sectors_from authorities_of_locking any_to script
life_replies = refl

media_zeros : sector (log new_drive (reverse script)) 5 ≡ replicate 512 0
unfolding admin_sps admin_authorities locking_authorities admin_pins locking_pins locking_ranges locking_mbr_controls admin_aces authority_aces pin_aces range_get_aces range_aces mbr_aces this_sp_grants owner_grants authority_grants fixed_ace_gets user_ace_grants read_locked_ace_grants write_locked_ace_grants done_ace_grants pin_grants range_get_ace_grants range_get_grants range_set_grants mbr_grants first_lexeme expect number_at uid_at values_up_to list_with list_value_with named_with value_after_token list_at status_at call_at reply_at message_at message_in number_spelling bytes_spelling any_below ranges_in verdict_of is_range listed_among cells_for zeros sectors_from authorities_of_locking any_to script
media_zeros = refl

state_after : in_force new_drive (log new_drive (reverse script)) Admin locking_sp life_cycle_state_column ≡ Some (Number 8)
unfolding admin_sps admin_authorities locking_authorities admin_pins locking_pins locking_ranges locking_mbr_controls admin_aces authority_aces pin_aces range_get_aces range_aces mbr_aces this_sp_grants owner_grants authority_grants fixed_ace_gets user_ace_grants read_locked_ace_grants write_locked_ace_grants done_ace_grants pin_grants range_get_ace_grants range_get_grants range_set_grants mbr_grants first_lexeme expect number_at uid_at values_up_to list_with list_value_with named_with value_after_token list_at status_at call_at reply_at message_at message_in number_spelling bytes_spelling any_below ranges_in verdict_of is_range listed_among cells_for zeros sectors_from authorities_of_locking any_to script
state_after = refl

-- After an Activate Admin1 has SID's PIN.
row_activated : replies new_drive (tell 0x1000 0 0 (start_as admin_sp sid msid) ++ in_it (call_of locking_sp activate []) ++ tell 0x1000 0 0 (start_as locking_sp (admin_uid 1) msid)) ≡
    said (sync_message 1 0x1000 0) ∷ said (refusal_of 0) ∷ said (sync_message 1 0x1001 0) ∷ []
unfolding admin_sps admin_authorities locking_authorities admin_pins locking_pins locking_ranges locking_mbr_controls admin_aces authority_aces pin_aces range_get_aces range_aces mbr_aces this_sp_grants owner_grants authority_grants fixed_ace_gets user_ace_grants read_locked_ace_grants write_locked_ace_grants done_ace_grants pin_grants range_get_ace_grants range_get_grants range_set_grants mbr_grants first_lexeme expect number_at uid_at values_up_to list_with list_value_with named_with value_after_token list_at status_at call_at reply_at message_at message_in number_spelling bytes_spelling any_below ranges_in verdict_of is_range listed_among cells_for zeros sectors_from authorities_of_locking any_to
row_activated = refl

-- A frame for another ComID, another host number or no session, and one that is cut, are taken without a response.
strangers : List Act
strangers =
    tell 0x1000 0 0 (start_anybody admin_sp) ++ send 0x1001 0x1000 1 end_session ∷ send 0x1000 0x1000 2 end_session ∷ send 0x1000 0x1001 1 end_session ∷ send 0x1000 0 1 end_session
    ∷ Accept (fis 0x5f 1 0x100100 1) (sized 512 (frame_bytes 0x1000 (record { tsn = 0x1000; hsn = 1 }) (said end_session)))
    ∷ Accept (fis 0x5f 1 0x100000 1) (sized 512 (take 55 (frame_bytes 0x1000 (record { tsn = 0x1000; hsn = 1 }) (said end_session)))) ∷ []

row_strangers : replies new_drive (strangers ++ send 0x1000 0x1000 1 end_session ∷ []) ≡ said (sync_message 1 0x1000 0) ∷ said end_session ∷ []
unfolding admin_sps admin_authorities locking_authorities admin_pins locking_pins locking_ranges locking_mbr_controls admin_aces authority_aces pin_aces range_get_aces range_aces mbr_aces this_sp_grants owner_grants authority_grants fixed_ace_gets user_ace_grants read_locked_ace_grants write_locked_ace_grants done_ace_grants pin_grants range_get_ace_grants range_get_grants range_set_grants mbr_grants first_lexeme expect number_at uid_at values_up_to list_with list_value_with named_with value_after_token list_at status_at call_at reply_at message_at message_in number_spelling bytes_spelling any_below ranges_in verdict_of is_range listed_among cells_for zeros sectors_from authorities_of_locking any_to strangers
row_strangers = refl

row_strangers_taken : fails_with new_drive strangers ≡ []
unfolding admin_sps admin_authorities locking_authorities admin_pins locking_pins locking_ranges locking_mbr_controls admin_aces authority_aces pin_aces range_get_aces range_aces mbr_aces this_sp_grants owner_grants authority_grants fixed_ace_gets user_ace_grants read_locked_ace_grants write_locked_ace_grants done_ace_grants pin_grants range_get_ace_grants range_get_grants range_set_grants mbr_grants first_lexeme expect number_at uid_at values_up_to list_with list_value_with named_with value_after_token list_at status_at call_at reply_at message_at message_in number_spelling bytes_spelling any_below ranges_in verdict_of is_range listed_among cells_for zeros sectors_from authorities_of_locking any_to strangers
row_strangers_taken = refl

-- Malformed tokens fail, in a session and to the session manager; Properties answers both shapes.
row_malformed : replies new_drive (tell 0x1000 0 0 (start_anybody admin_sp) ++ Accept (fis 0x5f 1 0x100000 1) (sized 512 (frame_bytes 0x1000 (record { tsn = 0x1000; hsn = 1 }) (0xf0 ∷ 0xf0 ∷ 0xf1 ∷ [])))
    ∷ receive 0x1000 2 ∷ tell 0x1000 0 0 end_session ++ tell 0x1000 0 0 (call_of session_manager properties [])) ≡
    said (sync_message 1 0x1000 0) ∷ said (refusal_of 0x3f) ∷ said (refusal_of 0x3f) ∷ said (properties_message Base least_limits []) ∷ []
unfolding admin_sps admin_authorities locking_authorities admin_pins locking_pins locking_ranges locking_mbr_controls admin_aces authority_aces pin_aces range_get_aces range_aces mbr_aces this_sp_grants owner_grants authority_grants fixed_ace_gets user_ace_grants read_locked_ace_grants write_locked_ace_grants done_ace_grants pin_grants range_get_ace_grants range_get_grants range_set_grants mbr_grants first_lexeme expect number_at uid_at values_up_to list_with list_value_with named_with value_after_token list_at status_at call_at reply_at message_at message_in number_spelling bytes_spelling any_below ranges_in verdict_of is_range listed_among cells_for zeros sectors_from authorities_of_locking any_to
row_malformed = refl
