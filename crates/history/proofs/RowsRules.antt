-- Which rule refuses what no access control denies: one row for each rule, with the numbers of the standards and of this drive.
use Rattle.std.proofs.Common.{◌≡◌, ℕ, false, List, [], ◌∷◌, ◌++◌, map, replicate, Some, refl}
use Rattle.std.specs.Prelude.{drop}
use Rattle.std.specs.List.{flat_map}
use Rattle.sp_cells.specs.declared.names.Sp.TheVariants.{Locking}
use Rattle.sp_cells.specs.declared.names.Uid.{Uid as UidType}
use Rattle.sp_cells.specs.declared.cells.Element.TheVariants.{Authority}
use Rattle.sp_cells.specs.Authorities.{authorities_of_locking}
use Rattle.sp_cells.specs.Names.{locking_sp, admin_uid, user_uid, admin_pin_uid, global_range, range_uid, mbr_table, ace_range_set_read_locked, get, set, admins_class, session_manager, start_session, properties}
use Rattle.sp_cells.specs.ColumnNames.{range_start_column}
use Rattle.sp_tables.specs.Faults.{any_to}
use Rattle.sp_tables.specs.Factory.{admin_sps, admin_authorities, locking_authorities, admin_pins, locking_pins, locking_ranges, locking_mbr_controls, admin_aces, authority_aces, pin_aces, range_get_aces, range_aces, mbr_aces}
use Rattle.ace_eval.specs.Access.{this_sp_grants, owner_grants, authority_grants, fixed_ace_gets, user_ace_grants, read_locked_ace_grants, write_locked_ace_grants, done_ace_grants, pin_grants, range_get_ace_grants, range_get_grants, range_set_grants, mbr_grants}
use Rattle.locking.specs.Ranges.{ranges_in}
use Rattle.locking.specs.Verdict.{verdict_of}
use Rattle.audit.specs.declared.reason.AttemptFailure.TheVariants.{Disabled}
use Rattle.audit.specs.declared.reason.Why.TheVariants.{NoEntryHolds, NoAccessRow, AttemptFailed}
use Rattle.shadow_mbr.specs.Stored.{zeros, sectors_from}
use Rattle.tcg_tokens.specs.Lex.{first_lexeme}
use Rattle.tcg_tokens.specs.Reading.{expect, number_at, uid_at, values_up_to, list_with, list_value_with, named_with, value_after_token, list_at, status_at, call_at, reply_at, message_at, reading as message_in}
use Rattle.tcg_tokens.specs.Spelling.{number_spelling, bytes_spelling}
use Rattle.tcg_tokens.specs.Message.{Message}
use Rattle.tcg_tokens.specs.Tree.{Tree, Trees, trees_of}
use Rattle.tcg_tokens.specs.Tree as tree
use Rattle.transactions.specs.Resets.{is_range}
use Rattle.methods.specs.Listed.{listed_among}
use Rattle.methods.specs.Settings.{cells_for}
use Rattle.sessions.specs.Starts.{sync_message}
use Rattle.sessions.specs.Properties.{properties_call}
use Rattle.methods.specs.Said.{refusal_of}
use Rattle.tcg_calls.specs.CellValues.{element_tree}
use Rattle.history.specs.Decisions.{any_below}
use Rattle.history.specs.History.{Act}
use Rattle.history.proofs.Scripts.{unknown_uid, msid, range_row, new_drive, activated, opened, fis, dread, read_queued, write_queued, send, receive, tell, call_of, start_as, start_anybody, in_it, set_cells, rules_met}
use Rattle.sp_cells.specs.Names.{admin_sp}
use Rattle.sp_cells.specs.declared.error.SetError.TheVariants.{Overlap, Beyond, Expr}
use Rattle.trusted_cmds.specs.declared.command.CommandError.TheVariants.{Unknown}
use Rattle.audit.specs.declared.rules.rule.Rule.TheVariants.{Shape, WrongValue, NotSet, NotInUse, UnknownSp, SpBusy, NoMethod, AlreadyOpen, NoneOpen, NoSession, NoFrame, Protocol, ComId, ResponseWaits, TagHeld, QueueFailed, Mixed, BeyondDrive, Unreadable}
use Rattle.compacket.specs.Spelling.{frame_bytes}
use Rattle.tcg_tokens.specs.Spelling.{item_spelling_of}
use Rattle.tcg_tokens.specs.Message.{begin, end, end_session}
use Rattle.device_data.specs.ErrorLog.{sized}
use Rattle.history.specs.History.{Accept}

signed_in : List Act
signed_in = tell 0x1000 0 0 (start_as locking_sp (admin_uid 1) msid)

-- Sets: a column twice, a value that is none of its column's, a PIN of 33 bytes, an authority that is none of the Locking SP's, a
-- range that meets another, one that ends one sector beyond 1,000.
bounds : ℕ → ℕ → Message
bounds start len = set_cells (range_uid 2) ((3, tree.number start) ∷ (4, tree.number len) ∷ [])

expression : UidType → Message
expression authority = set_cells (ace_range_set_read_locked 1) ((3, tree.list (trees_of (element_tree (Authority authority) ∷ []))) ∷ [])

row_sets : rules_met (opened (range_row 1 100 10 false false false false)) (signed_in
    ++ in_it (set_cells (range_uid 1) ((7, tree.number 1) ∷ (7, tree.number 1) ∷ []))
    ++ in_it (set_cells (range_uid 1) ((5, tree.number 2) ∷ []))
    ++ in_it (set_cells (admin_pin_uid 1) ((3, tree.bytes (replicate 33 0x41)) ∷ []))
    ++ in_it (expression (user_uid 17)) ++ in_it (bounds 109 1) ++ in_it (bounds 110 890) ++ in_it (bounds 110 891))
    ≡ Shape ∷ WrongValue ∷ WrongValue ∷ NotSet Expr ∷ NotSet Overlap ∷ NotSet Beyond ∷ []
unfolding admin_sps admin_authorities locking_authorities admin_pins locking_pins locking_ranges locking_mbr_controls admin_aces authority_aces pin_aces range_get_aces range_aces mbr_aces this_sp_grants owner_grants authority_grants fixed_ace_gets user_ace_grants read_locked_ace_grants write_locked_ace_grants done_ace_grants pin_grants range_get_ace_grants range_get_grants range_set_grants mbr_grants first_lexeme expect number_at uid_at values_up_to list_with list_value_with named_with value_after_token list_at status_at call_at reply_at message_at message_in number_spelling bytes_spelling any_below ranges_in verdict_of is_range listed_among cells_for zeros sectors_from authorities_of_locking any_to signed_in bounds expression
row_sets = refl

-- StartSession: an SP that is not activated, one that there is not, one that is busy, and a call without its shape.
row_starts : rules_met new_drive (tell 0x1000 0 0 (start_anybody locking_sp) ++ tell 0x1000 0 0 (start_anybody unknown_uid) ++ tell 0x1000 0 0 (start_anybody admin_sp)
    ++ tell 0x1001 0 0 (start_anybody admin_sp) ++ tell 0x1001 0 0 (call_of session_manager start_session []) ++ tell 0x1001 0 0 (call_of session_manager get []))
    ≡ NotInUse ∷ UnknownSp ∷ SpBusy ∷ Shape ∷ NoMethod ∷ []
unfolding admin_sps admin_authorities locking_authorities admin_pins locking_pins locking_ranges locking_mbr_controls admin_aces authority_aces pin_aces range_get_aces range_aces mbr_aces this_sp_grants owner_grants authority_grants fixed_ace_gets user_ace_grants read_locked_ace_grants write_locked_ace_grants done_ace_grants pin_grants range_get_ace_grants range_get_grants range_set_grants mbr_grants first_lexeme expect number_at uid_at values_up_to list_with list_value_with named_with value_after_token list_at status_at call_at reply_at message_at message_in number_spelling bytes_spelling any_below ranges_in verdict_of is_range listed_among cells_for zeros sectors_from authorities_of_locking any_to
row_starts = refl

-- Transactions: one that begins within another, and one that ends where none is open; an Activate within one; and what
-- cannot be said to a session.
row_transactions : rules_met activated (signed_in ++ in_it (begin 0) ++ in_it (begin 0) ++ in_it (end 1) ++ in_it (end 0) ++ in_it (call_of unknown_uid get []))
    ≡ AlreadyOpen ∷ NoneOpen ∷ Shape ∷ []
unfolding admin_sps admin_authorities locking_authorities admin_pins locking_pins locking_ranges locking_mbr_controls admin_aces authority_aces pin_aces range_get_aces range_aces mbr_aces this_sp_grants owner_grants authority_grants fixed_ace_gets user_ace_grants read_locked_ace_grants write_locked_ace_grants done_ace_grants pin_grants range_get_ace_grants range_get_grants range_set_grants mbr_grants first_lexeme expect number_at uid_at values_up_to list_with list_value_with named_with value_after_token list_at status_at call_at reply_at message_at message_in number_spelling bytes_spelling any_below ranges_in verdict_of is_range listed_among cells_for zeros sectors_from authorities_of_locking any_to signed_in
row_transactions = refl

-- Frames: a session that does not live, and a ComID that is not the frame's.
row_frames : rules_met new_drive (send 0x1000 0x1000 1 end_session ∷ Accept (fis 0x5f 1 0x100100 1) (sized 512 (frame_bytes 0x1000 (record { tsn = 0x1000; hsn = 1 }) (item_spelling_of end_session))) ∷ [])
    ≡ NoSession ∷ NoFrame ∷ []
unfolding admin_sps admin_authorities locking_authorities admin_pins locking_pins locking_ranges locking_mbr_controls admin_aces authority_aces pin_aces range_get_aces range_aces mbr_aces this_sp_grants owner_grants authority_grants fixed_ace_gets user_ace_grants read_locked_ace_grants write_locked_ace_grants done_ace_grants pin_grants range_get_ace_grants range_get_grants range_set_grants mbr_grants first_lexeme expect number_at uid_at values_up_to list_with list_value_with named_with value_after_token list_at status_at call_at reply_at message_at message_in number_spelling bytes_spelling any_below ranges_in verdict_of is_range listed_among cells_for zeros sectors_from authorities_of_locking any_to
row_frames = refl

-- Trusted commands: another protocol, a ComID that there is not, and a response that waits.
row_trusted : rules_met new_drive (Accept (fis 0x5f 3 0x100000 1) [] ∷ Accept (fis 0x5d 1 0x100400 1) [] ∷ Accept (fis 0x5f 1 0x100400 1) [] ∷ send 0x1000 0 0 (start_anybody admin_sp) ∷ send 0x1000 0 0 (start_anybody admin_sp) ∷ [])
    ≡ Protocol ∷ ComId ∷ ComId ∷ ResponseWaits ∷ []
unfolding admin_sps admin_authorities locking_authorities admin_pins locking_pins locking_ranges locking_mbr_controls admin_aces authority_aces pin_aces range_get_aces range_aces mbr_aces this_sp_grants owner_grants authority_grants fixed_ace_gets user_ace_grants read_locked_ace_grants write_locked_ace_grants done_ace_grants pin_grants range_get_ace_grants range_get_grants range_set_grants mbr_grants first_lexeme expect number_at uid_at values_up_to list_with list_value_with named_with value_after_token list_at status_at call_at reply_at message_at message_in number_spelling bytes_spelling any_below ranges_in verdict_of is_range listed_among cells_for zeros sectors_from authorities_of_locking any_to
row_trusted = refl

-- The queue: a tag that is held; then the queue has failed, and a read waits for its log page.
row_queue : rules_met new_drive (read_queued 1 5 1 ∷ read_queued 1 6 1 ∷ read_queued 2 6 1 ∷ []) ≡ TagHeld ∷ QueueFailed ∷ []
unfolding admin_sps admin_authorities locking_authorities admin_pins locking_pins locking_ranges locking_mbr_controls admin_aces authority_aces pin_aces range_get_aces range_aces mbr_aces this_sp_grants owner_grants authority_grants fixed_ace_gets user_ace_grants read_locked_ace_grants write_locked_ace_grants done_ace_grants pin_grants range_get_ace_grants range_get_grants range_set_grants mbr_grants first_lexeme expect number_at uid_at values_up_to list_with list_value_with named_with value_after_token list_at status_at call_at reply_at message_at message_in number_spelling bytes_spelling any_below ranges_in verdict_of is_range listed_among cells_for zeros sectors_from authorities_of_locking any_to
row_queue = refl

-- A command that is not queued beside a held one, a transfer of the last sector and one more, and a command code that is none.
row_commands : (rules_met new_drive (read_queued 1 5 1 ∷ dread 5 1 ∷ []) ≡ Mixed ∷ []) × (rules_met new_drive (dread 999 1 ∷ dread 999 2 ∷ Accept (fis 0x00 0 0 0) [] ∷ []) ≡ BeyondDrive ∷ Unreadable Unknown ∷ [])
unfolding admin_sps admin_authorities locking_authorities admin_pins locking_pins locking_ranges locking_mbr_controls admin_aces authority_aces pin_aces range_get_aces range_aces mbr_aces this_sp_grants owner_grants authority_grants fixed_ace_gets user_ace_grants read_locked_ace_grants write_locked_ace_grants done_ace_grants pin_grants range_get_ace_grants range_get_grants range_set_grants mbr_grants first_lexeme expect number_at uid_at values_up_to list_with list_value_with named_with value_after_token list_at status_at call_at reply_at message_at message_in number_spelling bytes_spelling any_below ranges_in verdict_of is_range listed_among cells_for zeros sectors_from authorities_of_locking any_to
row_commands = (refl, refl)
