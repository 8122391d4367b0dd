-- What Set refuses.
use Rattle.std.proofs.Common.{◌≡◌, ℕ, false, List, [], ◌∷◌, ◌++◌, map, replicate, Some, refl}
use Rattle.std.specs.Prelude.{drop}
use Rattle.std.specs.List.{flat_map}
use Rattle.sp_cells.specs.declared.names.Sp.TheVariants.{Locking}
use Rattle.sp_cells.specs.declared.names.Uid.{Uid as UidType}
use Rattle.sp_cells.specs.declared.cells.Element.TheVariants.{Authority}
use Rattle.sp_cells.specs.Authorities.{authorities_of_locking}
use Rattle.sp_cells.specs.Names.{locking_sp, admin_uid, user_uid, admin_pin_uid, global_range, range_uid, mbr_table, ace_range_set_read_locked, get, set, admins_class, session_manager, start_session, properties}
use Rattle.sp_cells.specs.ColumnNames.{range_start_column}
use Rattle.sp_tables.specs.Faults.{any_to}
use Rattle.sp_tables.specs.Factory.{admin_sps, admin_authorities, locking_authorities, admin_pins, locking_pins, locking_ranges, locking_mbr_controls, admin_aces, authority_aces, pin_aces, range_get_aces, range_aces, mbr_aces}
use Rattle.ace_eval.specs.Access.{this_sp_grants, owner_grants, authority_grants, fixed_ace_gets, user_ace_grants, read_locked_ace_grants, write_locked_ace_grants, done_ace_grants, pin_grants, range_get_ace_grants, range_get_grants, range_set_grants, mbr_grants}
use Rattle.locking.specs.Ranges.{ranges_in}
use Rattle.locking.specs.Verdict.{verdict_of}
use Rattle.audit.specs.declared.reason.AttemptFailure.TheVariants.{Disabled, Unknown}
use Rattle.audit.specs.declared.reason.Why.TheVariants.{NoEntryHolds, NoAccessRow, AttemptFailed}
use Rattle.shadow_mbr.specs.Stored.{zeros, sectors_from}
use Rattle.tcg_tokens.specs.Lex.{first_lexeme}
use Rattle.tcg_tokens.specs.Reading.{expect, number_at, uid_at, values_up_to, list_with, list_value_with, named_with, value_after_token, list_at, status_at, call_at, reply_at, message_at, reading as message_in}
use Rattle.tcg_tokens.specs.Spelling.{number_spelling, bytes_spelling}
use Rattle.tcg_tokens.specs.Message.{Message}
use Rattle.tcg_tokens.specs.Tree.{Tree, Trees, trees_of}
use Rattle.tcg_tokens.specs.Tree as tree
use Rattle.transactions.specs.Resets.{is_range}
use Rattle.methods.specs.Listed.{listed_among}
use Rattle.methods.specs.Settings.{cells_for}
use Rattle.sessions.specs.Starts.{sync_message}
use Rattle.sessions.specs.Properties.{properties_call}
use Rattle.methods.specs.Said.{refusal_of}
use Rattle.tcg_calls.specs.CellValues.{element_tree}
use Rattle.history.specs.Decisions.{any_below}
use Rattle.history.specs.History.{Act}
use Rattle.history.proofs.Scripts.{uid_tree, unknown_uid, msid, range_row, activated, opened, tell, call_of, start_as, in_it, set_cells, try_pin, replies, whys, said}

signed_in : List Act
signed_in = tell 0x1000 0 0 (start_as locking_sp (admin_uid 1) msid)

column_twice : replies activated (signed_in ++ in_it (set_cells (range_uid 1) ((7, tree.number 1) ∷ (7, tree.number 1) ∷ []))) ≡ said (sync_message 1 0x1000 0) ∷ said (refusal_of 0x0c) ∷ []
unfolding admin_sps admin_authorities locking_authorities admin_pins locking_pins locking_ranges locking_mbr_controls admin_aces authority_aces pin_aces range_get_aces range_aces mbr_aces this_sp_grants owner_grants authority_grants fixed_ace_gets user_ace_grants read_locked_ace_grants write_locked_ace_grants done_ace_grants pin_grants range_get_ace_grants range_get_grants range_set_grants mbr_grants first_lexeme expect number_at uid_at values_up_to list_with list_value_with named_with value_after_token list_at status_at call_at reply_at message_at message_in number_spelling bytes_spelling any_below ranges_in verdict_of is_range listed_among cells_for zeros sectors_from authorities_of_locking any_to signed_in
column_twice = refl

global_start : whys activated (signed_in ++ in_it (set_cells global_range ((3, tree.number 1) ∷ []))) ≡ NoEntryHolds Locking global_range set (Some range_start_column) (record { items = [] }) ∷ []
unfolding admin_sps admin_authorities locking_authorities admin_pins locking_pins locking_ranges locking_mbr_controls admin_aces authority_aces pin_aces range_get_aces range_aces mbr_aces this_sp_grants owner_grants authority_grants fixed_ace_gets user_ace_grants read_locked_ace_grants write_locked_ace_grants done_ace_grants pin_grants range_get_ace_grants range_get_grants range_set_grants mbr_grants first_lexeme expect number_at uid_at values_up_to list_with list_value_with named_with value_after_token list_at status_at call_at reply_at message_at message_in number_spelling bytes_spelling any_below ranges_in verdict_of is_range listed_among cells_for zeros sectors_from authorities_of_locking any_to signed_in
global_start = refl

bounds : ℕ → ℕ → Message
bounds start len = set_cells (range_uid 2) ((3, tree.number start) ∷ (4, tree.number len) ∷ [])

bounds_of_ranges : replies (opened (range_row 1 100 10 false false false false)) (signed_in ++ in_it (bounds 109 1) ++ in_it (bounds 110 890) ++ in_it (bounds 110 891)) ≡
    said (sync_message 1 0x1000 0) ∷ said (refusal_of 0x0c) ∷ said (refusal_of 0) ∷ said (refusal_of 0x0c) ∷ []
unfolding admin_sps admin_authorities locking_authorities admin_pins locking_pins locking_ranges locking_mbr_controls admin_aces authority_aces pin_aces range_get_aces range_aces mbr_aces this_sp_grants owner_grants authority_grants fixed_ace_gets user_ace_grants read_locked_ace_grants write_locked_ace_grants done_ace_grants pin_grants range_get_ace_grants range_get_grants range_set_grants mbr_grants first_lexeme expect number_at uid_at values_up_to list_with list_value_with named_with value_after_token list_at status_at call_at reply_at message_at message_in number_spelling bytes_spelling any_below ranges_in verdict_of is_range listed_among cells_for zeros sectors_from authorities_of_locking any_to signed_in bounds
bounds_of_ranges = refl

-- Values of Set.
pin_of : ℕ → Message
pin_of n = set_cells (admin_pin_uid 1) ((3, tree.bytes (replicate n 0x41)) ∷ [])

resets : List ℕ → Message
resets ns = set_cells (range_uid 1) ((9, tree.list (trees_of (map tree.number ns))) ∷ [])

expression : UidType → Message
expression authority = set_cells (ace_range_set_read_locked 1) ((3, tree.list (trees_of (element_tree (Authority authority) ∷ []))) ∷ [])

statuses : List Message → List (List ℕ)
statuses messages = drop 1 (replies activated (signed_in ++ flat_map in_it messages))

row_values : statuses (pin_of 33 ∷ pin_of 32 ∷ set_cells (range_uid 1) ((5, tree.number 2) ∷ []) ∷ resets (0 ∷ 0 ∷ []) ∷ resets (2 ∷ []) ∷ resets (1 ∷ 0 ∷ []) ∷ resets [] ∷ expression (user_uid 17) ∷ expression (user_uid 16) ∷ []) ≡
    said (refusal_of 0x0c) ∷ said (refusal_of 0) ∷ said (refusal_of 0x0c) ∷ said (refusal_of 0x0c) ∷ said (refusal_of 0x0c) ∷ said (refusal_of 0) ∷ said (refusal_of 0) ∷ said (refusal_of 0x0c) ∷ said (refusal_of 0) ∷ []
unfolding admin_sps admin_authorities locking_authorities admin_pins locking_pins locking_ranges locking_mbr_controls admin_aces authority_aces pin_aces range_get_aces range_aces mbr_aces this_sp_grants owner_grants authority_grants fixed_ace_gets user_ace_grants read_locked_ace_grants write_locked_ace_grants done_ace_grants pin_grants range_get_ace_grants range_get_grants range_set_grants mbr_grants first_lexeme expect number_at uid_at values_up_to list_with list_value_with named_with value_after_token list_at status_at call_at reply_at message_at message_in number_spelling bytes_spelling any_below ranges_in verdict_of is_range listed_among cells_for zeros sectors_from authorities_of_locking any_to signed_in pin_of resets expression statuses
row_values = refl

-- No columns, no Named 1, bytes at the end of the shadow and one past it, a method that is not known, and a misshapen call of an unknown object.
set_bytes : ℕ → List ℕ → Message
set_bytes place content = call_of mbr_table set (tree.named (tree.number 0) (tree.number place) ∷ tree.named (tree.number 1) (tree.bytes content) ∷ [])

row_shapes : statuses (set_cells (range_uid 1) [] ∷ call_of (range_uid 1) set [] ∷ set_bytes 4096 [] ∷ set_bytes 4097 [] ∷ set_bytes 4096 (1 ∷ []) ∷ call_of (range_uid 1) unknown_uid [] ∷ call_of unknown_uid set [] ∷ call_of unknown_uid get [] ∷ []) ≡
    said (refusal_of 0) ∷ said (refusal_of 0x0c) ∷ said (refusal_of 0) ∷ said (refusal_of 0x0c) ∷ said (refusal_of 0x0c) ∷ said (refusal_of 1) ∷ said (refusal_of 0x0c) ∷ said (refusal_of 0x0c) ∷ []
unfolding admin_sps admin_authorities locking_authorities admin_pins locking_pins locking_ranges locking_mbr_controls admin_aces authority_aces pin_aces range_get_aces range_aces mbr_aces this_sp_grants owner_grants authority_grants fixed_ace_gets user_ace_grants read_locked_ace_grants write_locked_ace_grants done_ace_grants pin_grants range_get_ace_grants range_get_grants range_set_grants mbr_grants first_lexeme expect number_at uid_at values_up_to list_with list_value_with named_with value_after_token list_at status_at call_at reply_at message_at message_in number_spelling bytes_spelling any_below ranges_in verdict_of is_range listed_among cells_for zeros sectors_from authorities_of_locking any_to signed_in set_bytes statuses
row_shapes = refl

row_no_row : whys activated (signed_in ++ in_it (call_of (range_uid 1) unknown_uid [])) ≡ NoAccessRow Locking (range_uid 1) unknown_uid ∷ []
unfolding admin_sps admin_authorities locking_authorities admin_pins locking_pins locking_ranges locking_mbr_controls admin_aces authority_aces pin_aces range_get_aces range_aces mbr_aces this_sp_grants owner_grants authority_grants fixed_ace_gets user_ace_grants read_locked_ace_grants write_locked_ace_grants done_ace_grants pin_grants range_get_ace_grants range_get_grants range_set_grants mbr_grants first_lexeme expect number_at uid_at values_up_to list_with list_value_with named_with value_after_token list_at status_at call_at reply_at message_at message_in number_spelling bytes_spelling any_below ranges_in verdict_of is_range listed_among cells_for zeros sectors_from authorities_of_locking any_to signed_in
row_no_row = refl

-- Attempts on who is disabled, a class, no authority at all; and a StartSession of the wrong shape.
row_attempts : whys activated (signed_in ++ in_it (try_pin (user_uid 1) []) ++ in_it (try_pin admins_class []) ++ in_it (try_pin (range_uid 1) [])) ≡
    AttemptFailed Locking (user_uid 1) Disabled ∷ AttemptFailed Locking admins_class Unknown ∷ AttemptFailed Locking (range_uid 1) Unknown ∷ []
unfolding admin_sps admin_authorities locking_authorities admin_pins locking_pins locking_ranges locking_mbr_controls admin_aces authority_aces pin_aces range_get_aces range_aces mbr_aces this_sp_grants owner_grants authority_grants fixed_ace_gets user_ace_grants read_locked_ace_grants write_locked_ace_grants done_ace_grants pin_grants range_get_ace_grants range_get_grants range_set_grants mbr_grants first_lexeme expect number_at uid_at values_up_to list_with list_value_with named_with value_after_token list_at status_at call_at reply_at message_at message_in number_spelling bytes_spelling any_below ranges_in verdict_of is_range listed_among cells_for zeros sectors_from authorities_of_locking any_to signed_in
row_attempts = refl

challenge_alone : Message
challenge_alone = call_of session_manager start_session (tree.number 9 ∷ uid_tree locking_sp ∷ tree.number 1 ∷ tree.named (tree.number 0) (tree.bytes []) ∷ [])

row_start_shapes : replies activated (tell 0x1000 0 0 challenge_alone ++ tell 0x1000 0 0 (call_of session_manager start_session (tree.bytes [] ∷ [])) ++ tell 0x1000 0 0 (call_of session_manager properties (tree.number 1 ∷ []))) ≡
    said (sync_message 9 0 0x0c) ∷ said (sync_message 0 0 0x0c) ∷ said (properties_call [] 0x0c) ∷ []
unfolding admin_sps admin_authorities locking_authorities admin_pins locking_pins locking_ranges locking_mbr_controls admin_aces authority_aces pin_aces range_get_aces range_aces mbr_aces this_sp_grants owner_grants authority_grants fixed_ace_gets user_ace_grants read_locked_ace_grants write_locked_ace_grants done_ace_grants pin_grants range_get_ace_grants range_get_grants range_set_grants mbr_grants first_lexeme expect number_at uid_at values_up_to list_with list_value_with named_with value_after_token list_at status_at call_at reply_at message_at message_in number_spelling bytes_spelling any_below ranges_in verdict_of is_range listed_among cells_for zeros sectors_from authorities_of_locking any_to challenge_alone
row_start_shapes = refl
