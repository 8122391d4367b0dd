-- An entry's expression decides who sets the read lock of range 1.
use Rattle.std.proofs.Common.{◌≡◌, List, [], ◌∷◌, ◌++◌, Some, refl}
use Rattle.sp_cells.specs.declared.names.Sp.TheVariants.{Locking}
use Rattle.sp_cells.specs.declared.cells.Element.TheVariants.{Authority, And}
use Rattle.sp_cells.specs.Authorities.{authorities_of_locking}
use Rattle.sp_cells.specs.Names.{locking_sp, admin_uid, user_uid, range_uid, ace_range_set_read_locked, ace_locking_admins_set, set}
use Rattle.sp_cells.specs.ColumnNames.{read_locked_column}
use Rattle.sp_tables.specs.Faults.{any_to}
use Rattle.sp_tables.specs.Factory.{admin_sps, admin_authorities, locking_authorities, admin_pins, locking_pins, locking_ranges, locking_mbr_controls, admin_aces, authority_aces, pin_aces, range_get_aces, range_aces, mbr_aces}
use Rattle.ace_eval.specs.Access.{this_sp_grants, owner_grants, authority_grants, fixed_ace_gets, user_ace_grants, read_locked_ace_grants, write_locked_ace_grants, done_ace_grants, pin_grants, range_get_ace_grants, range_get_grants, range_set_grants, mbr_grants}
use Rattle.locking.specs.Ranges.{ranges_in}
use Rattle.locking.specs.Verdict.{verdict_of}
use Rattle.audit.specs.declared.reason.Why.TheVariants.{NoEntryHolds}
use Rattle.shadow_mbr.specs.Stored.{zeros, sectors_from}
use Rattle.tcg_tokens.specs.Lex.{first_lexeme}
use Rattle.tcg_tokens.specs.Reading.{expect, number_at, uid_at, values_up_to, list_with, list_value_with, named_with, value_after_token, list_at, status_at, call_at, reply_at, message_at, reading as message_in}
use Rattle.tcg_tokens.specs.Spelling.{number_spelling, bytes_spelling}
use Rattle.tcg_tokens.specs.Message.{Message, end_session}
use Rattle.tcg_tokens.specs.Tree.{Tree, Trees, trees_of}
use Rattle.tcg_tokens.specs.Tree as tree
use Rattle.transactions.specs.Resets.{is_range}
use Rattle.sessions.specs.Starts.{sync_message}
use Rattle.methods.specs.Listed.{listed_among}
use Rattle.methods.specs.Settings.{cells_for}
use Rattle.methods.specs.Said.{refusal_of, reply_of}
use Rattle.tcg_calls.specs.CellValues.{element_tree}
use Rattle.history.specs.Decisions.{any_below}
use Rattle.history.specs.History.{Act}
use Rattle.history.proofs.Scripts.{msid, activated, tell, start_as, in_it, set_cells, try_pin, replies, whys, said}

elements : Tree
elements = tree.list (trees_of (element_tree (Authority (user_uid 1)) ∷ element_tree (Authority (user_uid 2)) ∷ element_tree And ∷ []))

-- Admin1 gives the entry the expression User1 and User2, enables both, and ends the session.
prepared : List Act
prepared =
    tell 0x1000 0 0 (start_as locking_sp (admin_uid 1) msid)
    ++ in_it (set_cells (ace_range_set_read_locked 1) ((3, elements) ∷ []))
    ++ in_it (set_cells (user_uid 1) ((5, tree.number 1) ∷ [])) ++ in_it (set_cells (user_uid 2) ((5, tree.number 1) ∷ []))
    ++ in_it end_session
    ++ tell 0x1000 0 0 (start_as locking_sp (user_uid 1) [])

in_next : Message → List Act
in_next message = tell 0x1000 0x1001 1 message

lock : Message
lock = set_cells (range_uid 1) ((7, tree.number 1) ∷ [])

entry_denied : whys activated (prepared ++ in_next lock) ≡ NoEntryHolds Locking (range_uid 1) set (Some read_locked_column) (record { items = ace_locking_admins_set ∷ ace_range_set_read_locked 1 ∷ [] }) ∷ []
unfolding admin_sps admin_authorities locking_authorities admin_pins locking_pins locking_ranges locking_mbr_controls admin_aces authority_aces pin_aces range_get_aces range_aces mbr_aces this_sp_grants owner_grants authority_grants fixed_ace_gets user_ace_grants read_locked_ace_grants write_locked_ace_grants done_ace_grants pin_grants range_get_ace_grants range_get_grants range_set_grants mbr_grants first_lexeme expect number_at uid_at values_up_to list_with list_value_with named_with value_after_token list_at status_at call_at reply_at message_at message_in number_spelling bytes_spelling any_below ranges_in verdict_of is_range listed_among cells_for zeros sectors_from authorities_of_locking any_to elements prepared in_next lock
entry_denied = refl

entry_granted : replies activated (prepared ++ in_next (try_pin (user_uid 2) []) ++ in_next lock) ≡
    said (sync_message 1 0x1000 0) ∷ said (refusal_of 0) ∷ said (refusal_of 0) ∷ said (refusal_of 0) ∷ said end_session ∷ said (sync_message 1 0x1001 0)
    ∷ said (reply_of (tree.number 1 ∷ []) 0) ∷ said (refusal_of 0) ∷ []
unfolding admin_sps admin_authorities locking_authorities admin_pins locking_pins locking_ranges locking_mbr_controls admin_aces authority_aces pin_aces range_get_aces range_aces mbr_aces this_sp_grants owner_grants authority_grants fixed_ace_gets user_ace_grants read_locked_ace_grants write_locked_ace_grants done_ace_grants pin_grants range_get_ace_grants range_get_grants range_set_grants mbr_grants first_lexeme expect number_at uid_at values_up_to list_with list_value_with named_with value_after_token list_at status_at call_at reply_at message_at message_in number_spelling bytes_spelling any_below ranges_in verdict_of is_range listed_among cells_for zeros sectors_from authorities_of_locking any_to elements prepared in_next lock
entry_granted = refl
