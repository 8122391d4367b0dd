-- Tries stand outside transactions.
use Rattle.std.proofs.Common.{◌≡◌, ℕ, List, [], ◌∷◌, ◌++◌, reverse, refl}
use Rattle.std.specs.Prelude.{drop}
use Rattle.sp_cells.specs.declared.names.Sp.TheVariants.{Locking}
use Rattle.sp_cells.specs.Authorities.{authorities_of_locking}
use Rattle.sp_cells.specs.Names.{locking_sp, admin_uid, admin_pin_uid}
use Rattle.sp_tables.specs.Faults.{any_to}
use Rattle.sp_tables.specs.Factory.{admin_sps, admin_authorities, locking_authorities, admin_pins, locking_pins, locking_ranges, locking_mbr_controls, admin_aces, authority_aces, pin_aces, range_get_aces, range_aces, mbr_aces}
use Rattle.ace_eval.specs.Access.{this_sp_grants, owner_grants, authority_grants, fixed_ace_gets, user_ace_grants, read_locked_ace_grants, write_locked_ace_grants, done_ace_grants, pin_grants, range_get_ace_grants, range_get_grants, range_set_grants, mbr_grants}
use Rattle.locking.specs.Ranges.{ranges_in}
use Rattle.locking.specs.Verdict.{verdict_of}
use Rattle.audit.specs.declared.reason.AttemptFailure.TheVariants.{WrongPin, LockedOut}
use Rattle.audit.specs.declared.reason.Why.{Why}
use Rattle.audit.specs.declared.reason.Why.TheVariants.{AttemptFailed}
use Rattle.shadow_mbr.specs.Stored.{zeros, sectors_from}
use Rattle.tcg_tokens.specs.Lex.{first_lexeme}
use Rattle.tcg_tokens.specs.Reading.{expect, number_at, uid_at, values_up_to, list_with, list_value_with, named_with, value_after_token, list_at, status_at, call_at, reply_at, message_at, reading as message_in}
use Rattle.tcg_tokens.specs.Spelling.{number_spelling, bytes_spelling}
use Rattle.tcg_tokens.specs.Message.{Message, begin, end}
use Rattle.tcg_tokens.specs.Tree.{Tree, Trees, trees_of}
use Rattle.tcg_tokens.specs.Tree as tree
use Rattle.transactions.specs.Resets.{is_range}
use Rattle.sessions.specs.Starts.{sync_message}
use Rattle.methods.specs.Listed.{listed_among}
use Rattle.methods.specs.Settings.{cells_for}
use Rattle.methods.specs.Said.{refusal_of, reply_of}
use Rattle.history.specs.Readers.{tries}
use Rattle.history.specs.Decisions.{any_below}
use Rattle.history.specs.History.{Act, Reset, log}
use Rattle.history.proofs.Scripts.{msid, activated, tell, start_as, start_anybody, in_it, get_cells, set_cells, try_pin, replies, whys, said}

wrong : Message
wrong = try_pin (admin_uid 1) (1 ∷ [])

attempts : List Act
attempts =
    tell 0x1000 0 0 (start_anybody locking_sp)
    ++ in_it (begin 0) ++ in_it wrong ++ in_it wrong ++ in_it wrong ++ in_it wrong ++ in_it (end 1) ++ in_it wrong ++ in_it (try_pin (admin_uid 1) msid)

no : List ℕ
no = 0xf0 ∷ 0 ∷ 0xf1 ∷ 0xf9 ∷ 0xf0 ∷ 0 ∷ 0 ∷ 0 ∷ 0xf1 ∷ []

tries_run_out : replies activated (attempts ++ Reset 0 ∷ tell 0x1000 0 0 (start_as locking_sp (admin_uid 1) msid)) ≡
    said (sync_message 1 0x1000 0) ∷ (0xfb ∷ 0 ∷ []) ∷ no ∷ no ∷ no ∷ no ∷ (0xfc ∷ 1 ∷ []) ∷ no ∷ (0xf0 ∷ 0xf1 ∷ 0xf9 ∷ 0xf0 ∷ 0x12 ∷ 0 ∷ 0 ∷ 0xf1 ∷ []) ∷ said (sync_message 1 0x1001 0) ∷ []
unfolding admin_sps admin_authorities locking_authorities admin_pins locking_pins locking_ranges locking_mbr_controls admin_aces authority_aces pin_aces range_get_aces range_aces mbr_aces this_sp_grants owner_grants authority_grants fixed_ace_gets user_ace_grants read_locked_ace_grants write_locked_ace_grants done_ace_grants pin_grants range_get_ace_grants range_get_grants range_set_grants mbr_grants first_lexeme expect number_at uid_at values_up_to list_with list_value_with named_with value_after_token list_at status_at call_at reply_at message_at message_in number_spelling bytes_spelling any_below ranges_in verdict_of is_range listed_among cells_for zeros sectors_from authorities_of_locking any_to wrong attempts no
tries_run_out = refl

by_pin : Why
by_pin = AttemptFailed Locking (admin_uid 1) WrongPin

tries_reasons : whys activated attempts ≡ by_pin ∷ by_pin ∷ by_pin ∷ by_pin ∷ by_pin ∷ AttemptFailed Locking (admin_uid 1) LockedOut ∷ []
unfolding admin_sps admin_authorities locking_authorities admin_pins locking_pins locking_ranges locking_mbr_controls admin_aces authority_aces pin_aces range_get_aces range_aces mbr_aces this_sp_grants owner_grants authority_grants fixed_ace_gets user_ace_grants read_locked_ace_grants write_locked_ace_grants done_ace_grants pin_grants range_get_ace_grants range_get_grants range_set_grants mbr_grants first_lexeme expect number_at uid_at values_up_to list_with list_value_with named_with value_after_token list_at status_at call_at reply_at message_at message_in number_spelling bytes_spelling any_below ranges_in verdict_of is_range listed_among cells_for zeros sectors_from authorities_of_locking any_to wrong attempts by_pin
tries_reasons = refl

-- In an open transaction its Tries are read, and after the abort as well.
tries_read : ℕ → List Act
tries_read n =
    tell 0x1000 0 0 (start_as locking_sp (admin_uid 1) msid) ++ in_it (begin 0) ++ in_it wrong ++ in_it (get_cells (admin_pin_uid 1) 6 6) ++ in_it (end n) ++ in_it (get_cells (admin_pin_uid 1) 6 6)

one_try : List ℕ
one_try = 0xf0 ∷ 0xf0 ∷ 0xf2 ∷ 0x06 ∷ 0x01 ∷ 0xf3 ∷ 0xf1 ∷ 0xf1 ∷ 0xf9 ∷ 0xf0 ∷ 0 ∷ 0 ∷ 0 ∷ 0xf1 ∷ []

row_tries : replies activated (tries_read 1) ≡ said (sync_message 1 0x1000 0) ∷ (0xfb ∷ 0 ∷ []) ∷ no ∷ one_try ∷ (0xfc ∷ 1 ∷ []) ∷ one_try ∷ []
unfolding admin_sps admin_authorities locking_authorities admin_pins locking_pins locking_ranges locking_mbr_controls admin_aces authority_aces pin_aces range_get_aces range_aces mbr_aces this_sp_grants owner_grants authority_grants fixed_ace_gets user_ace_grants read_locked_ace_grants write_locked_ace_grants done_ace_grants pin_grants range_get_ace_grants range_get_grants range_set_grants mbr_grants first_lexeme expect number_at uid_at values_up_to list_with list_value_with named_with value_after_token list_at status_at call_at reply_at message_at message_in number_spelling bytes_spelling any_below ranges_in verdict_of is_range listed_among cells_for zeros sectors_from authorities_of_locking any_to wrong no tries_read one_try
row_tries = refl

-- A wrong PIN in a StartSession that is refused because the SP is busy is not counted.
busy_start : tries (log activated (reverse (tell 0x1000 0 0 (start_anybody locking_sp) ++ tell 0x1000 0 0 (start_as locking_sp (admin_uid 1) (1 ∷ []))))) Locking (admin_pin_uid 1) ≡ 0
unfolding admin_sps admin_authorities locking_authorities admin_pins locking_pins locking_ranges locking_mbr_controls admin_aces authority_aces pin_aces range_get_aces range_aces mbr_aces this_sp_grants owner_grants authority_grants fixed_ace_gets user_ace_grants read_locked_ace_grants write_locked_ace_grants done_ace_grants pin_grants range_get_ace_grants range_get_grants range_set_grants mbr_grants first_lexeme expect number_at uid_at values_up_to list_with list_value_with named_with value_after_token list_at status_at call_at reply_at message_at message_in number_spelling bytes_spelling any_below ranges_in verdict_of is_range listed_among cells_for zeros sectors_from authorities_of_locking any_to
busy_start = refl

-- A hardware reset behind the fourth wrong PIN keeps Tries, a power cycle does not; numbers go on.
in_next : Message → List Act
in_next message = tell 0x1000 0x1001 1 message

reset_between : ℕ → List Act
reset_between kind =
    tell 0x1000 0 0 (start_anybody locking_sp) ++ in_it wrong ++ in_it wrong ++ in_it wrong ++ in_it wrong ++ Reset kind
    ∷ tell 0x1000 0 0 (start_anybody locking_sp) ++ in_next wrong ++ in_next (try_pin (admin_uid 1) msid)

row_hardware : drop 5 (replies activated (reset_between 1)) ≡ said (sync_message 1 0x1001 0) ∷ no ∷ said (refusal_of 0x12) ∷ []
unfolding admin_sps admin_authorities locking_authorities admin_pins locking_pins locking_ranges locking_mbr_controls admin_aces authority_aces pin_aces range_get_aces range_aces mbr_aces this_sp_grants owner_grants authority_grants fixed_ace_gets user_ace_grants read_locked_ace_grants write_locked_ace_grants done_ace_grants pin_grants range_get_ace_grants range_get_grants range_set_grants mbr_grants first_lexeme expect number_at uid_at values_up_to list_with list_value_with named_with value_after_token list_at status_at call_at reply_at message_at message_in number_spelling bytes_spelling any_below ranges_in verdict_of is_range listed_among cells_for zeros sectors_from authorities_of_locking any_to wrong no in_next reset_between
row_hardware = refl

row_power : drop 5 (replies activated (reset_between 0)) ≡ said (sync_message 1 0x1001 0) ∷ no ∷ said (reply_of (tree.number 1 ∷ []) 0) ∷ []
unfolding admin_sps admin_authorities locking_authorities admin_pins locking_pins locking_ranges locking_mbr_controls admin_aces authority_aces pin_aces range_get_aces range_aces mbr_aces this_sp_grants owner_grants authority_grants fixed_ace_gets user_ace_grants read_locked_ace_grants write_locked_ace_grants done_ace_grants pin_grants range_get_ace_grants range_get_grants range_set_grants mbr_grants first_lexeme expect number_at uid_at values_up_to list_with list_value_with named_with value_after_token list_at status_at call_at reply_at message_at message_in number_spelling bytes_spelling any_below ranges_in verdict_of is_range listed_among cells_for zeros sectors_from authorities_of_locking any_to wrong no in_next reset_between
row_power = refl

-- Attempts go by the PIN in force, not by one that an open transaction has set.
new_pin : List Act
new_pin =
    tell 0x1000 0 0 (start_as locking_sp (admin_uid 1) msid) ++ in_it (begin 0) ++ in_it (set_cells (admin_pin_uid 1) ((3, tree.bytes (0x41 ∷ [])) ∷ []))
    ++ in_it (try_pin (admin_uid 1) (0x41 ∷ [])) ++ in_it (end 0) ++ in_it (try_pin (admin_uid 1) (0x41 ∷ []))

row_pin : replies activated new_pin ≡ said (sync_message 1 0x1000 0) ∷ (0xfb ∷ 0 ∷ []) ∷ said (refusal_of 0) ∷ no ∷ (0xfc ∷ 0 ∷ []) ∷ said (reply_of (tree.number 1 ∷ []) 0) ∷ []
unfolding admin_sps admin_authorities locking_authorities admin_pins locking_pins locking_ranges locking_mbr_controls admin_aces authority_aces pin_aces range_get_aces range_aces mbr_aces this_sp_grants owner_grants authority_grants fixed_ace_gets user_ace_grants read_locked_ace_grants write_locked_ace_grants done_ace_grants pin_grants range_get_ace_grants range_get_grants range_set_grants mbr_grants first_lexeme expect number_at uid_at values_up_to list_with list_value_with named_with value_after_token list_at status_at call_at reply_at message_at message_in number_spelling bytes_spelling any_below ranges_in verdict_of is_range listed_among cells_for zeros sectors_from authorities_of_locking any_to no new_pin
row_pin = refl
