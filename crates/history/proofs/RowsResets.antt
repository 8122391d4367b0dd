-- The reset that a command makes: it goes by the cell in force, and locks what LockOnReset names.
use Rattle.std.proofs.Common.{◌≡◌, ℕ, ◌*◌, true, false, List, [], ◌∷◌, ◌++◌, map, replicate, refl}
use Rattle.sp_cells.specs.Names.{admin_sp, locking_sp, sid, admin_uid, range_uid, tper_info}
use Rattle.sp_cells.specs.Authorities.{authorities_of_locking}
use Rattle.sp_tables.specs.Faults.{any_to}
use Rattle.sp_tables.specs.Factory.{admin_sps, admin_authorities, locking_authorities, admin_pins, locking_pins, locking_ranges, locking_mbr_controls, admin_aces, authority_aces, pin_aces, range_get_aces, range_aces, mbr_aces}
use Rattle.ace_eval.specs.Access.{this_sp_grants, owner_grants, authority_grants, fixed_ace_gets, user_ace_grants, read_locked_ace_grants, write_locked_ace_grants, done_ace_grants, pin_grants, range_get_ace_grants, range_get_grants, range_set_grants, mbr_grants}
use Rattle.locking.specs.Ranges.{ranges_in}
use Rattle.locking.specs.Verdict.{verdict_of}
use Rattle.shadow_mbr.specs.Stored.{zeros, sectors_from}
use Rattle.tcg_tokens.specs.Lex.{first_lexeme}
use Rattle.tcg_tokens.specs.Reading.{expect, number_at, uid_at, values_up_to, list_with, list_value_with, named_with, value_after_token, list_at, status_at, call_at, reply_at, message_at, reading as message_in}
use Rattle.tcg_tokens.specs.Spelling.{number_spelling, bytes_spelling}
use Rattle.transactions.specs.Resets.{is_range}
use Rattle.methods.specs.Listed.{listed_among}
use Rattle.methods.specs.Settings.{cells_for}
use Rattle.history.specs.Decisions.{any_below}
use Rattle.audit.specs.declared.reason.Why.TheVariants.{ReadLocked, WriteLocked}
use Rattle.tcg_tokens.specs.Message.{begin, end}
use Rattle.tcg_tokens.specs.Tree.{trees_of}
use Rattle.tcg_tokens.specs.Tree as tree
use Rattle.history.specs.Opening.{Origin}
use Rattle.history.specs.History.{Act, Accept}
use Rattle.history.proofs.Scripts.{msid, new_drive, range_row, opened, fis, dread, dwrite, tell, start_as, in_it, set_cells, whys, fails_with}

abbrev reset : Act
reset = Accept (fis 0x5f 2 (256 * 4) 1) (replicate 512 0)

-- No command resets a new drive, and its failure has no reason.
refused : fails_with new_drive (reset ∷ []) ≡ 4 ∷ []
unfolding admin_sps admin_authorities locking_authorities admin_pins locking_pins locking_ranges locking_mbr_controls admin_aces authority_aces pin_aces range_get_aces range_aces mbr_aces this_sp_grants owner_grants authority_grants fixed_ace_gets user_ace_grants read_locked_ace_grants write_locked_ace_grants done_ace_grants pin_grants range_get_ace_grants range_get_grants range_set_grants mbr_grants first_lexeme expect number_at uid_at values_up_to list_with list_value_with named_with value_after_token list_at status_at call_at reply_at message_at message_in number_spelling bytes_spelling any_below ranges_in verdict_of is_range listed_among cells_for zeros sectors_from authorities_of_locking any_to
refused = refl

unaudited : whys new_drive (reset ∷ []) ≡ []
unfolding admin_sps admin_authorities locking_authorities admin_pins locking_pins locking_ranges locking_mbr_controls admin_aces authority_aces pin_aces range_get_aces range_aces mbr_aces this_sp_grants owner_grants authority_grants fixed_ace_gets user_ace_grants read_locked_ace_grants write_locked_ace_grants done_ace_grants pin_grants range_get_ace_grants range_get_grants range_set_grants mbr_grants first_lexeme expect number_at uid_at values_up_to list_with list_value_with named_with value_after_token list_at status_at call_at reply_at message_at message_in number_spelling bytes_spelling any_below ranges_in verdict_of is_range listed_among cells_for zeros sectors_from authorities_of_locking any_to
unaudited = refl

-- What an open transaction sets lets no command reset the drive before it is committed.
abbrev owner : List Act
owner = tell 0x1000 0 0 (start_as admin_sp sid msid)

abbrev enabling : List Act
enabling = in_it (set_cells tper_info ((8, tree.number 1) ∷ []))

by_force : fails_with new_drive (owner ++ in_it (begin 0) ++ enabling ++ reset ∷ in_it (end 0) ++ reset ∷ []) ≡ 4 ∷ []
unfolding admin_sps admin_authorities locking_authorities admin_pins locking_pins locking_ranges locking_mbr_controls admin_aces authority_aces pin_aces range_get_aces range_aces mbr_aces this_sp_grants owner_grants authority_grants fixed_ace_gets user_ace_grants read_locked_ace_grants write_locked_ace_grants done_ace_grants pin_grants range_get_ace_grants range_get_grants range_set_grants mbr_grants first_lexeme expect number_at uid_at values_up_to list_with list_value_with named_with value_after_token list_at status_at call_at reply_at message_at message_in number_spelling bytes_spelling any_below ranges_in verdict_of is_range listed_among cells_for zeros sectors_from authorities_of_locking any_to
by_force = refl

-- Nor does one of no block, where the cell lets commands reset.
abbrev of_no_block : Act
of_no_block = Accept (fis 0x5f 2 (256 * 4) 0) []

no_block : fails_with new_drive (owner ++ enabling ++ of_no_block ∷ reset ∷ []) ≡ 4 ∷ []
unfolding admin_sps admin_authorities locking_authorities admin_pins locking_pins locking_ranges locking_mbr_controls admin_aces authority_aces pin_aces range_get_aces range_aces mbr_aces this_sp_grants owner_grants authority_grants fixed_ace_gets user_ace_grants read_locked_ace_grants write_locked_ace_grants done_ace_grants pin_grants range_get_ace_grants range_get_grants range_set_grants mbr_grants first_lexeme expect number_at uid_at values_up_to list_with list_value_with named_with value_after_token list_at status_at call_at reply_at message_at message_in number_spelling bytes_spelling any_below ranges_in verdict_of is_range listed_among cells_for zeros sectors_from authorities_of_locking any_to
no_block = refl

-- A range is locked where its LockOnReset names the kind 3, and stays as it is where it does not.
abbrev enabled : Origin
enabled = opened (range_row 1 100 10 true true false false)

abbrev resetting : List ℕ → List Act
resetting kinds =
    owner ++ enabling ++ tell 0x1001 0 0 (start_as locking_sp (admin_uid 1) msid)
    ++ tell 0x1001 0x1001 1 (set_cells (range_uid 1) ((9, tree.list (trees_of (map tree.number kinds))) ∷ []))
    ++ reset ∷ dread 100 1 ∷ dwrite 109 1 0 ∷ []

locks : whys enabled (resetting (0 ∷ 3 ∷ [])) ≡ ReadLocked 100 1 1 ∷ WriteLocked 109 1 1 ∷ []
unfolding admin_sps admin_authorities locking_authorities admin_pins locking_pins locking_ranges locking_mbr_controls admin_aces authority_aces pin_aces range_get_aces range_aces mbr_aces this_sp_grants owner_grants authority_grants fixed_ace_gets user_ace_grants read_locked_ace_grants write_locked_ace_grants done_ace_grants pin_grants range_get_ace_grants range_get_grants range_set_grants mbr_grants first_lexeme expect number_at uid_at values_up_to list_with list_value_with named_with value_after_token list_at status_at call_at reply_at message_at message_in number_spelling bytes_spelling any_below ranges_in verdict_of is_range listed_among cells_for zeros sectors_from authorities_of_locking any_to
locks = refl

leaves : whys enabled (resetting (0 ∷ [])) ≡ []
unfolding admin_sps admin_authorities locking_authorities admin_pins locking_pins locking_ranges locking_mbr_controls admin_aces authority_aces pin_aces range_get_aces range_aces mbr_aces this_sp_grants owner_grants authority_grants fixed_ace_gets user_ace_grants read_locked_ace_grants write_locked_ace_grants done_ace_grants pin_grants range_get_ace_grants range_get_grants range_set_grants mbr_grants first_lexeme expect number_at uid_at values_up_to list_with list_value_with named_with value_after_token list_at status_at call_at reply_at message_at message_in number_spelling bytes_spelling any_below ranges_in verdict_of is_range listed_among cells_for zeros sectors_from authorities_of_locking any_to
leaves = refl
