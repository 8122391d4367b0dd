-- The audit lines of worked scripts, and their texts.
use Rattle.std.proofs.Common.{◌≡◌, ℕ, true, false, List, [], ◌∷◌, map, reverse, refl}
use Rattle.std.specs.Prelude.{codes}
use Rattle.std.specs.Fmt.{digits}
use Rattle.hex.specs.Hex.{encode_with}
use Rattle.audit.specs.AuditText.{line_text}
use Rattle.sp_cells.specs.Names.{admin_sp, c_pin_sid}
use Rattle.sp_cells.specs.Authorities.{authorities_of_locking}
use Rattle.sp_tables.specs.Faults.{any_to}
use Rattle.sp_tables.specs.Factory.{admin_sps, admin_authorities, locking_authorities, admin_pins, locking_pins, locking_ranges, locking_mbr_controls, admin_aces, authority_aces, pin_aces, range_get_aces, range_aces, mbr_aces}
use Rattle.ace_eval.specs.Access.{this_sp_grants, owner_grants, authority_grants, fixed_ace_gets, user_ace_grants, read_locked_ace_grants, write_locked_ace_grants, done_ace_grants, pin_grants, range_get_ace_grants, range_get_grants, range_set_grants, mbr_grants}
use Rattle.locking.specs.Ranges.{ranges_in}
use Rattle.locking.specs.Verdict.{verdict_of}
use Rattle.shadow_mbr.specs.Stored.{zeros, sectors_from}
use Rattle.tcg_tokens.specs.Lex.{first_lexeme}
use Rattle.tcg_tokens.specs.Reading.{expect, number_at, uid_at, values_up_to, list_with, list_value_with, named_with, value_after_token, list_at, status_at, call_at, reply_at, message_at, reading as message_in}
use Rattle.tcg_tokens.specs.Spelling.{number_spelling, bytes_spelling}
use Rattle.transactions.specs.Resets.{is_range}
use Rattle.methods.specs.Listed.{listed_among}
use Rattle.methods.specs.Settings.{cells_for}
use Rattle.history.specs.Opening.{Origin}
use Rattle.history.specs.Decisions.{any_below}
use Rattle.history.specs.Audit.{ClientAct, audit_of_acts}
use Rattle.history.specs.History.{Act}
use Rattle.history.proofs.Scripts.{new_drive, range_row, opened, dread, dwrite, send, receive, start_anybody, get_cells}

-- The texts of the lines, in the order of time.
abbrev texts : Origin → List ClientAct → List (List ℕ)
texts o made = map line_text (reverse (audit_of_acts o (reverse made)))

abbrev by_7 : List Act → List ClientAct
by_7 acts = map (λ act. (7, act)) acts

abbrev locked : Origin
locked = opened (range_row 1 100 10 true false true false)

-- The third act is denied by the range; what is served, and what lies behind the last sector, leaves no line.
range_line : texts locked (by_7 (dread 95 5 ∷ dread 1000 1 ∷ dread 95 6 ∷ dread 110 1 ∷ dwrite 100 10 0xaa ∷ [])) ≡ codes "3 7 deny read 95+6 range 1 ReadLocked" ∷ []
unfolding admin_sps admin_authorities locking_authorities admin_pins locking_pins locking_ranges locking_mbr_controls admin_aces authority_aces pin_aces range_get_aces range_aces mbr_aces this_sp_grants owner_grants authority_grants fixed_ace_gets user_ace_grants read_locked_ace_grants write_locked_ace_grants done_ace_grants pin_grants range_get_ace_grants range_get_grants range_set_grants mbr_grants first_lexeme expect number_at uid_at values_up_to list_with list_value_with named_with value_after_token list_at status_at call_at reply_at message_at message_in number_spelling bytes_spelling any_below ranges_in verdict_of is_range listed_among cells_for zeros sectors_from authorities_of_locking any_to digits encode_with
range_line = refl

-- A Get that no ACE allows, by another client than the session's.
method_line : texts new_drive ((1, send 0x1000 0 0 (start_anybody admin_sp)) ∷ (1, receive 0x1000 2) ∷ (2, send 0x1000 0x1000 1 (get_cells c_pin_sid 0 7)) ∷ []) ≡
    codes "3 2 deny method Admin 0000000b00000001 Get col - need 0000000800008c02" ∷ []
unfolding admin_sps admin_authorities locking_authorities admin_pins locking_pins locking_ranges locking_mbr_controls admin_aces authority_aces pin_aces range_get_aces range_aces mbr_aces this_sp_grants owner_grants authority_grants fixed_ace_gets user_ace_grants read_locked_ace_grants write_locked_ace_grants done_ace_grants pin_grants range_get_ace_grants range_get_grants range_set_grants mbr_grants first_lexeme expect number_at uid_at values_up_to list_with list_value_with named_with value_after_token list_at status_at call_at reply_at message_at message_in number_spelling bytes_spelling any_below ranges_in verdict_of is_range listed_among cells_for zeros sectors_from authorities_of_locking any_to digits encode_with
method_line = refl
