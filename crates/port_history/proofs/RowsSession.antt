-- A worked row over a session: a Set locks a range between a read's first acceptance and its
-- second.
use Rattle.std.proofs.Common.{◌≡◌, ℕ, true, List, [], ◌∷◌, ◌++◌, refl}
use Rattle.sp_cells.specs.Authorities.{authorities_of_locking}
use Rattle.sp_cells.specs.Names.{locking_sp, admin_uid, range_uid}
use Rattle.sp_tables.specs.Faults.{any_to}
use Rattle.sp_tables.specs.Factory.{admin_sps, admin_authorities, locking_authorities, admin_pins, locking_pins, locking_ranges, locking_mbr_controls, admin_aces, authority_aces, pin_aces, range_get_aces, range_aces, mbr_aces}
use Rattle.ace_eval.specs.Access.{this_sp_grants, owner_grants, authority_grants, fixed_ace_gets, user_ace_grants, read_locked_ace_grants, write_locked_ace_grants, done_ace_grants, pin_grants, range_get_ace_grants, range_get_grants, range_set_grants, mbr_grants}
use Rattle.locking.specs.Ranges.{ranges_in}
use Rattle.locking.specs.Verdict.{verdict_of}
use Rattle.audit.specs.declared.reason.Why.TheVariants.{ReadLocked}
use Rattle.compacket.specs.Spelling.{frame_bytes}
use Rattle.device_data.specs.ErrorLog.{sized}
use Rattle.shadow_mbr.specs.Stored.{zeros, sectors_from}
use Rattle.tcg_tokens.specs.Lex.{first_lexeme}
use Rattle.tcg_tokens.specs.Message.{Message}
use Rattle.tcg_tokens.specs.Reading.{expect, number_at, uid_at, values_up_to, list_with, list_value_with, named_with, value_after_token, list_at, status_at, call_at, reply_at, message_at, reading as message_in}
use Rattle.tcg_tokens.specs.Spelling.{number_spelling, bytes_spelling, item_spelling_of}
use Rattle.tcg_tokens.specs.Tree as tree
use Rattle.transactions.specs.Resets.{is_range}
use Rattle.methods.specs.Listed.{listed_among}
use Rattle.methods.specs.Settings.{cells_for}
use Rattle.history.specs.Decisions.{any_below}
use Rattle.history.proofs.Scripts.{msid, start_as, set_cells}
use Rattle.port_history.specs.declared.request.Request.{Request}
use Rattle.port_history.specs.declared.request.Request.TheVariants.{Read, Send, Receive}
use Rattle.port_history.specs.declared.step.Step.{Step}
use Rattle.port_history.specs.declared.step.Step.TheVariants.{Put, Issue, Accept, Recover}
use Rattle.port_history.specs.Steps.{trace, audit}
use Rattle.port_history.proofs.Rows.{are_lawful, locked}

-- The request that sends a message to ComID 1000h.
told : ℕ → ℕ → Message → Request
told tsn hsn message =
    Send 1 0x1000
    (sized 512 (frame_bytes 0x1000 (record { tsn = tsn; hsn = hsn })
    (item_spelling_of message)))

-- Three steps that bring a request to the device, the newest first.
brings : ℕ → ℕ → Request → List Step
brings client tag request = Accept tag ∷ Issue tag ∷ Put client tag request ∷ []

-- Reads of 100 and of 200 are accepted, the first is denied, and the port recovers; client 2 signs
-- in and locks range 2.
locks : List Step
locks =
    brings 2 2 (told 0x1000 1 (set_cells (range_uid 2) ((7, tree.number 1) ∷ [])))
    ++ brings 2 1 (Receive 1 0x1000 2)
    ++ brings 2 0 (told 0 0 (start_as locking_sp (admin_uid 1) msid))
    ++ Recover ∷ Accept 3 ∷ Accept 5 ∷ Issue 3 ∷ Issue 5 ∷ Put 1 5 (Read 200 1)
    ∷ Put 1 3 (Read 100 1) ∷ []

-- The read of 200 goes by the rows in force at its last acceptance.
row_last : audit (trace locked (Accept 5 ∷ Issue 5 ∷ locks)) ≡
    (record { step = 18; client = 1; why = ReadLocked 200 1 2 })
    ∷ (record { step = 6; client = 1; why = ReadLocked 100 1 1 }) ∷ []
unfolding locked told brings locks admin_sps admin_authorities locking_authorities admin_pins locking_pins locking_ranges locking_mbr_controls admin_aces authority_aces pin_aces range_get_aces range_aces mbr_aces this_sp_grants owner_grants authority_grants fixed_ace_gets user_ace_grants read_locked_ace_grants write_locked_ace_grants done_ace_grants pin_grants range_get_ace_grants range_get_grants range_set_grants mbr_grants first_lexeme expect number_at uid_at values_up_to list_with list_value_with named_with value_after_token list_at status_at call_at reply_at message_at message_in number_spelling bytes_spelling any_below ranges_in verdict_of is_range listed_among cells_for zeros sectors_from authorities_of_locking any_to
row_last = refl

-- Each step is lawful.
row_lawful : are_lawful locked (Accept 5 ∷ Issue 5 ∷ locks) ≡ true
unfolding are_lawful locked told brings locks admin_sps admin_authorities locking_authorities admin_pins locking_pins locking_ranges locking_mbr_controls admin_aces authority_aces pin_aces range_get_aces range_aces mbr_aces this_sp_grants owner_grants authority_grants fixed_ace_gets user_ace_grants read_locked_ace_grants write_locked_ace_grants done_ace_grants pin_grants range_get_ace_grants range_get_grants range_set_grants mbr_grants first_lexeme expect number_at uid_at values_up_to list_with list_value_with named_with value_after_token list_at status_at call_at reply_at message_at message_in number_spelling bytes_spelling any_below ranges_in verdict_of is_range listed_among cells_for zeros sectors_from authorities_of_locking any_to
row_lawful = refl
