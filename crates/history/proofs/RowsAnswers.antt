-- What accepted commands and completions are answered: FISes, statuses, bytes (Serial ATA, FISes to the host; ACS-3, Status and Error).
use Rattle.std.proofs.Common.{◌≡◌, ℕ, Bool, true, false, List, [], ◌∷◌, ◌++◌, reverse, replicate, refl}
use Rattle.fis.specs.declared.any.Fis.{Fis}
use Rattle.fis.specs.declared.any.Fis.TheVariants as fises
use Rattle.sp_cells.specs.Authorities.{authorities_of_locking}
use Rattle.sp_tables.specs.Faults.{any_to}
use Rattle.sp_tables.specs.Factory.{admin_sps, admin_authorities, locking_authorities, admin_pins, locking_pins, locking_ranges, locking_mbr_controls, admin_aces, authority_aces, pin_aces, range_get_aces, range_aces, mbr_aces}
use Rattle.ace_eval.specs.Access.{this_sp_grants, owner_grants, authority_grants, fixed_ace_gets, user_ace_grants, read_locked_ace_grants, write_locked_ace_grants, done_ace_grants, pin_grants, range_get_ace_grants, range_get_grants, range_set_grants, mbr_grants}
use Rattle.locking.specs.Ranges.{ranges_in}
use Rattle.locking.specs.Verdict.{verdict_of}
use Rattle.shadow_mbr.specs.Stored.{zeros, sectors_from}
use Rattle.tcg_tokens.specs.Lex.{first_lexeme}
use Rattle.tcg_tokens.specs.Reading.{expect, number_at, uid_at, values_up_to, list_with, list_value_with, named_with, value_after_token, list_at, status_at, call_at, reply_at, message_at, reading as message_in}
use Rattle.tcg_tokens.specs.Spelling.{number_spelling, bytes_spelling}
use Rattle.transactions.specs.Resets.{is_range}
use Rattle.methods.specs.Listed.{listed_among}
use Rattle.methods.specs.Settings.{cells_for}
use Rattle.history.specs.Readers.{held}
use Rattle.history.specs.Facts.{facts}
use Rattle.history.specs.Decisions.{any_below}
use Rattle.history.specs.Tcg.{accepted_fises}
use Rattle.history.specs.Answers.{completed_fises, completed_data, expected}
use Rattle.history.specs.History.{Act, Accept, event, log}
use Rattle.history.proofs.Scripts.{new_drive, fis}

-- Register FISes with and without an interrupt, and the PIO Setup FIS of data to the host.
abbrev register : Bool → ℕ → ℕ → Fis
register interrupt status error =
    fises.D2h (record { interrupt = interrupt; port = 0; status = status; error = error; lba = 0; device = 0; count = 0 })

abbrev pio : Bool → ℕ → Fis
pio to_host ended =
    fises.PioSetup (record { interrupt = to_host; to_host = to_host; port = 0; status = 0x58; error = 0; lba = 0; device = 0; count = 0; end_status = ended; transfer_count = 512 })

-- The answer to one FIS on a new drive.
abbrev answer : List ℕ → List ℕ → List Fis
answer f payload = accepted_fises (facts new_drive []) f (event new_drive [] (Accept f payload))

-- A queued transfer that is held; one that fails; a transfer that is served whole.
held_answer : answer (fis 0x60 1 5 40) [] ≡ register false 0x50 0 ∷ []
unfolding admin_sps admin_authorities locking_authorities admin_pins locking_pins locking_ranges locking_mbr_controls admin_aces authority_aces pin_aces range_get_aces range_aces mbr_aces this_sp_grants owner_grants authority_grants fixed_ace_gets user_ace_grants read_locked_ace_grants write_locked_ace_grants done_ace_grants pin_grants range_get_ace_grants range_get_grants range_set_grants mbr_grants first_lexeme expect number_at uid_at values_up_to list_with list_value_with named_with value_after_token list_at status_at call_at reply_at message_at message_in number_spelling bytes_spelling any_below ranges_in verdict_of is_range listed_among cells_for zeros sectors_from authorities_of_locking any_to
held_answer = refl

failed_answer : answer (fis 0x60 1 1000 40) [] ≡ register true 0x51 0x10 ∷ []
unfolding admin_sps admin_authorities locking_authorities admin_pins locking_pins locking_ranges locking_mbr_controls admin_aces authority_aces pin_aces range_get_aces range_aces mbr_aces this_sp_grants owner_grants authority_grants fixed_ace_gets user_ace_grants read_locked_ace_grants write_locked_ace_grants done_ace_grants pin_grants range_get_ace_grants range_get_grants range_set_grants mbr_grants first_lexeme expect number_at uid_at values_up_to list_with list_value_with named_with value_after_token list_at status_at call_at reply_at message_at message_in number_spelling bytes_spelling any_below ranges_in verdict_of is_range listed_among cells_for zeros sectors_from authorities_of_locking any_to
failed_answer = refl

-- The last sector is on the drive, and the one behind it is not.
last_sector : answer (fis 0x25 0 999 1) [] ++ answer (fis 0x60 2 998 40) [] ++ answer (fis 0x60 2 999 40) [] ≡ register true 0x50 0 ∷ register false 0x50 0 ∷ register true 0x51 0x10 ∷ []
unfolding admin_sps admin_authorities locking_authorities admin_pins locking_pins locking_ranges locking_mbr_controls admin_aces authority_aces pin_aces range_get_aces range_aces mbr_aces this_sp_grants owner_grants authority_grants fixed_ace_gets user_ace_grants read_locked_ace_grants write_locked_ace_grants done_ace_grants pin_grants range_get_ace_grants range_get_grants range_set_grants mbr_grants first_lexeme expect number_at uid_at values_up_to list_with list_value_with named_with value_after_token list_at status_at call_at reply_at message_at message_in number_spelling bytes_spelling any_below ranges_in verdict_of is_range listed_among cells_for zeros sectors_from authorities_of_locking any_to
last_sector = refl

unknown_answer : answer (fis 0x20 1 5 40) [] ≡ register true 0x51 4 ∷ []
unfolding admin_sps admin_authorities locking_authorities admin_pins locking_pins locking_ranges locking_mbr_controls admin_aces authority_aces pin_aces range_get_aces range_aces mbr_aces this_sp_grants owner_grants authority_grants fixed_ace_gets user_ace_grants read_locked_ace_grants write_locked_ace_grants done_ace_grants pin_grants range_get_ace_grants range_get_grants range_set_grants mbr_grants first_lexeme expect number_at uid_at values_up_to list_with list_value_with named_with value_after_token list_at status_at call_at reply_at message_at message_in number_spelling bytes_spelling any_below ranges_in verdict_of is_range listed_among cells_for zeros sectors_from authorities_of_locking any_to
unknown_answer = refl

served_answer : answer (fis 0x25 0 5 1) [] ≡ register true 0x50 0 ∷ []
unfolding admin_sps admin_authorities locking_authorities admin_pins locking_pins locking_ranges locking_mbr_controls admin_aces authority_aces pin_aces range_get_aces range_aces mbr_aces this_sp_grants owner_grants authority_grants fixed_ace_gets user_ace_grants read_locked_ace_grants write_locked_ace_grants done_ace_grants pin_grants range_get_ace_grants range_get_grants range_set_grants mbr_grants first_lexeme expect number_at uid_at values_up_to list_with list_value_with named_with value_after_token list_at status_at call_at reply_at message_at message_in number_spelling bytes_spelling any_below ranges_in verdict_of is_range listed_among cells_for zeros sectors_from authorities_of_locking any_to
served_answer = refl

flushed_answer : answer (fis 0xea 0 0 0) [] ≡ register true 0x50 0 ∷ []
unfolding admin_sps admin_authorities locking_authorities admin_pins locking_pins locking_ranges locking_mbr_controls admin_aces authority_aces pin_aces range_get_aces range_aces mbr_aces this_sp_grants owner_grants authority_grants fixed_ace_gets user_ace_grants read_locked_ace_grants write_locked_ace_grants done_ace_grants pin_grants range_get_ace_grants range_get_grants range_set_grants mbr_grants first_lexeme expect number_at uid_at values_up_to list_with list_value_with named_with value_after_token list_at status_at call_at reply_at message_at message_in number_spelling bytes_spelling any_below ranges_in verdict_of is_range listed_among cells_for zeros sectors_from authorities_of_locking any_to
flushed_answer = refl

-- The PIO forms of a send, a receive, a log read and IDENTIFY; the DMA forms have none.
send_answers : answer (fis 0x5e 1 0x100000 1) (replicate 512 0) ++ answer (fis 0x5f 1 0x100000 1) (replicate 512 0) ≡
    pio false 0xd0 ∷ register true 0x50 0 ∷ register true 0x50 0 ∷ []
unfolding admin_sps admin_authorities locking_authorities admin_pins locking_pins locking_ranges locking_mbr_controls admin_aces authority_aces pin_aces range_get_aces range_aces mbr_aces this_sp_grants owner_grants authority_grants fixed_ace_gets user_ace_grants read_locked_ace_grants write_locked_ace_grants done_ace_grants pin_grants range_get_ace_grants range_get_grants range_set_grants mbr_grants first_lexeme expect number_at uid_at values_up_to list_with list_value_with named_with value_after_token list_at status_at call_at reply_at message_at message_in number_spelling bytes_spelling any_below ranges_in verdict_of is_range listed_among cells_for zeros sectors_from authorities_of_locking any_to
send_answers = refl

receive_answers : answer (fis 0x5c 1 0x100 1) [] ++ answer (fis 0x5d 1 0x100 1) [] ≡ pio true 0x50 ∷ register true 0x50 0 ∷ []
unfolding admin_sps admin_authorities locking_authorities admin_pins locking_pins locking_ranges locking_mbr_controls admin_aces authority_aces pin_aces range_get_aces range_aces mbr_aces this_sp_grants owner_grants authority_grants fixed_ace_gets user_ace_grants read_locked_ace_grants write_locked_ace_grants done_ace_grants pin_grants range_get_ace_grants range_get_grants range_set_grants mbr_grants first_lexeme expect number_at uid_at values_up_to list_with list_value_with named_with value_after_token list_at status_at call_at reply_at message_at message_in number_spelling bytes_spelling any_below ranges_in verdict_of is_range listed_among cells_for zeros sectors_from authorities_of_locking any_to
receive_answers = refl

log_answers : answer (fis 0x2f 0 0x10 1) [] ++ answer (fis 0x47 0 0x10 1) [] ≡ pio true 0x50 ∷ register true 0x50 0 ∷ []
unfolding admin_sps admin_authorities locking_authorities admin_pins locking_pins locking_ranges locking_mbr_controls admin_aces authority_aces pin_aces range_get_aces range_aces mbr_aces this_sp_grants owner_grants authority_grants fixed_ace_gets user_ace_grants read_locked_ace_grants write_locked_ace_grants done_ace_grants pin_grants range_get_ace_grants range_get_grants range_set_grants mbr_grants first_lexeme expect number_at uid_at values_up_to list_with list_value_with named_with value_after_token list_at status_at call_at reply_at message_at message_in number_spelling bytes_spelling any_below ranges_in verdict_of is_range listed_among cells_for zeros sectors_from authorities_of_locking any_to
log_answers = refl

identify_answer : answer (fis 0xec 0 0 0) [] ≡ pio true 0x50 ∷ []
unfolding admin_sps admin_authorities locking_authorities admin_pins locking_pins locking_ranges locking_mbr_controls admin_aces authority_aces pin_aces range_get_aces range_aces mbr_aces this_sp_grants owner_grants authority_grants fixed_ace_gets user_ace_grants read_locked_ace_grants write_locked_ace_grants done_ace_grants pin_grants range_get_ace_grants range_get_grants range_set_grants mbr_grants first_lexeme expect number_at uid_at values_up_to list_with list_value_with named_with value_after_token list_at status_at call_at reply_at message_at message_in number_spelling bytes_spelling any_below ranges_in verdict_of is_range listed_among cells_for zeros sectors_from authorities_of_locking any_to
identify_answer = refl

-- Other pages of the log, other protocols, no blocks and other ComIDs are aborted.
aborted_answers : answer (fis 0x2f 0 0x11 1) [] ++ answer (fis 0x5f 2 0x100000 1) (replicate 512 0) ++ answer (fis 0x5f 1 0x100000 0) [] ++ answer (fis 0x5d 1 0x100400 1) [] ≡
    register true 0x51 4 ∷ register true 0x51 4 ∷ register true 0x51 4 ∷ register true 0x51 4 ∷ []
unfolding admin_sps admin_authorities locking_authorities admin_pins locking_pins locking_ranges locking_mbr_controls admin_aces authority_aces pin_aces range_get_aces range_aces mbr_aces this_sp_grants owner_grants authority_grants fixed_ace_gets user_ace_grants read_locked_ace_grants write_locked_ace_grants done_ace_grants pin_grants range_get_ace_grants range_get_grants range_set_grants mbr_grants first_lexeme expect number_at uid_at values_up_to list_with list_value_with named_with value_after_token list_at status_at call_at reply_at message_at message_in number_spelling bytes_spelling any_below ranges_in verdict_of is_range listed_among cells_for zeros sectors_from authorities_of_locking any_to
aborted_answers = refl

-- Completions of a read of 2 sectors under tag 3, and of a write of 1 under tag 0.
abbrev queue : List Act
queue = Accept (fis 0x60 2 5 24) [] ∷ Accept (fis 0x61 1 9 0) [] ∷ []

read_completed : completed_fises 3 (held (log new_drive (reverse queue)) 3) ≡
    fises.DmaSetup (record { auto_activate = false; interrupt = false; to_host = true; port = 0; buffer_low = 3; buffer_high = 0; offset = 0; count = 1024 })
    ∷ fises.SetDeviceBits (record { notification = false; interrupt = true; port = 0; status = 0x50; error = 0; active = 8 })
    ∷ []
unfolding admin_sps admin_authorities locking_authorities admin_pins locking_pins locking_ranges locking_mbr_controls admin_aces authority_aces pin_aces range_get_aces range_aces mbr_aces this_sp_grants owner_grants authority_grants fixed_ace_gets user_ace_grants read_locked_ace_grants write_locked_ace_grants done_ace_grants pin_grants range_get_ace_grants range_get_grants range_set_grants mbr_grants first_lexeme expect number_at uid_at values_up_to list_with list_value_with named_with value_after_token list_at status_at call_at reply_at message_at message_in number_spelling bytes_spelling any_below ranges_in verdict_of is_range listed_among cells_for zeros sectors_from authorities_of_locking any_to
read_completed = refl

write_completed : completed_fises 0 (held (log new_drive (reverse queue)) 0) ≡
    fises.DmaSetup (record { auto_activate = false; interrupt = false; to_host = false; port = 0; buffer_low = 0; buffer_high = 0; offset = 0; count = 512 })
    ∷ fises.SetDeviceBits (record { notification = false; interrupt = true; port = 0; status = 0x50; error = 0; active = 1 })
    ∷ []
unfolding admin_sps admin_authorities locking_authorities admin_pins locking_pins locking_ranges locking_mbr_controls admin_aces authority_aces pin_aces range_get_aces range_aces mbr_aces this_sp_grants owner_grants authority_grants fixed_ace_gets user_ace_grants read_locked_ace_grants write_locked_ace_grants done_ace_grants pin_grants range_get_ace_grants range_get_grants range_set_grants mbr_grants first_lexeme expect number_at uid_at values_up_to list_with list_value_with named_with value_after_token list_at status_at call_at reply_at message_at message_in number_spelling bytes_spelling any_below ranges_in verdict_of is_range listed_among cells_for zeros sectors_from authorities_of_locking any_to
write_completed = refl

completed_bytes : completed_data (facts new_drive (log new_drive (reverse queue))) (held (log new_drive (reverse queue)) 3) ≡ replicate 1024 0
unfolding admin_sps admin_authorities locking_authorities admin_pins locking_pins locking_ranges locking_mbr_controls admin_aces authority_aces pin_aces range_get_aces range_aces mbr_aces this_sp_grants owner_grants authority_grants fixed_ace_gets user_ace_grants read_locked_ace_grants write_locked_ace_grants done_ace_grants pin_grants range_get_ace_grants range_get_grants range_set_grants mbr_grants first_lexeme expect number_at uid_at values_up_to list_with list_value_with named_with value_after_token list_at status_at call_at reply_at message_at message_in number_spelling bytes_spelling any_below ranges_in verdict_of is_range listed_among cells_for zeros sectors_from authorities_of_locking any_to
completed_bytes = refl

-- A completion brings the sectors of a held write, and nothing else.
bytes_expected : expected (held (log new_drive (reverse queue)) 0) ∷ expected (held (log new_drive (reverse queue)) 3) ∷ expected (held (log new_drive (reverse queue)) 7) ∷ [] ≡ 512 ∷ 0 ∷ 0 ∷ []
unfolding admin_sps admin_authorities locking_authorities admin_pins locking_pins locking_ranges locking_mbr_controls admin_aces authority_aces pin_aces range_get_aces range_aces mbr_aces this_sp_grants owner_grants authority_grants fixed_ace_gets user_ace_grants read_locked_ace_grants write_locked_ace_grants done_ace_grants pin_grants range_get_ace_grants range_get_grants range_set_grants mbr_grants first_lexeme expect number_at uid_at values_up_to list_with list_value_with named_with value_after_token list_at status_at call_at reply_at message_at message_in number_spelling bytes_spelling any_below ranges_in verdict_of is_range listed_among cells_for zeros sectors_from authorities_of_locking any_to
bytes_expected = refl
