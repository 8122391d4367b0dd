-- DATA SET MANAGEMENT with TRIM, under the opal profile (ACS-3, DATA SET MANAGEMENT).
use Rattle.std.specs.Prelude.{◌/◌, ◌%◌}
use Rattle.std.proofs.Common.{◌≡◌, ℕ, false, true, List, [], ◌∷◌, ◌++◌, reverse, replicate, refl}
use Rattle.basics.specs.declared.profile.Profile.TheVariants.{Field, Opal}
use Rattle.fis.specs.declared.any.Fis.{Fis}
use Rattle.fis.specs.declared.any.Fis.TheVariants as fises
use Rattle.audit.specs.declared.reason.Why.TheVariants.{WriteLocked}
use Rattle.audit.specs.declared.rules.rule.Rule.TheVariants.{Unreadable, BeyondDrive}
use Rattle.trusted_cmds.specs.declared.command.CommandError.TheVariants.{Unknown}
use Rattle.trusted_cmds.specs.Trims.{extents_of}
use Rattle.sp_tables.specs.RowNames.{listed_tables}
use Rattle.sp_cells.specs.Authorities.{authorities_of_locking}
use Rattle.sp_tables.specs.Faults.{any_to}
use Rattle.sp_tables.specs.Factory.{label_authorities, opal_authorities, opal_pins, opal_admin_aces, admin_constants, label_pins, label_aces, removal_aces, data_removals, datastore_aces, gen_key_aces, opal_locking_aces, locking_constants, range_keys, locking_infos, byte_tables, admin_sps, admin_authorities, locking_authorities, admin_pins, locking_pins, locking_ranges, locking_mbr_controls, admin_aces, authority_aces, pin_aces, range_get_aces, range_aces, mbr_aces}
use Rattle.ace_eval.specs.Access.{label_grants, removal_grants, datastore_grants, gen_key_ace_grants, info_grants, key_grants, this_sp_grants, owner_grants, authority_grants, fixed_ace_gets, user_ace_grants, read_locked_ace_grants, write_locked_ace_grants, done_ace_grants, pin_grants, range_get_ace_grants, range_get_grants, range_set_grants, mbr_grants, own_grants, listed_grants, told_grants, method_grants, maker_grants, name_grants, mode_grants}
use Rattle.locking.specs.Ranges.{ranges_in}
use Rattle.locking.specs.Verdict.{verdict_of}
use Rattle.shadow_mbr.specs.Stored.{zeros, sectors_from}
use Rattle.device_data.specs.ErrorLog.{sized}
use Rattle.tcg_tokens.specs.Lex.{first_lexeme}
use Rattle.tcg_tokens.specs.Reading.{expect, number_at, uid_at, values_up_to, list_with, list_value_with, named_with, value_after_token, list_at, status_at, call_at, reply_at, message_at, reading as message_in}
use Rattle.tcg_tokens.specs.Spelling.{number_spelling, bytes_spelling}
use Rattle.transactions.specs.Resets.{is_range}
use Rattle.methods.specs.Listed.{listed_among}
use Rattle.methods.specs.Settings.{cells_for}
use Rattle.history.specs.Decisions.{any_below, first_denial}
use Rattle.history.specs.Opening.{Origin, activated_origin, with_range}
use Rattle.history.specs.Readers.{sector}
use Rattle.history.specs.Facts.{facts}
use Rattle.history.specs.Tcg.{accepted_fises}
use Rattle.history.specs.History.{Act, Accept, event, log}
use Rattle.history.proofs.Scripts.{config, range_row, fis, dwrite, whys, fails_with, rules_met}

-- Drives in use: open, and range 1 over the sectors 100 to 109 locked for writing.
abbrev in_use : Origin
in_use = activated_origin (record config { profile = Opal; sectors = 524288; mbr_sectors = 262144; datastore = 10485760 })

abbrev field_in_use : Origin
field_in_use = activated_origin (record config { profile = Field })

abbrev write_locked : Origin
write_locked = with_range (range_row 1 100 10 false true false true) in_use

-- An entry: its first sector, the low byte first, and how many there are.
abbrev entry : ℕ → ℕ → List ℕ
entry lba count =
    lba % 256 ∷ lba / 256 % 256 ∷ lba / 65536 % 256 ∷ 0 ∷ 0 ∷ 0 ∷ count % 256 ∷ count / 256 ∷ []

-- A TRIM of one block of entries.
abbrev trim : List ℕ → Act
trim entries = Accept (fis 0x06 1 0 1) (sized 512 entries)

abbrev answer_after : Origin → List Act → List ℕ → List Fis
answer_after o before entries =
    accepted_fises (facts o (log o (reverse before))) (fis 0x06 1 0 1) (event o (log o (reverse before)) (trim entries))

abbrev sector_after : Origin → List Act → ℕ → List ℕ
sector_after o acts place = sector (log o (reverse acts)) place

abbrev register : ℕ → ℕ → Fis
register status error =
    fises.D2h (record { interrupt = true; port = 0; status = status; error = error; lba = 0; device = 0; count = 0 })

abbrev filled : ℕ → List ℕ
filled b = replicate 512 b

-- The sectors of an entry are zeros behind it; those beside it keep their bytes. The command answers by the plain FIS.
one_entry : (answer_after in_use (dwrite 10 4 0xaa ∷ []) (entry 11 2) ≡ register 0x50 0 ∷ [])
    × (sector_after in_use (dwrite 10 4 0xaa ∷ trim (entry 11 2) ∷ []) 10 ≡ filled 0xaa)
    × (sector_after in_use (dwrite 10 4 0xaa ∷ trim (entry 11 2) ∷ []) 11 ≡ filled 0)
    × (sector_after in_use (dwrite 10 4 0xaa ∷ trim (entry 11 2) ∷ []) 12 ≡ filled 0)
    × (sector_after in_use (dwrite 10 4 0xaa ∷ trim (entry 11 2) ∷ []) 13 ≡ filled 0xaa)
    × (sector_after in_use (trim (entry 11 2) ∷ dwrite 10 4 0xaa ∷ []) 12 ≡ filled 0xaa)
unfolding label_authorities opal_authorities opal_pins opal_admin_aces admin_constants label_pins label_aces removal_aces data_removals datastore_aces gen_key_aces opal_locking_aces locking_constants range_keys locking_infos byte_tables label_grants removal_grants datastore_grants gen_key_ace_grants info_grants key_grants admin_sps admin_authorities locking_authorities admin_pins locking_pins locking_ranges locking_mbr_controls admin_aces authority_aces pin_aces range_get_aces range_aces mbr_aces this_sp_grants owner_grants authority_grants fixed_ace_gets user_ace_grants read_locked_ace_grants write_locked_ace_grants done_ace_grants pin_grants range_get_ace_grants range_get_grants range_set_grants mbr_grants first_lexeme expect number_at uid_at values_up_to list_with list_value_with named_with value_after_token list_at status_at call_at reply_at message_at message_in number_spelling bytes_spelling any_below ranges_in verdict_of is_range listed_among cells_for zeros sectors_from authorities_of_locking any_to own_grants listed_grants told_grants method_grants maker_grants name_grants mode_grants listed_tables extents_of first_denial
one_entry = (refl, refl, refl, refl, refl, refl)

-- The entries of further blocks count, and the last of a block too.
further_entries : (sector_after in_use (dwrite 10 4 0xaa ∷ Accept (fis 0x06 1 0 2) (sized 1024 (replicate 512 0 ++ entry 12 1)) ∷ []) 12 ≡ filled 0)
    × (sector_after in_use (dwrite 10 4 0xaa ∷ trim (replicate 504 0 ++ entry 12 1) ∷ []) 12 ≡ filled 0)
    × (sector_after in_use (dwrite 10 4 0xaa ∷ trim (entry 10 1 ++ entry 12 1) ∷ []) 11 ≡ filled 0xaa)
unfolding label_authorities opal_authorities opal_pins opal_admin_aces admin_constants label_pins label_aces removal_aces data_removals datastore_aces gen_key_aces opal_locking_aces locking_constants range_keys locking_infos byte_tables label_grants removal_grants datastore_grants gen_key_ace_grants info_grants key_grants admin_sps admin_authorities locking_authorities admin_pins locking_pins locking_ranges locking_mbr_controls admin_aces authority_aces pin_aces range_get_aces range_aces mbr_aces this_sp_grants owner_grants authority_grants fixed_ace_gets user_ace_grants read_locked_ace_grants write_locked_ace_grants done_ace_grants pin_grants range_get_ace_grants range_get_grants range_set_grants mbr_grants first_lexeme expect number_at uid_at values_up_to list_with list_value_with named_with value_after_token list_at status_at call_at reply_at message_at message_in number_spelling bytes_spelling any_below ranges_in verdict_of is_range listed_among cells_for zeros sectors_from authorities_of_locking any_to own_grants listed_grants told_grants method_grants maker_grants name_grants mode_grants listed_tables extents_of first_denial
further_entries = (refl, refl, refl)

-- One entry of two touches a range that is locked for writing: the command is aborted for it, and the other keeps its bytes too.
second_locked : (whys write_locked (trim (entry 5 2 ++ entry 98 3) ∷ []) ≡ WriteLocked 98 3 1 ∷ [])
    × (answer_after write_locked [] (entry 5 2 ++ entry 98 3) ≡ register 0x51 0x04 ∷ [])
    × (sector_after write_locked (dwrite 5 2 0xaa ∷ trim (entry 5 2 ++ entry 98 3) ∷ []) 5 ≡ filled 0xaa)
    × (whys write_locked (trim (entry 5 2 ++ entry 98 2 ++ entry 110 1) ∷ []) ≡ [])
    × (whys write_locked (trim (entry 109 1 ++ entry 100 1) ∷ []) ≡ WriteLocked 109 1 1 ∷ [])
unfolding label_authorities opal_authorities opal_pins opal_admin_aces admin_constants label_pins label_aces removal_aces data_removals datastore_aces gen_key_aces opal_locking_aces locking_constants range_keys locking_infos byte_tables label_grants removal_grants datastore_grants gen_key_ace_grants info_grants key_grants admin_sps admin_authorities locking_authorities admin_pins locking_pins locking_ranges locking_mbr_controls admin_aces authority_aces pin_aces range_get_aces range_aces mbr_aces this_sp_grants owner_grants authority_grants fixed_ace_gets user_ace_grants read_locked_ace_grants write_locked_ace_grants done_ace_grants pin_grants range_get_ace_grants range_get_grants range_set_grants mbr_grants first_lexeme expect number_at uid_at values_up_to list_with list_value_with named_with value_after_token list_at status_at call_at reply_at message_at message_in number_spelling bytes_spelling any_below ranges_in verdict_of is_range listed_among cells_for zeros sectors_from authorities_of_locking any_to own_grants listed_grants told_grants method_grants maker_grants name_grants mode_grants listed_tables extents_of first_denial
second_locked = (refl, refl, refl, refl, refl)

-- An entry behind the last sector is not found, and nothing is trimmed.
beyond : (rules_met in_use (trim (entry 5 1 ++ entry 524287 2) ∷ []) ≡ BeyondDrive ∷ [])
    × (fails_with in_use (trim (entry 5 1 ++ entry 524287 2) ∷ trim (entry 524287 1) ∷ []) ≡ 0x10 ∷ [])
    × (sector_after in_use (dwrite 5 1 0xaa ∷ trim (entry 5 1 ++ entry 524287 2) ∷ []) 5 ≡ filled 0xaa)
unfolding label_authorities opal_authorities opal_pins opal_admin_aces admin_constants label_pins label_aces removal_aces data_removals datastore_aces gen_key_aces opal_locking_aces locking_constants range_keys locking_infos byte_tables label_grants removal_grants datastore_grants gen_key_ace_grants info_grants key_grants admin_sps admin_authorities locking_authorities admin_pins locking_pins locking_ranges locking_mbr_controls admin_aces authority_aces pin_aces range_get_aces range_aces mbr_aces this_sp_grants owner_grants authority_grants fixed_ace_gets user_ace_grants read_locked_ace_grants write_locked_ace_grants done_ace_grants pin_grants range_get_ace_grants range_get_grants range_set_grants mbr_grants first_lexeme expect number_at uid_at values_up_to list_with list_value_with named_with value_after_token list_at status_at call_at reply_at message_at message_in number_spelling bytes_spelling any_below ranges_in verdict_of is_range listed_among cells_for zeros sectors_from authorities_of_locking any_to own_grants listed_grants told_grants method_grants maker_grants name_grants mode_grants listed_tables extents_of first_denial
beyond = (refl, refl, refl)

-- An entry of no sectors is left out, whatever its first one; with no further entries nothing changes.
left_out : (answer_after write_locked [] (entry 100 0 ++ entry 0xffffff 0 ++ entry 5 1) ≡ register 0x50 0 ∷ [])
    × (sector_after write_locked (dwrite 5 1 0xaa ∷ trim (entry 100 0 ++ entry 5 1) ∷ []) 5 ≡ filled 0)
    × (answer_after in_use [] [] ≡ register 0x50 0 ∷ [])
    × (sector_after in_use (dwrite 0 1 0xaa ∷ trim [] ∷ []) 0 ≡ filled 0xaa)
unfolding label_authorities opal_authorities opal_pins opal_admin_aces admin_constants label_pins label_aces removal_aces data_removals datastore_aces gen_key_aces opal_locking_aces locking_constants range_keys locking_infos byte_tables label_grants removal_grants datastore_grants gen_key_ace_grants info_grants key_grants admin_sps admin_authorities locking_authorities admin_pins locking_pins locking_ranges locking_mbr_controls admin_aces authority_aces pin_aces range_get_aces range_aces mbr_aces this_sp_grants owner_grants authority_grants fixed_ace_gets user_ace_grants read_locked_ace_grants write_locked_ace_grants done_ace_grants pin_grants range_get_ace_grants range_get_grants range_set_grants mbr_grants first_lexeme expect number_at uid_at values_up_to list_with list_value_with named_with value_after_token list_at status_at call_at reply_at message_at message_in number_spelling bytes_spelling any_below ranges_in verdict_of is_range listed_among cells_for zeros sectors_from authorities_of_locking any_to own_grants listed_grants told_grants method_grants maker_grants name_grants mode_grants listed_tables extents_of first_denial
left_out = (refl, refl, refl, refl)

-- It needs the bit of TRIM, and one to eight blocks.
refused : (rules_met in_use (Accept (fis 0x06 0 0 1) (sized 512 (entry 5 1)) ∷ Accept (fis 0x06 1 0 9) (sized 4608 (entry 5 1)) ∷ Accept (fis 0x06 1 0 0) [] ∷ []) ≡
    Unreadable Unknown ∷ Unreadable Unknown ∷ Unreadable Unknown ∷ [])
    × (fails_with in_use (Accept (fis 0x06 1 0 9) (sized 4608 (entry 5 1)) ∷ Accept (fis 0x06 1 0 8) (sized 4096 (entry 5 1)) ∷ []) ≡ 0x04 ∷ [])
    × (sector_after in_use (dwrite 5 1 0xaa ∷ Accept (fis 0x06 0 0 1) (sized 512 (entry 5 1)) ∷ []) 5 ≡ filled 0xaa)
unfolding label_authorities opal_authorities opal_pins opal_admin_aces admin_constants label_pins label_aces removal_aces data_removals datastore_aces gen_key_aces opal_locking_aces locking_constants range_keys locking_infos byte_tables label_grants removal_grants datastore_grants gen_key_ace_grants info_grants key_grants admin_sps admin_authorities locking_authorities admin_pins locking_pins locking_ranges locking_mbr_controls admin_aces authority_aces pin_aces range_get_aces range_aces mbr_aces this_sp_grants owner_grants authority_grants fixed_ace_gets user_ace_grants read_locked_ace_grants write_locked_ace_grants done_ace_grants pin_grants range_get_ace_grants range_get_grants range_set_grants mbr_grants first_lexeme expect number_at uid_at values_up_to list_with list_value_with named_with value_after_token list_at status_at call_at reply_at message_at message_in number_spelling bytes_spelling any_below ranges_in verdict_of is_range listed_among cells_for zeros sectors_from authorities_of_locking any_to own_grants listed_grants told_grants method_grants maker_grants name_grants mode_grants listed_tables extents_of first_denial
refused = (refl, refl, refl)

-- The field profile does not know it.
of_opal_alone : (rules_met field_in_use (trim (entry 5 1) ∷ []) ≡ Unreadable Unknown ∷ [])
    × (answer_after field_in_use [] (entry 5 1) ≡ register 0x51 0x04 ∷ [])
    × (sector_after field_in_use (dwrite 5 1 0xaa ∷ trim (entry 5 1) ∷ []) 5 ≡ filled 0xaa)
unfolding label_authorities opal_authorities opal_pins opal_admin_aces admin_constants label_pins label_aces removal_aces data_removals datastore_aces gen_key_aces opal_locking_aces locking_constants range_keys locking_infos byte_tables label_grants removal_grants datastore_grants gen_key_ace_grants info_grants key_grants admin_sps admin_authorities locking_authorities admin_pins locking_pins locking_ranges locking_mbr_controls admin_aces authority_aces pin_aces range_get_aces range_aces mbr_aces this_sp_grants owner_grants authority_grants fixed_ace_gets user_ace_grants read_locked_ace_grants write_locked_ace_grants done_ace_grants pin_grants range_get_ace_grants range_get_grants range_set_grants mbr_grants first_lexeme expect number_at uid_at values_up_to list_with list_value_with named_with value_after_token list_at status_at call_at reply_at message_at message_in number_spelling bytes_spelling any_below ranges_in verdict_of is_range listed_among cells_for zeros sectors_from authorities_of_locking any_to own_grants listed_grants told_grants method_grants maker_grants name_grants mode_grants listed_tables extents_of first_denial
of_opal_alone = (refl, refl, refl)
