-- The commands of every ATA device, under the opal profile (ACS-3): transfers by PIO, verifications, and commands without data.
use Rattle.std.proofs.Common.{◌≡◌, ℕ, ◌*◌, Bool, true, false, List, [], ◌∷◌, ◌++◌, reverse, replicate, refl}
use Rattle.basics.specs.declared.profile.Profile.TheVariants.{Field, Opal}
use Rattle.fis.specs.declared.any.Fis.{Fis}
use Rattle.fis.specs.declared.any.Fis.TheVariants as fises
use Rattle.audit.specs.declared.reason.Why.TheVariants.{ReadLocked, WriteLocked}
use Rattle.audit.specs.declared.rules.rule.Rule.TheVariants.{Unreadable, BeyondDrive}
use Rattle.trusted_cmds.specs.declared.command.CommandError.TheVariants.{Unknown}
use Rattle.sp_tables.specs.RowNames.{listed_tables}
use Rattle.sp_cells.specs.Authorities.{authorities_of_locking}
use Rattle.sp_tables.specs.Faults.{any_to}
use Rattle.sp_tables.specs.Factory.{label_authorities, opal_authorities, opal_pins, opal_admin_aces, admin_constants, label_pins, label_aces, removal_aces, data_removals, datastore_aces, gen_key_aces, opal_locking_aces, locking_constants, range_keys, locking_infos, byte_tables, admin_sps, admin_authorities, locking_authorities, admin_pins, locking_pins, locking_ranges, locking_mbr_controls, admin_aces, authority_aces, pin_aces, range_get_aces, range_aces, mbr_aces}
use Rattle.ace_eval.specs.Access.{label_grants, removal_grants, datastore_grants, gen_key_ace_grants, info_grants, key_grants, this_sp_grants, owner_grants, authority_grants, fixed_ace_gets, user_ace_grants, read_locked_ace_grants, write_locked_ace_grants, done_ace_grants, pin_grants, range_get_ace_grants, range_get_grants, range_set_grants, mbr_grants, own_grants, listed_grants, told_grants, method_grants, maker_grants, name_grants, mode_grants}
use Rattle.locking.specs.Ranges.{ranges_in}
use Rattle.locking.specs.Verdict.{verdict_of}
use Rattle.shadow_mbr.specs.Stored.{zeros, sectors_from}
use Rattle.tcg_tokens.specs.Lex.{first_lexeme}
use Rattle.tcg_tokens.specs.Reading.{expect, number_at, uid_at, values_up_to, list_with, list_value_with, named_with, value_after_token, list_at, status_at, call_at, reply_at, message_at, reading as message_in}
use Rattle.tcg_tokens.specs.Spelling.{number_spelling, bytes_spelling}
use Rattle.transactions.specs.Resets.{is_range}
use Rattle.methods.specs.Listed.{listed_among}
use Rattle.methods.specs.Settings.{cells_for}
use Rattle.history.specs.Decisions.{any_below}
use Rattle.history.specs.Opening.{Origin, activated_origin, with_range}
use Rattle.history.specs.Readers.{sector}
use Rattle.history.specs.Facts.{facts}
use Rattle.history.specs.Tcg.{accepted_data, accepted_fises}
use Rattle.history.specs.History.{Act, Accept, Reset, SoftwareReset, event, log}
use Rattle.history.proofs.Scripts.{config, range_row, fis, dwrite, whys, fails_with, rules_met}

-- Drives in use, range 1 over the sectors 100 to 109: open, locked for reading, locked for writing.
abbrev in_use : Origin
in_use = activated_origin (record config { profile = Opal; sectors = 524288; mbr_sectors = 262144; datastore = 10485760 })

abbrev field_in_use : Origin
field_in_use = activated_origin (record config { profile = Field })

abbrev read_locked : Origin
read_locked = with_range (range_row 1 100 10 true false true false) in_use

abbrev write_locked : Origin
write_locked = with_range (range_row 1 100 10 false true false true) in_use

-- READ SECTOR(S) EXT, WRITE SECTOR(S) EXT and READ VERIFY SECTOR(S) EXT.
abbrev read : ℕ → ℕ → Act
read lba count = Accept (fis 0x24 0 lba count) []

abbrev write : ℕ → ℕ → ℕ → Act
write lba count b = Accept (fis 0x34 0 lba count) (replicate (512 * count) b)

abbrev checks : ℕ → ℕ → Act
checks lba count = Accept (fis 0x42 0 lba count) []

-- The FISes of the answer to one command after others, and its data.
abbrev answer_after : Origin → List Act → List ℕ → List ℕ → List Fis
answer_after o before f payload = accepted_fises (facts o (log o (reverse before))) f (event o (log o (reverse before)) (Accept f payload))

abbrev answer : Origin → List ℕ → List ℕ → List Fis
answer o f payload = answer_after o [] f payload

abbrev given_after : Origin → List Act → List ℕ → List ℕ
given_after o before f = accepted_data (facts o (log o (reverse before))) f (event o (log o (reverse before)) (Accept f []))

abbrev sector_after : Origin → List Act → ℕ → List ℕ
sector_after o acts place = sector (log o (reverse acts)) place

-- A register FIS with its error, LBA and Count, and a PIO Setup FIS.
abbrev register : ℕ → ℕ → ℕ → ℕ → Fis
register status error lba count =
    fises.D2h (record { interrupt = true; port = 0; status = status; error = error; lba = lba; device = 0; count = count })

abbrev pio : Bool → ℕ → Fis
pio to_host ended =
    fises.PioSetup (record { interrupt = to_host; to_host = to_host; port = 0; status = 0x58; error = 0; lba = 0; device = 0; count = 0; end_status = ended; transfer_count = 512 })

-- A read by PIO that touches a range that is locked for reading is denied whole; beside it none is.
reads_by_lock : (whys read_locked (read 95 5 ∷ read 95 6 ∷ read 110 1 ∷ write 100 10 0xaa ∷ []) ≡ ReadLocked 95 6 1 ∷ []) × (fails_with read_locked (read 95 5 ∷ read 95 6 ∷ read 110 1 ∷ []) ≡ 0x04 ∷ [])
unfolding label_authorities opal_authorities opal_pins opal_admin_aces admin_constants label_pins label_aces removal_aces data_removals datastore_aces gen_key_aces opal_locking_aces locking_constants range_keys locking_infos byte_tables label_grants removal_grants datastore_grants gen_key_ace_grants info_grants key_grants admin_sps admin_authorities locking_authorities admin_pins locking_pins locking_ranges locking_mbr_controls admin_aces authority_aces pin_aces range_get_aces range_aces mbr_aces this_sp_grants owner_grants authority_grants fixed_ace_gets user_ace_grants read_locked_ace_grants write_locked_ace_grants done_ace_grants pin_grants range_get_ace_grants range_get_grants range_set_grants mbr_grants first_lexeme expect number_at uid_at values_up_to list_with list_value_with named_with value_after_token list_at status_at call_at reply_at message_at message_in number_spelling bytes_spelling any_below ranges_in verdict_of is_range listed_among cells_for zeros sectors_from authorities_of_locking any_to own_grants listed_grants told_grants method_grants maker_grants name_grants mode_grants listed_tables
reads_by_lock = (refl, refl)

-- A read that is served has a PIO Setup FIS, one sector a block, and the bytes that were written.
read_answers : (answer in_use (fis 0x24 0 5 2) [] ≡ pio true 0x50 ∷ [])
    × (answer in_use (fis 0x20 0 5 2) [] ++ answer in_use (fis 0xc4 0 5 2) [] ++ answer in_use (fis 0x29 0 5 2) [] ≡ pio true 0x50 ∷ pio true 0x50 ∷ pio true 0x50 ∷ [])
    × (given_after in_use (dwrite 5 1 0xaa ∷ []) (fis 0x24 0 5 2) ≡ replicate 512 0xaa ++ replicate 512 0)
unfolding label_authorities opal_authorities opal_pins opal_admin_aces admin_constants label_pins label_aces removal_aces data_removals datastore_aces gen_key_aces opal_locking_aces locking_constants range_keys locking_infos byte_tables label_grants removal_grants datastore_grants gen_key_ace_grants info_grants key_grants admin_sps admin_authorities locking_authorities admin_pins locking_pins locking_ranges locking_mbr_controls admin_aces authority_aces pin_aces range_get_aces range_aces mbr_aces this_sp_grants owner_grants authority_grants fixed_ace_gets user_ace_grants read_locked_ace_grants write_locked_ace_grants done_ace_grants pin_grants range_get_ace_grants range_get_grants range_set_grants mbr_grants first_lexeme expect number_at uid_at values_up_to list_with list_value_with named_with value_after_token list_at status_at call_at reply_at message_at message_in number_spelling bytes_spelling any_below ranges_in verdict_of is_range listed_among cells_for zeros sectors_from authorities_of_locking any_to own_grants listed_grants told_grants method_grants maker_grants name_grants mode_grants listed_tables
read_answers = (refl, refl, refl)

-- A verification is judged as a read, and gives no data.
verifications : (whys read_locked (checks 95 5 ∷ checks 109 2 ∷ []) ≡ ReadLocked 109 2 1 ∷ [])
    × (answer read_locked (fis 0x42 0 109 2) [] ≡ register 0x51 0x04 0 0 ∷ [])
    × (answer read_locked (fis 0x40 0 110 2) [] ≡ register 0x50 0 0 0 ∷ []) × (given_after read_locked [] (fis 0x42 0 110 2) ≡ [])
    × (whys write_locked (checks 100 10 ∷ []) ≡ [])
unfolding label_authorities opal_authorities opal_pins opal_admin_aces admin_constants label_pins label_aces removal_aces data_removals datastore_aces gen_key_aces opal_locking_aces locking_constants range_keys locking_infos byte_tables label_grants removal_grants datastore_grants gen_key_ace_grants info_grants key_grants admin_sps admin_authorities locking_authorities admin_pins locking_pins locking_ranges locking_mbr_controls admin_aces authority_aces pin_aces range_get_aces range_aces mbr_aces this_sp_grants owner_grants authority_grants fixed_ace_gets user_ace_grants read_locked_ace_grants write_locked_ace_grants done_ace_grants pin_grants range_get_ace_grants range_get_grants range_set_grants mbr_grants first_lexeme expect number_at uid_at values_up_to list_with list_value_with named_with value_after_token list_at status_at call_at reply_at message_at message_in number_spelling bytes_spelling any_below ranges_in verdict_of is_range listed_among cells_for zeros sectors_from authorities_of_locking any_to own_grants listed_grants told_grants method_grants maker_grants name_grants mode_grants listed_tables
verifications = (refl, refl, refl, refl, refl)

-- A write by PIO over open sectors and a range that is locked for writing is denied whole, and moves nothing.
writes_by_lock : (whys write_locked (write 99 2 0xaa ∷ []) ≡ WriteLocked 99 2 1 ∷ []) × (sector_after write_locked (write 99 2 0xaa ∷ []) 99 ≡ replicate 512 0)
    × (answer write_locked (fis 0x34 0 99 2) (replicate 1024 0xaa) ≡ register 0x51 0x04 0 0 ∷ [])
unfolding label_authorities opal_authorities opal_pins opal_admin_aces admin_constants label_pins label_aces removal_aces data_removals datastore_aces gen_key_aces opal_locking_aces locking_constants range_keys locking_infos byte_tables label_grants removal_grants datastore_grants gen_key_ace_grants info_grants key_grants admin_sps admin_authorities locking_authorities admin_pins locking_pins locking_ranges locking_mbr_controls admin_aces authority_aces pin_aces range_get_aces range_aces mbr_aces this_sp_grants owner_grants authority_grants fixed_ace_gets user_ace_grants read_locked_ace_grants write_locked_ace_grants done_ace_grants pin_grants range_get_ace_grants range_get_grants range_set_grants mbr_grants first_lexeme expect number_at uid_at values_up_to list_with list_value_with named_with value_after_token list_at status_at call_at reply_at message_at message_in number_spelling bytes_spelling any_below ranges_in verdict_of is_range listed_among cells_for zeros sectors_from authorities_of_locking any_to own_grants listed_grants told_grants method_grants maker_grants name_grants mode_grants listed_tables
writes_by_lock = (refl, refl, refl)

-- One that is served has a PIO Setup FIS and a register FIS, and its bytes are in the media; so are those of WRITE DMA FUA EXT.
write_answers : (answer in_use (fis 0x34 0 5 1) (replicate 512 0xaa) ≡ pio false 0xd0 ∷ register 0x50 0 0 0 ∷ [])
    × (sector_after in_use (write 4 2 0xaa ∷ []) 5 ≡ replicate 512 0xaa)
    × (answer in_use (fis 0x3d 0 5 1) (replicate 512 0xaa) ≡ register 0x50 0 0 0 ∷ [])
    × (sector_after in_use (Accept (fis 0x3d 0 5 1) (replicate 512 0xaa) ∷ []) 5 ≡ replicate 512 0xaa)
    × (answer in_use (fis 0xce 0 5 1) (replicate 512 0xaa) ≡ pio false 0xd0 ∷ register 0x50 0 0 0 ∷ [])
    × (sector_after in_use (Accept (fis 0xce 0 5 1) (replicate 512 0xaa) ∷ []) 5 ≡ replicate 512 0xaa)
unfolding label_authorities opal_authorities opal_pins opal_admin_aces admin_constants label_pins label_aces removal_aces data_removals datastore_aces gen_key_aces opal_locking_aces locking_constants range_keys locking_infos byte_tables label_grants removal_grants datastore_grants gen_key_ace_grants info_grants key_grants admin_sps admin_authorities locking_authorities admin_pins locking_pins locking_ranges locking_mbr_controls admin_aces authority_aces pin_aces range_get_aces range_aces mbr_aces this_sp_grants owner_grants authority_grants fixed_ace_gets user_ace_grants read_locked_ace_grants write_locked_ace_grants done_ace_grants pin_grants range_get_ace_grants range_get_grants range_set_grants mbr_grants first_lexeme expect number_at uid_at values_up_to list_with list_value_with named_with value_after_token list_at status_at call_at reply_at message_at message_in number_spelling bytes_spelling any_below ranges_in verdict_of is_range listed_among cells_for zeros sectors_from authorities_of_locking any_to own_grants listed_grants told_grants method_grants maker_grants name_grants mode_grants listed_tables
write_answers = (refl, refl, refl, refl, refl, refl)

-- A new drive is active, and passes its own tests; the other commands answer by the plain FIS.
controls : (answer in_use (fis 0xe5 0 0 0) [] ≡ register 0x50 0 0 0xff ∷ []) × (answer in_use (fis 0x90 0 0 0) [] ≡ register 0x50 0x01 1 1 ∷ [])
    × (answer in_use (fis 0xc6 0 0 1) [] ++ answer in_use (fis 0xe1 0 0 0) [] ++ answer in_use (fis 0xe3 0 0 5) [] ≡
    register 0x50 0 0 0 ∷ register 0x50 0 0 0 ∷ register 0x50 0 0 0 ∷ [])
unfolding label_authorities opal_authorities opal_pins opal_admin_aces admin_constants label_pins label_aces removal_aces data_removals datastore_aces gen_key_aces opal_locking_aces locking_constants range_keys locking_infos byte_tables label_grants removal_grants datastore_grants gen_key_ace_grants info_grants key_grants admin_sps admin_authorities locking_authorities admin_pins locking_pins locking_ranges locking_mbr_controls admin_aces authority_aces pin_aces range_get_aces range_aces mbr_aces this_sp_grants owner_grants authority_grants fixed_ace_gets user_ace_grants read_locked_ace_grants write_locked_ace_grants done_ace_grants pin_grants range_get_ace_grants range_get_grants range_set_grants mbr_grants first_lexeme expect number_at uid_at values_up_to list_with list_value_with named_with value_after_token list_at status_at call_at reply_at message_at message_in number_spelling bytes_spelling any_below ranges_in verdict_of is_range listed_among cells_for zeros sectors_from authorities_of_locking any_to own_grants listed_grants told_grants method_grants maker_grants name_grants mode_grants listed_tables
controls = (refl, refl, refl)

-- In standby CHECK POWER MODE tells 00h. What reads or writes sectors makes the drive active, and so does IDLE; what is denied does
-- not, nor does a software reset. A hardware reset does.
abbrev power_after : Origin → List Act → List Fis
power_after o before = answer_after o before (fis 0xe5 0 0 0) []

abbrev standby : Act
standby = Accept (fis 0xe0 0 0 0) []

standbys : (power_after in_use (standby ∷ []) ++ power_after in_use (Accept (fis 0xe2 0 0 5) [] ∷ []) ++ power_after in_use (Accept (fis 0xe6 0 0 0) [] ∷ []) ≡
    register 0x50 0 0 0 ∷ register 0x50 0 0 0 ∷ register 0x50 0 0 0 ∷ [])
    × (power_after in_use (standby ∷ Accept (fis 0xe1 0 0 0) [] ∷ []) ++ power_after in_use (standby ∷ read 5 1 ∷ []) ++ power_after in_use (standby ∷ checks 5 1 ∷ [])
    ≡ register 0x50 0 0 0xff ∷ register 0x50 0 0 0xff ∷ register 0x50 0 0 0xff ∷ [])
    × (power_after in_use (standby ∷ write 5 1 0xaa ∷ []) ≡ register 0x50 0 0 0xff ∷ [])
    × (power_after read_locked (standby ∷ read 100 1 ∷ []) ++ power_after in_use (standby ∷ SoftwareReset ∷ []) ≡ register 0x50 0 0 0 ∷ register 0x50 0 0 0 ∷ [])
    × (power_after in_use (standby ∷ Reset 1 ∷ []) ≡ register 0x50 0 0 0xff ∷ [])
unfolding label_authorities opal_authorities opal_pins opal_admin_aces admin_constants label_pins label_aces removal_aces data_removals datastore_aces gen_key_aces opal_locking_aces locking_constants range_keys locking_infos byte_tables label_grants removal_grants datastore_grants gen_key_ace_grants info_grants key_grants admin_sps admin_authorities locking_authorities admin_pins locking_pins locking_ranges locking_mbr_controls admin_aces authority_aces pin_aces range_get_aces range_aces mbr_aces this_sp_grants owner_grants authority_grants fixed_ace_gets user_ace_grants read_locked_ace_grants write_locked_ace_grants done_ace_grants pin_grants range_get_ace_grants range_get_grants range_set_grants mbr_grants first_lexeme expect number_at uid_at values_up_to list_with list_value_with named_with value_after_token list_at status_at call_at reply_at message_at message_in number_spelling bytes_spelling any_below ranges_in verdict_of is_range listed_among cells_for zeros sectors_from authorities_of_locking any_to own_grants listed_grants told_grants method_grants maker_grants name_grants mode_grants listed_tables
standbys = (refl, refl, refl, refl, refl)

-- A block of two sectors is refused, and sectors behind the last one are not found.
refused : (rules_met in_use (Accept (fis 0xc6 0 0 2) [] ∷ []) ≡ Unreadable Unknown ∷ [])
    × (rules_met in_use (read 524288 1 ∷ read 524287 1 ∷ checks 524287 2 ∷ []) ≡ BeyondDrive ∷ BeyondDrive ∷ [])
    × (fails_with in_use (read 524288 1 ∷ []) ≡ 0x10 ∷ [])
unfolding label_authorities opal_authorities opal_pins opal_admin_aces admin_constants label_pins label_aces removal_aces data_removals datastore_aces gen_key_aces opal_locking_aces locking_constants range_keys locking_infos byte_tables label_grants removal_grants datastore_grants gen_key_ace_grants info_grants key_grants admin_sps admin_authorities locking_authorities admin_pins locking_pins locking_ranges locking_mbr_controls admin_aces authority_aces pin_aces range_get_aces range_aces mbr_aces this_sp_grants owner_grants authority_grants fixed_ace_gets user_ace_grants read_locked_ace_grants write_locked_ace_grants done_ace_grants pin_grants range_get_ace_grants range_get_grants range_set_grants mbr_grants first_lexeme expect number_at uid_at values_up_to list_with list_value_with named_with value_after_token list_at status_at call_at reply_at message_at message_in number_spelling bytes_spelling any_below ranges_in verdict_of is_range listed_among cells_for zeros sectors_from authorities_of_locking any_to own_grants listed_grants told_grants method_grants maker_grants name_grants mode_grants listed_tables
refused = (refl, refl, refl)

-- The field profile knows none of these codes.
of_opal_alone : (rules_met field_in_use (read 5 1 ∷ write 5 1 0xaa ∷ checks 5 1 ∷ Accept (fis 0xe5 0 0 0) [] ∷ Accept (fis 0x3d 0 5 1) [] ∷ []) ≡
    Unreadable Unknown ∷ Unreadable Unknown ∷ Unreadable Unknown ∷ Unreadable Unknown ∷ Unreadable Unknown ∷ [])
    × (answer field_in_use (fis 0x24 0 5 1) [] ≡ register 0x51 0x04 0 0 ∷ []) × (sector_after field_in_use (write 5 1 0xaa ∷ []) 5 ≡ replicate 512 0)
unfolding label_authorities opal_authorities opal_pins opal_admin_aces admin_constants label_pins label_aces removal_aces data_removals datastore_aces gen_key_aces opal_locking_aces locking_constants range_keys locking_infos byte_tables label_grants removal_grants datastore_grants gen_key_ace_grants info_grants key_grants admin_sps admin_authorities locking_authorities admin_pins locking_pins locking_ranges locking_mbr_controls admin_aces authority_aces pin_aces range_get_aces range_aces mbr_aces this_sp_grants owner_grants authority_grants fixed_ace_gets user_ace_grants read_locked_ace_grants write_locked_ace_grants done_ace_grants pin_grants range_get_ace_grants range_get_grants range_set_grants mbr_grants first_lexeme expect number_at uid_at values_up_to list_with list_value_with named_with value_after_token list_at status_at call_at reply_at message_at message_in number_spelling bytes_spelling any_below ranges_in verdict_of is_range listed_among cells_for zeros sectors_from authorities_of_locking any_to own_grants listed_grants told_grants method_grants maker_grants name_grants mode_grants listed_tables
of_opal_alone = (refl, refl, refl)
