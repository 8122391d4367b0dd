-- What the opal profile adds to the field profile: how long a send may be (SIIS, invalid transfer length), the certificates
-- (SPC-4, SECURITY PROTOCOL IN), two methods, what ends a session, the values that some columns take, and Admin1 of the Admin SP
-- (Opal SSC 2.01, sections 3.3.4.1.3, 4.2 and 4.3).
use Rattle.std.proofs.Common.{◌≡◌, ℕ, ◌*◌, true, List, [], ◌∷◌, ◌++◌, map, replicate, refl}
use Rattle.std.specs.List.{flat_map}
use Rattle.basics.specs.declared.profile.Profile.TheVariants.{Field, Opal}
use Rattle.sp_cells.specs.declared.names.Uid.{Uid}
use Rattle.sp_cells.specs.declared.names.Sp.TheVariants.{Admin}
use Rattle.sp_cells.specs.declared.cells.Element.TheVariants.{Authority, Or}
use Rattle.sp_cells.specs.Names.{admin_sp, locking_sp, sp_table, table_uid, access_control, next, get_acl, set, revert, sid, admin_sp_admin, admins_class, admin_uid, user_uid, range_uid, mbr_control, c_pin_sid, c_pin_msid, c_pin_admin_sp_admin, ace_sp_sid, ace_admins, ace_sp_psid, ace_datastore_get_all}
use Rattle.sp_tables.specs.RowNames.{listed_tables}
use Rattle.sp_cells.specs.Authorities.{authorities_of_locking}
use Rattle.sp_tables.specs.Faults.{any_to}
use Rattle.sp_tables.specs.Factory.{label_authorities, opal_authorities, opal_pins, opal_admin_aces, admin_constants, label_pins, label_aces, removal_aces, data_removals, datastore_aces, gen_key_aces, opal_locking_aces, locking_constants, range_keys, locking_infos, byte_tables, admin_sps, admin_authorities, locking_authorities, admin_pins, locking_pins, locking_ranges, locking_mbr_controls, admin_aces, authority_aces, pin_aces, range_get_aces, range_aces, mbr_aces}
use Rattle.ace_eval.specs.Access.{label_grants, removal_grants, datastore_grants, gen_key_ace_grants, info_grants, key_grants, this_sp_grants, owner_grants, authority_grants, fixed_ace_gets, user_ace_grants, read_locked_ace_grants, write_locked_ace_grants, done_ace_grants, pin_grants, range_get_ace_grants, range_get_grants, range_set_grants, mbr_grants, own_grants, listed_grants, told_grants, method_grants, maker_grants, name_grants, mode_grants}
use Rattle.locking.specs.Ranges.{ranges_in}
use Rattle.locking.specs.Verdict.{verdict_of}
use Rattle.shadow_mbr.specs.Stored.{zeros, sectors_from}
use Rattle.tcg_tokens.specs.Lex.{first_lexeme}
use Rattle.tcg_tokens.specs.Reading.{expect, number_at, uid_at, values_up_to, list_with, list_value_with, named_with, value_after_token, list_at, status_at, call_at, reply_at, message_at, reading as message_in}
use Rattle.tcg_tokens.specs.Spelling.{number_spelling, bytes_spelling}
use Rattle.tcg_tokens.specs.Message.{Message, begin, end_session}
use Rattle.tcg_tokens.specs.Tree.{Tree, trees_of}
use Rattle.tcg_tokens.specs.Tree as tree
use Rattle.tcg_calls.specs.CellValues.{element_tree}
use Rattle.compacket.specs.Spelling.{frame_bytes}
use Rattle.device_data.specs.ErrorLog.{sized}
use Rattle.transactions.specs.Resets.{is_range}
use Rattle.methods.specs.Listed.{listed_among}
use Rattle.methods.specs.Settings.{cells_for}
use Rattle.methods.specs.Tables.{uids_tree}
use Rattle.methods.specs.Said.{refusal_of, reply_of}
use Rattle.sessions.specs.Starts.{sync_message}
use Rattle.history.specs.Decisions.{any_below}
use Rattle.trusted_cmds.specs.declared.command.Command.TheVariants.{Receive}
use Rattle.audit.specs.declared.rules.rule.Rule.TheVariants.{LongTransfer, NoFrame, Protocol, ResponseWaits, NoSuchRow, NoAccessLine, BrokenOff, Discarded, NoSession, NoItem}
use Rattle.audit.specs.declared.reason.AttemptFailure.TheVariants.{Disabled}
use Rattle.audit.specs.declared.reason.Why.TheVariants.{AttemptFailed, NoAccessRow}
use Rattle.history.specs.Opening.{Origin, factory_origin, activated_origin}
use Rattle.history.specs.Facts.{facts}
use Rattle.history.specs.Tcg.{data_of}
use Rattle.history.specs.History.{Act, Accept}
use Rattle.history.proofs.Scripts.{config, msid, fis, send, receive, tell, in_it, call_of, uid_tree, get_cells, set_cells, start_as, start_anybody, replies, rules_met, whys, said}

field : Origin
field = factory_origin (record config { profile = Field })

opal : Origin
opal = factory_origin (record config { profile = Opal; sectors = 524288; mbr_sectors = 262144; datastore = 10485760 })

-- A send of security protocol 01h on ComID 1000h in so many blocks, and a receive of protocol 00h by this SP Specific field.
sends : ℕ → List Act
sends blocks = Accept (fis 0x5f 1 0x100000 blocks) [] ∷ []

asks : (sp_specific blocks : ℕ) → List Act
asks sp_specific blocks = Accept (fis 0x5d 0 (256 * sp_specific) blocks) [] ∷ []

-- 128 blocks are as many bytes as the largest ComPacket has, 65,536; zeros are no frame. A waiting response is told first.
row_long_sends : (rules_met opal (sends 129) ≡ LongTransfer ∷ []) × (rules_met opal (sends 128) ≡ NoFrame ∷ []) × (rules_met field (sends 129) ≡ NoFrame ∷ []) × (rules_met opal (send 0x1000 0 0 (start_anybody admin_sp) ∷ sends 129) ≡ ResponseWaits ∷ [])
unfolding label_authorities opal_authorities opal_pins opal_admin_aces admin_constants label_pins label_aces removal_aces data_removals datastore_aces gen_key_aces opal_locking_aces locking_constants range_keys locking_infos byte_tables label_grants removal_grants datastore_grants gen_key_ace_grants info_grants key_grants admin_sps admin_authorities locking_authorities admin_pins locking_pins locking_ranges locking_mbr_controls admin_aces authority_aces pin_aces range_get_aces range_aces mbr_aces this_sp_grants owner_grants authority_grants fixed_ace_gets user_ace_grants read_locked_ace_grants write_locked_ace_grants done_ace_grants pin_grants range_get_ace_grants range_get_grants range_set_grants mbr_grants first_lexeme expect number_at uid_at values_up_to list_with list_value_with named_with value_after_token list_at status_at call_at reply_at message_at message_in number_spelling bytes_spelling any_below ranges_in verdict_of is_range listed_among cells_for zeros sectors_from authorities_of_locking any_to field opal sends asks
row_long_sends = (refl, refl, refl, refl)

-- The certificates are asked for by 0001h, in one block at least; a field drive has none.
row_certificates : (rules_met opal (asks 1 1) ≡ []) × (rules_met opal (asks 0 1) ≡ []) × (rules_met opal (asks 2 1) ≡ Protocol ∷ []) × (rules_met opal (asks 1 0) ≡ Protocol ∷ []) × (rules_met field (asks 1 1) ≡ Protocol ∷ [])
unfolding label_authorities opal_authorities opal_pins opal_admin_aces admin_constants label_pins label_aces removal_aces data_removals datastore_aces gen_key_aces opal_locking_aces locking_constants range_keys locking_infos byte_tables label_grants removal_grants datastore_grants gen_key_ace_grants info_grants key_grants admin_sps admin_authorities locking_authorities admin_pins locking_pins locking_ranges locking_mbr_controls admin_aces authority_aces pin_aces range_get_aces range_aces mbr_aces this_sp_grants owner_grants authority_grants fixed_ace_gets user_ace_grants read_locked_ace_grants write_locked_ace_grants done_ace_grants pin_grants range_get_ace_grants range_get_grants range_set_grants mbr_grants first_lexeme expect number_at uid_at values_up_to list_with list_value_with named_with value_after_token list_at status_at call_at reply_at message_at message_in number_spelling bytes_spelling any_below ranges_in verdict_of is_range listed_among cells_for zeros sectors_from authorities_of_locking any_to field opal sends asks
row_certificates = (refl, refl, refl, refl, refl)

-- There is none: two reserved bytes, and a length of 0.
row_no_certificate : data_of (facts opal []) (Receive 0 1 1 true) ≡ replicate 512 0
unfolding opal
row_no_certificate = refl

-- Anybody begins a session of the Admin SP, and calls a method there.
abbrev there : Message → List Act
there message = tell 0x1000 0 0 (start_anybody admin_sp) ++ in_it message

abbrev started : List ℕ
started = said (sync_message 1 0x1000 0)

abbrev named_uids : List Uid → List ℕ
named_uids names = said (reply_of (uids_tree names ∷ []) 0)

abbrev rows_of_sp : List Tree → List Act
rows_of_sp args = there (call_of (table_uid sp_table) next args)

abbrev behind : Uid → Tree
behind row = tree.named (tree.number 0) (uid_tree row)

abbrev count : ℕ → Tree
count n = tree.named (tree.number 1) (tree.number n)

-- Next tells the rows behind one, at most so many; there are none behind the last one, and what is no row is refused. A field
-- drive does not have it.
row_next : (replies opal (rows_of_sp []) ≡ started ∷ named_uids (admin_sp ∷ locking_sp ∷ []) ∷ [])
    × (replies opal (rows_of_sp (behind admin_sp ∷ count 1 ∷ [])) ≡ started ∷ named_uids (locking_sp ∷ []) ∷ [])
    × (replies opal (rows_of_sp (count 1 ∷ [])) ≡ started ∷ named_uids (admin_sp ∷ []) ∷ [])
    × (replies opal (rows_of_sp (behind locking_sp ∷ [])) ≡ started ∷ named_uids [] ∷ [])
    × (replies opal (rows_of_sp (behind c_pin_sid ∷ [])) ≡ started ∷ said (refusal_of 0x0c) ∷ [])
    × (rules_met opal (rows_of_sp (behind c_pin_sid ∷ [])) ≡ NoSuchRow ∷ [])
    × (whys field (rows_of_sp []) ≡ NoAccessRow Admin (table_uid sp_table) next ∷ [])
unfolding label_authorities opal_authorities opal_pins opal_admin_aces admin_constants label_pins label_aces removal_aces data_removals datastore_aces gen_key_aces opal_locking_aces locking_constants range_keys locking_infos byte_tables label_grants removal_grants datastore_grants gen_key_ace_grants info_grants key_grants admin_sps admin_authorities locking_authorities admin_pins locking_pins locking_ranges locking_mbr_controls admin_aces authority_aces pin_aces range_get_aces range_aces mbr_aces this_sp_grants owner_grants authority_grants fixed_ace_gets user_ace_grants read_locked_ace_grants write_locked_ace_grants done_ace_grants pin_grants range_get_ace_grants range_get_grants range_set_grants mbr_grants first_lexeme expect number_at uid_at values_up_to list_with list_value_with named_with value_after_token list_at status_at call_at reply_at message_at message_in number_spelling bytes_spelling any_below ranges_in verdict_of is_range listed_among cells_for zeros sectors_from authorities_of_locking any_to own_grants listed_grants told_grants method_grants maker_grants name_grants mode_grants listed_tables field opal
row_next = (refl, refl, refl, refl, refl, refl, refl)

abbrev acl_of : Uid → Uid → List Act
acl_of object method = there (call_of access_control get_acl (uid_tree object ∷ uid_tree method ∷ []))

-- GetACL tells the ACEs in the order of the access list, and refuses what has no line there.
row_get_acl : (replies opal (acl_of admin_sp revert) ≡ started ∷ named_uids (ace_sp_sid ∷ ace_admins ∷ ace_sp_psid ∷ []) ∷ [])
    × (replies opal (acl_of c_pin_msid set) ≡ started ∷ said (refusal_of 0x0c) ∷ [])
    × (rules_met opal (acl_of c_pin_msid set) ≡ NoAccessLine ∷ [])
unfolding label_authorities opal_authorities opal_pins opal_admin_aces admin_constants label_pins label_aces removal_aces data_removals datastore_aces gen_key_aces opal_locking_aces locking_constants range_keys locking_infos byte_tables label_grants removal_grants datastore_grants gen_key_ace_grants info_grants key_grants admin_sps admin_authorities locking_authorities admin_pins locking_pins locking_ranges locking_mbr_controls admin_aces authority_aces pin_aces range_get_aces range_aces mbr_aces this_sp_grants owner_grants authority_grants fixed_ace_gets user_ace_grants read_locked_ace_grants write_locked_ace_grants done_ace_grants pin_grants range_get_ace_grants range_get_grants range_set_grants mbr_grants first_lexeme expect number_at uid_at values_up_to list_with list_value_with named_with value_after_token list_at status_at call_at reply_at message_at message_in number_spelling bytes_spelling any_below ranges_in verdict_of is_range listed_among cells_for zeros sectors_from authorities_of_locking any_to own_grants listed_grants told_grants method_grants maker_grants name_grants mode_grants listed_tables field opal
row_get_acl = (refl, refl, refl)

-- A payload, in two blocks, for a session or for none.
abbrev payload : (tsn hsn : ℕ) → List ℕ → List Act
payload tsn hsn tokens =
    Accept (fis 0x5f 1 0x100000 2) (sized 1024 (frame_bytes 0x1000 (record { tsn = tsn; hsn = hsn }) tokens)) ∷ receive 0x1000 2 ∷ []

abbrev broken : List ℕ → List Act
broken tokens = tell 0x1000 0 0 (start_anybody admin_sp) ++ payload 0x1000 1 tokens ++ in_it (get_cells c_pin_msid 5 5)

abbrev read_limit : List ℕ
read_limit = said (reply_of (tree.list (trees_of []) ∷ []) 0)

-- EndName alone is no item: its session ends, and nothing is answered. A reply does the same. A field drive answers it, and the
-- session lives.
row_broken_off : (replies opal (broken (0xf3 ∷ [])) ≡ started ∷ []) × (rules_met opal (broken (0xf3 ∷ [])) ≡ BrokenOff ∷ NoSession ∷ [])
    × (replies opal (broken (0xf0 ∷ 0xf1 ∷ 0xf9 ∷ 0xf0 ∷ 0 ∷ 0 ∷ 0 ∷ 0xf1 ∷ [])) ≡ started ∷ [])
    × (replies field (broken (0xf3 ∷ [])) ≡ started ∷ said (refusal_of 0x3f) ∷ read_limit ∷ [])
    × (rules_met field (broken (0xf3 ∷ [])) ≡ NoItem ∷ [])
unfolding label_authorities opal_authorities opal_pins opal_admin_aces admin_constants label_pins label_aces removal_aces data_removals datastore_aces gen_key_aces opal_locking_aces locking_constants range_keys locking_infos byte_tables label_grants removal_grants datastore_grants gen_key_ace_grants info_grants key_grants admin_sps admin_authorities locking_authorities admin_pins locking_pins locking_ranges locking_mbr_controls admin_aces authority_aces pin_aces range_get_aces range_aces mbr_aces this_sp_grants owner_grants authority_grants fixed_ace_gets user_ace_grants read_locked_ace_grants write_locked_ace_grants done_ace_grants pin_grants range_get_ace_grants range_get_grants range_set_grants mbr_grants first_lexeme expect number_at uid_at values_up_to list_with list_value_with named_with value_after_token list_at status_at call_at reply_at message_at message_in number_spelling bytes_spelling any_below ranges_in verdict_of is_range listed_among cells_for zeros sectors_from authorities_of_locking any_to own_grants listed_grants told_grants method_grants maker_grants name_grants mode_grants listed_tables field opal
row_broken_off = (refl, refl, refl, refl, refl)

-- At TSN 0 what calls neither Properties nor StartSession is discarded.
row_discarded : (replies opal (payload 0 0 (0xfa ∷ [])) ≡ []) × (rules_met opal (payload 0 0 (0xfa ∷ [])) ≡ Discarded ∷ [])
    × (replies opal (tell 0x1000 0 0 (call_of admin_sp revert [])) ≡ []) × (replies field (payload 0 0 (0xfa ∷ [])) ≡ said (refusal_of 0x3f) ∷ [])
unfolding label_authorities opal_authorities opal_pins opal_admin_aces admin_constants label_pins label_aces removal_aces data_removals datastore_aces gen_key_aces opal_locking_aces locking_constants range_keys locking_infos byte_tables label_grants removal_grants datastore_grants gen_key_ace_grants info_grants key_grants admin_sps admin_authorities locking_authorities admin_pins locking_pins locking_ranges locking_mbr_controls admin_aces authority_aces pin_aces range_get_aces range_aces mbr_aces this_sp_grants owner_grants authority_grants fixed_ace_gets user_ace_grants read_locked_ace_grants write_locked_ace_grants done_ace_grants pin_grants range_get_ace_grants range_get_grants range_set_grants mbr_grants first_lexeme expect number_at uid_at values_up_to list_with list_value_with named_with value_after_token list_at status_at call_at reply_at message_at message_in number_spelling bytes_spelling any_below ranges_in verdict_of is_range listed_among cells_for zeros sectors_from authorities_of_locking any_to own_grants listed_grants told_grants method_grants maker_grants name_grants mode_grants listed_tables field opal
row_discarded = (refl, refl, refl, refl)

-- Drives whose Locking SP was activated, and what Admin1 sets there.
abbrev opal_in_use : Origin
opal_in_use = activated_origin (record config { profile = Opal; sectors = 524288; mbr_sectors = 262144; datastore = 10485760 })

abbrev field_in_use : Origin
field_in_use = activated_origin (record config { profile = Field })

abbrev signed_in : List Act
signed_in = tell 0x1000 0 0 (start_as locking_sp (admin_uid 1) msid)

abbrev sets : Uid → ℕ → Tree → List Act
sets object column value = signed_in ++ payload 0x1000 1 (said (set_cells object ((column, value) ∷ [])))

abbrev taken : List (List ℕ)
taken = started ∷ said (refusal_of 0) ∷ []

abbrev refused : List (List ℕ)
refused = started ∷ said (refusal_of 0x0c) ∷ []

-- In a transaction it sets a cell, and then sends what is no item: the transaction is aborted.
abbrev aborted : List Act
aborted =
    signed_in ++ in_it (begin 0) ++ in_it (set_cells (range_uid 1) ((4, tree.number 10) ∷ [])) ++ payload 0x1000 1 (0xe4 ∷ [])
    ++ tell 0x1000 0 0 (start_as locking_sp (admin_uid 1) msid) ++ tell 0x1000 0x1001 1 (get_cells (range_uid 1) 4 4)

row_broken_off_aborts : replies opal_in_use aborted ≡
    started ∷ said (begin 0) ∷ said (refusal_of 0) ∷ said (sync_message 1 0x1001 0)
    ∷ said (reply_of (tree.list (trees_of (tree.named (tree.number 4) (tree.number 0) ∷ [])) ∷ []) 0) ∷ []
unfolding label_authorities opal_authorities opal_pins opal_admin_aces admin_constants label_pins label_aces removal_aces data_removals datastore_aces gen_key_aces opal_locking_aces locking_constants range_keys locking_infos byte_tables label_grants removal_grants datastore_grants gen_key_ace_grants info_grants key_grants admin_sps admin_authorities locking_authorities admin_pins locking_pins locking_ranges locking_mbr_controls admin_aces authority_aces pin_aces range_get_aces range_aces mbr_aces this_sp_grants owner_grants authority_grants fixed_ace_gets user_ace_grants read_locked_ace_grants write_locked_ace_grants done_ace_grants pin_grants range_get_ace_grants range_get_grants range_set_grants mbr_grants first_lexeme expect number_at uid_at values_up_to list_with list_value_with named_with value_after_token list_at status_at call_at reply_at message_at message_in number_spelling bytes_spelling any_below ranges_in verdict_of is_range listed_among cells_for zeros sectors_from authorities_of_locking any_to own_grants listed_grants told_grants method_grants maker_grants name_grants mode_grants listed_tables field opal
row_broken_off_aborts = refl

abbrev name : ℕ → Tree
name length = tree.bytes (replicate length 0x78)

-- CommonName of a range has at most 32 bytes, and is set under the opal profile alone.
row_common_name : (replies opal_in_use (sets (range_uid 1) 2 (name 32)) ≡ taken) × (replies opal_in_use (sets (range_uid 1) 2 (name 33)) ≡ refused)
    × (replies field_in_use (sets (range_uid 1) 2 (name 32)) ≡ started ∷ said (refusal_of 1) ∷ [])
unfolding label_authorities opal_authorities opal_pins opal_admin_aces admin_constants label_pins label_aces removal_aces data_removals datastore_aces gen_key_aces opal_locking_aces locking_constants range_keys locking_infos byte_tables label_grants removal_grants datastore_grants gen_key_ace_grants info_grants key_grants admin_sps admin_authorities locking_authorities admin_pins locking_pins locking_ranges locking_mbr_controls admin_aces authority_aces pin_aces range_get_aces range_aces mbr_aces this_sp_grants owner_grants authority_grants fixed_ace_gets user_ace_grants read_locked_ace_grants write_locked_ace_grants done_ace_grants pin_grants range_get_ace_grants range_get_grants range_set_grants mbr_grants first_lexeme expect number_at uid_at values_up_to list_with list_value_with named_with value_after_token list_at status_at call_at reply_at message_at message_in number_spelling bytes_spelling any_below ranges_in verdict_of is_range listed_among cells_for zeros sectors_from authorities_of_locking any_to own_grants listed_grants told_grants method_grants maker_grants name_grants mode_grants listed_tables field opal
row_common_name = (refl, refl, refl)

abbrev resets : List ℕ → Tree
resets kinds = tree.list (trees_of (map tree.number kinds))

-- LockOnReset and DoneOnReset have the power cycle under the opal profile.
row_resets : (replies opal_in_use (sets (range_uid 1) 9 (resets (1 ∷ []))) ≡ refused) × (replies opal_in_use (sets (range_uid 1) 9 (resets (0 ∷ 1 ∷ []))) ≡ taken)
    × (replies opal_in_use (sets mbr_control 3 (resets (3 ∷ []))) ≡ refused) × (replies field_in_use (sets (range_uid 1) 9 (resets (1 ∷ []))) ≡ taken)
unfolding label_authorities opal_authorities opal_pins opal_admin_aces admin_constants label_pins label_aces removal_aces data_removals datastore_aces gen_key_aces opal_locking_aces locking_constants range_keys locking_infos byte_tables label_grants removal_grants datastore_grants gen_key_ace_grants info_grants key_grants admin_sps admin_authorities locking_authorities admin_pins locking_pins locking_ranges locking_mbr_controls admin_aces authority_aces pin_aces range_get_aces range_aces mbr_aces this_sp_grants owner_grants authority_grants fixed_ace_gets user_ace_grants read_locked_ace_grants write_locked_ace_grants done_ace_grants pin_grants range_get_ace_grants range_get_grants range_set_grants mbr_grants first_lexeme expect number_at uid_at values_up_to list_with list_value_with named_with value_after_token list_at status_at call_at reply_at message_at message_in number_spelling bytes_spelling any_below ranges_in verdict_of is_range listed_among cells_for zeros sectors_from authorities_of_locking any_to own_grants listed_grants told_grants method_grants maker_grants name_grants mode_grants listed_tables field opal
row_resets = (refl, refl, refl, refl)

-- The Admins, or one of these Users.
abbrev or_users : List ℕ → Tree
or_users users =
    tree.list (trees_of (map element_tree (Authority admins_class ∷ flat_map (λ n. Authority (user_uid n) ∷ Or ∷ []) users)))

abbrev fifteen : List ℕ
fifteen = 1 ∷ 2 ∷ 3 ∷ 4 ∷ 5 ∷ 6 ∷ 7 ∷ 8 ∷ 9 ∷ 10 ∷ 11 ∷ 12 ∷ 13 ∷ 14 ∷ 15 ∷ []

-- An expression has room for the Admins and 16 Users, 33 elements, and not for 35; under the field profile for 31.
row_expression : (replies opal_in_use (sets ace_datastore_get_all 3 (or_users (16 ∷ fifteen))) ≡ taken)
    × (replies opal_in_use (sets ace_datastore_get_all 3 (or_users (1 ∷ 16 ∷ fifteen))) ≡ refused)
    × (replies field_in_use (sets ace_datastore_get_all 3 (or_users (16 ∷ fifteen))) ≡ refused)
    × (replies field_in_use (sets ace_datastore_get_all 3 (or_users fifteen)) ≡ taken)
unfolding label_authorities opal_authorities opal_pins opal_admin_aces admin_constants label_pins label_aces removal_aces data_removals datastore_aces gen_key_aces opal_locking_aces locking_constants range_keys locking_infos byte_tables label_grants removal_grants datastore_grants gen_key_ace_grants info_grants key_grants admin_sps admin_authorities locking_authorities admin_pins locking_pins locking_ranges locking_mbr_controls admin_aces authority_aces pin_aces range_get_aces range_aces mbr_aces this_sp_grants owner_grants authority_grants fixed_ace_gets user_ace_grants read_locked_ace_grants write_locked_ace_grants done_ace_grants pin_grants range_get_ace_grants range_get_grants range_set_grants mbr_grants first_lexeme expect number_at uid_at values_up_to list_with list_value_with named_with value_after_token list_at status_at call_at reply_at message_at message_in number_spelling bytes_spelling any_below ranges_in verdict_of is_range listed_among cells_for zeros sectors_from authorities_of_locking any_to own_grants listed_grants told_grants method_grants maker_grants name_grants mode_grants listed_tables field opal
row_expression = (refl, refl, refl, refl)

abbrev a1 : List ℕ
a1 = 0x61 ∷ 0x31 ∷ []

-- SID enables the Admin SP's Admin1 and gives it a PIN; it signs in, and reverts the drive, which ends its session. Then it is not
-- enabled.
abbrev admin_reverts : List Act
admin_reverts =
    tell 0x1000 0 0 (start_as admin_sp sid msid) ++ in_it (set_cells admin_sp_admin ((5, tree.number 1) ∷ []))
    ++ in_it (set_cells c_pin_admin_sp_admin ((3, tree.bytes a1) ∷ [])) ++ in_it end_session
    ++ tell 0x1000 0 0 (start_as admin_sp admin_sp_admin a1) ++ tell 0x1000 0x1001 1 (call_of admin_sp revert [])
    ++ tell 0x1000 0 0 (start_as admin_sp admin_sp_admin a1)

row_admin_reverts : (replies opal admin_reverts ≡
    started ∷ said (refusal_of 0) ∷ said (refusal_of 0) ∷ said end_session ∷ said (sync_message 1 0x1001 0) ∷ said (refusal_of 0)
    ∷ said (sync_message 1 0 1) ∷ [])
    × (whys opal admin_reverts ≡ AttemptFailed Admin admin_sp_admin Disabled ∷ [])
unfolding label_authorities opal_authorities opal_pins opal_admin_aces admin_constants label_pins label_aces removal_aces data_removals datastore_aces gen_key_aces opal_locking_aces locking_constants range_keys locking_infos byte_tables label_grants removal_grants datastore_grants gen_key_ace_grants info_grants key_grants admin_sps admin_authorities locking_authorities admin_pins locking_pins locking_ranges locking_mbr_controls admin_aces authority_aces pin_aces range_get_aces range_aces mbr_aces this_sp_grants owner_grants authority_grants fixed_ace_gets user_ace_grants read_locked_ace_grants write_locked_ace_grants done_ace_grants pin_grants range_get_ace_grants range_get_grants range_set_grants mbr_grants first_lexeme expect number_at uid_at values_up_to list_with list_value_with named_with value_after_token list_at status_at call_at reply_at message_at message_in number_spelling bytes_spelling any_below ranges_in verdict_of is_range listed_among cells_for zeros sectors_from authorities_of_locking any_to own_grants listed_grants told_grants method_grants maker_grants name_grants mode_grants listed_tables field opal
row_admin_reverts = (refl, refl)
