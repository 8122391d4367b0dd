-- Random, what a host takes, frames without a subpacket, and the stack of a ComID, under the opal profile (Opal SSC 2.01,
-- sections 3.2.2, 3.3.4.1.3, 4.1.1.1 and 4.2.6; Core 2.01, sections 3.3.4.7.5, 5.2.2 and 5.6.4.1).
use Rattle.std.proofs.Common.{◌≡◌, ℕ, ◌*◌, true, List, [], ◌∷◌, ◌++◌, refl}
use Rattle.basics.specs.declared.profile.Profile.TheVariants.{Field, Opal}
use Rattle.sp_cells.specs.Names.{this_sp, random, session_manager, properties, admin_sp, c_pin_msid}
use Rattle.sp_cells.specs.Authorities.{authorities_of_locking}
use Rattle.sp_tables.specs.Faults.{any_to}
use Rattle.sp_tables.specs.Factory.{label_authorities, opal_authorities, opal_pins, opal_admin_aces, admin_constants, label_pins, label_aces, removal_aces, data_removals, datastore_aces, gen_key_aces, opal_locking_aces, locking_constants, range_keys, locking_infos, byte_tables, admin_sps, admin_authorities, locking_authorities, admin_pins, locking_pins, locking_ranges, locking_mbr_controls, admin_aces, authority_aces, pin_aces, range_get_aces, range_aces, mbr_aces}
use Rattle.ace_eval.specs.Access.{label_grants, removal_grants, datastore_grants, gen_key_ace_grants, info_grants, key_grants, this_sp_grants, owner_grants, authority_grants, fixed_ace_gets, user_ace_grants, read_locked_ace_grants, write_locked_ace_grants, done_ace_grants, pin_grants, range_get_ace_grants, range_get_grants, range_set_grants, mbr_grants, own_grants}
use Rattle.locking.specs.Ranges.{ranges_in}
use Rattle.locking.specs.Verdict.{verdict_of}
use Rattle.shadow_mbr.specs.Stored.{zeros, sectors_from}
use Rattle.tcg_tokens.specs.Lex.{first_lexeme}
use Rattle.tcg_tokens.specs.Reading.{expect, number_at, uid_at, values_up_to, list_with, list_value_with, named_with, value_after_token, list_at, status_at, call_at, reply_at, message_at, reading as message_in}
use Rattle.tcg_tokens.specs.Spelling.{number_spelling, bytes_spelling}
use Rattle.tcg_tokens.specs.Message.{Message}
use Rattle.tcg_tokens.specs.Tree.{Tree, trees_of}
use Rattle.tcg_tokens.specs.Tree as tree
use Rattle.device_data.specs.ErrorLog.{sized}
use Rattle.transactions.specs.Resets.{is_range}
use Rattle.methods.specs.Listed.{listed_among}
use Rattle.methods.specs.Settings.{cells_for}
use Rattle.methods.specs.Said.{reply_of}
use Rattle.sessions.specs.Starts.{sync_message}
use Rattle.history.specs.Decisions.{any_below}
use Rattle.trusted_cmds.specs.declared.command.Command.TheVariants.{Receive}
use Rattle.audit.specs.declared.rules.rule.Rule.TheVariants.{ManyRandomBytes, Shape, NoSubpacket, NoStackReset, NoFrame, Protocol, NoSession}
use Rattle.history.specs.Opening.{Origin, factory_origin}
use Rattle.history.specs.Facts.{facts}
use Rattle.history.specs.Tcg.{data_of}
use Rattle.history.specs.History.{Act, Accept, Reset, log}
use Rattle.history.proofs.Scripts.{config, fis, send, tell, in_it, call_of, get_cells, start_anybody, replies, rules_met, said}
use Rattle.std.specs.Prelude.{codes}
use Rattle.std.specs.Int.{w16, to_be_bytes}
use Rattle.compacket.specs.Spelling.{com_packet_header, packet_header}
use Rattle.sessions.specs.declared.beside.HostLimits.{HostLimits}
use Rattle.sessions.specs.Beside.{channel_of}
use Rattle.sessions.specs.Properties.{property}
use Rattle.history.specs.Readers.{beside}

field : Origin
field = factory_origin (record config { profile = Field })

opal : Origin
opal = factory_origin (record config { profile = Opal; sectors = 524288; mbr_sectors = 262144; datastore = 10485760 })

abbrev started : List ℕ
started = said (sync_message 1 0x1000 0)

abbrev begun : List Act
begun = tell 0x1000 0 0 (start_anybody admin_sp)

abbrev draws : List Tree → Message
draws args = call_of this_sp random args

-- The first bytes of the seed 0, and those behind them. 33 are too many, and a Count is wanted.
row_random : (replies opal (begun ++ in_it (draws (tree.number 8 ∷ [])) ++ in_it (draws (tree.number 2 ∷ []))) ≡
    started ∷ said (reply_of (tree.bytes (0x9e ∷ 0x3c ∷ 0xda ∷ 0x78 ∷ 0x17 ∷ 0xb5 ∷ 0x53 ∷ 0xf1 ∷ []) ∷ []) 0)
    ∷ said (reply_of (tree.bytes (0x8f ∷ 0x2e ∷ []) ∷ []) 0) ∷ [])
    × (rules_met opal (begun ++ in_it (draws (tree.number 33 ∷ []))) ≡ ManyRandomBytes ∷ [])
    × (rules_met opal (begun ++ in_it (draws [])) ≡ Shape ∷ [])
unfolding label_authorities opal_authorities opal_pins opal_admin_aces admin_constants label_pins label_aces removal_aces data_removals datastore_aces gen_key_aces opal_locking_aces locking_constants range_keys locking_infos byte_tables label_grants removal_grants datastore_grants gen_key_ace_grants info_grants key_grants admin_sps admin_authorities locking_authorities admin_pins locking_pins locking_ranges locking_mbr_controls admin_aces authority_aces pin_aces range_get_aces range_aces mbr_aces this_sp_grants owner_grants authority_grants fixed_ace_gets user_ace_grants read_locked_ace_grants write_locked_ace_grants done_ace_grants pin_grants range_get_ace_grants range_get_grants range_set_grants mbr_grants first_lexeme expect number_at uid_at values_up_to list_with list_value_with named_with value_after_token list_at status_at call_at reply_at message_at message_in number_spelling bytes_spelling any_below ranges_in verdict_of is_range listed_among cells_for zeros sectors_from authorities_of_locking any_to field opal own_grants
row_random = (refl, refl, refl)

-- A packet of eight bytes has no room for the header of a subpacket: the session that it names ends, where its ComPacket names the
-- ComID of the send. On a field drive nothing becomes of it.
abbrev short_packet : ℕ → List Act
short_packet com_id =
    Accept (fis 0x5f 1 0x100000 1) (sized 512 (com_packet_header com_id 0 0 32 ++ packet_header (record { tsn = 0x1000; hsn = 1 }) 8)) ∷ []

row_unframed : (rules_met opal (begun ++ short_packet 0x1000 ++ in_it (get_cells c_pin_msid 5 5)) ≡ NoSubpacket ∷ NoSession ∷ [])
    × (rules_met opal (begun ++ short_packet 0x1001 ++ in_it (get_cells c_pin_msid 5 5)) ≡ NoFrame ∷ [])
    × (rules_met field (begun ++ short_packet 0x1000 ++ in_it (get_cells c_pin_msid 5 5)) ≡ NoFrame ∷ [])
unfolding label_authorities opal_authorities opal_pins opal_admin_aces admin_constants label_pins label_aces removal_aces data_removals datastore_aces gen_key_aces opal_locking_aces locking_constants range_keys locking_infos byte_tables label_grants removal_grants datastore_grants gen_key_ace_grants info_grants key_grants admin_sps admin_authorities locking_authorities admin_pins locking_pins locking_ranges locking_mbr_controls admin_aces authority_aces pin_aces range_get_aces range_aces mbr_aces this_sp_grants owner_grants authority_grants fixed_ace_gets user_ace_grants read_locked_ace_grants write_locked_ace_grants done_ace_grants pin_grants range_get_ace_grants range_get_grants range_set_grants mbr_grants first_lexeme expect number_at uid_at values_up_to list_with list_value_with named_with value_after_token list_at status_at call_at reply_at message_at message_in number_spelling bytes_spelling any_below ranges_in verdict_of is_range listed_among cells_for zeros sectors_from authorities_of_locking any_to field opal
row_unframed = (refl, refl, refl)

-- A request to the stack of a ComID, which names this one.
abbrev asks_reset : (com_id named : ℕ) → Act
asks_reset com_id named = Accept (fis 0x5f 2 (256 * com_id) 1) (sized 512 (to_be_bytes w16 named ++ 0 ∷ 0 ∷ 0 ∷ 0 ∷ 0 ∷ 2 ∷ []))

abbrev asks_told : Act
asks_told = Accept (fis 0x5d 2 0x100000 1) []

-- It ends the sessions of its ComID alone, and names it.
row_stack : (rules_met opal (begun ++ asks_reset 0x1000 0x1000 ∷ in_it (get_cells c_pin_msid 5 5)) ≡ NoSession ∷ [])
    × (rules_met opal (begun ++ asks_reset 0x1001 0x1001 ∷ in_it (get_cells c_pin_msid 5 5)) ≡ [])
    × (rules_met opal (asks_reset 0x1000 0x1001 ∷ []) ≡ NoStackReset ∷ [])
    × (rules_met field (asks_reset 0x1000 0x1000 ∷ asks_told ∷ []) ≡ Protocol ∷ Protocol ∷ [])
unfolding label_authorities opal_authorities opal_pins opal_admin_aces admin_constants label_pins label_aces removal_aces data_removals datastore_aces gen_key_aces opal_locking_aces locking_constants range_keys locking_infos byte_tables label_grants removal_grants datastore_grants gen_key_ace_grants info_grants key_grants admin_sps admin_authorities locking_authorities admin_pins locking_pins locking_ranges locking_mbr_controls admin_aces authority_aces pin_aces range_get_aces range_aces mbr_aces this_sp_grants owner_grants authority_grants fixed_ace_gets user_ace_grants read_locked_ace_grants write_locked_ace_grants done_ace_grants pin_grants range_get_ace_grants range_get_grants range_set_grants mbr_grants first_lexeme expect number_at uid_at values_up_to list_with list_value_with named_with value_after_token list_at status_at call_at reply_at message_at message_in number_spelling bytes_spelling any_below ranges_in verdict_of is_range listed_among cells_for zeros sectors_from authorities_of_locking any_to field opal
row_stack = (refl, refl, refl, refl)

abbrev told : List Act → List ℕ
told acts = data_of (facts opal (log opal acts)) (Receive 2 0x1000 1 true)

-- It is told once, and not where another request came, or a reset.
row_stack_told : (told (asks_reset 0x1000 0x1000 ∷ []) ≡ sized 512 (0x10 ∷ 0 ∷ 0 ∷ 0 ∷ 0 ∷ 0 ∷ 0 ∷ 2 ∷ 0 ∷ 0 ∷ 0 ∷ 4 ∷ []))
    × (told (asks_told ∷ asks_reset 0x1000 0x1000 ∷ []) ≡ sized 512 (0x10 ∷ []))
    × (told (asks_reset 0x1000 0x1001 ∷ asks_reset 0x1000 0x1000 ∷ []) ≡ sized 512 (0x10 ∷ []))
    × (told (Reset 3 ∷ asks_reset 0x1000 0x1000 ∷ []) ≡ sized 512 (0x10 ∷ []))
unfolding label_authorities opal_authorities opal_pins opal_admin_aces admin_constants label_pins label_aces removal_aces data_removals datastore_aces gen_key_aces opal_locking_aces locking_constants range_keys locking_infos byte_tables label_grants removal_grants datastore_grants gen_key_ace_grants info_grants key_grants admin_sps admin_authorities locking_authorities admin_pins locking_pins locking_ranges locking_mbr_controls admin_aces authority_aces pin_aces range_get_aces range_aces mbr_aces this_sp_grants owner_grants authority_grants fixed_ace_gets user_ace_grants read_locked_ace_grants write_locked_ace_grants done_ace_grants pin_grants range_get_ace_grants range_get_grants range_set_grants mbr_grants first_lexeme expect number_at uid_at values_up_to list_with list_value_with named_with value_after_token list_at status_at call_at reply_at message_at message_in number_spelling bytes_spelling any_below ranges_in verdict_of is_range listed_among cells_for zeros sectors_from authorities_of_locking any_to field opal
row_stack_told = (refl, refl, refl, refl)

-- What a host takes on a ComID, behind what it told there.
abbrev takes : List Act → HostLimits
takes acts = (channel_of (beside (log opal acts)) 0x1000).limits

abbrev tells : List Tree → Act
tells values = send 0x1000 0 0 (call_of session_manager properties (tree.named (tree.number 0) (tree.list (trees_of values)) ∷ []))

row_limits : (takes [] ≡ record { com_packet = 2048; packet = 2028; token = 1992 })
    × (takes (tells (property (codes "MaxComPacketSize") 4096 ∷ property (codes "MaxPacketSize") 512 ∷ property (codes "MaxIndTokenSize") 65536 ∷ []) ∷ [])
    ≡ record { com_packet = 4096; packet = 2028; token = 65480 })
    × (takes (Reset 3 ∷ tells (property (codes "MaxComPacketSize") 4096 ∷ []) ∷ []) ≡ record { com_packet = 2048; packet = 2028; token = 1992 })
    × (takes (tells (property (codes "MaxComPacketSize") 4096 ∷ property (codes "MaxComPacketSize") 8192 ∷ []) ∷ [])
    ≡ record { com_packet = 4096; packet = 2028; token = 1992 })
unfolding label_authorities opal_authorities opal_pins opal_admin_aces admin_constants label_pins label_aces removal_aces data_removals datastore_aces gen_key_aces opal_locking_aces locking_constants range_keys locking_infos byte_tables label_grants removal_grants datastore_grants gen_key_ace_grants info_grants key_grants admin_sps admin_authorities locking_authorities admin_pins locking_pins locking_ranges locking_mbr_controls admin_aces authority_aces pin_aces range_get_aces range_aces mbr_aces this_sp_grants owner_grants authority_grants fixed_ace_gets user_ace_grants read_locked_ace_grants write_locked_ace_grants done_ace_grants pin_grants range_get_ace_grants range_get_grants range_set_grants mbr_grants first_lexeme expect number_at uid_at values_up_to list_with list_value_with named_with value_after_token list_at status_at call_at reply_at message_at message_in number_spelling bytes_spelling any_below ranges_in verdict_of is_range listed_among cells_for zeros sectors_from authorities_of_locking any_to field opal
row_limits = (refl, refl, refl, refl)
