-- The shadow MBR.
use Rattle.std.proofs.Common.{◌≡◌, List, [], ◌∷◌, ◌++◌, reverse, replicate, refl}
use Rattle.std.specs.Prelude.{take}
use Rattle.sp_cells.specs.Authorities.{authorities_of_locking}
use Rattle.sp_cells.specs.Names.{locking_sp, admin_uid, mbr_control, mbr_table, set}
use Rattle.sp_tables.specs.Faults.{any_to}
use Rattle.sp_tables.specs.Factory.{admin_sps, admin_authorities, locking_authorities, admin_pins, locking_pins, locking_ranges, locking_mbr_controls, admin_aces, authority_aces, pin_aces, range_get_aces, range_aces, mbr_aces}
use Rattle.ace_eval.specs.Access.{this_sp_grants, owner_grants, authority_grants, fixed_ace_gets, user_ace_grants, read_locked_ace_grants, write_locked_ace_grants, done_ace_grants, pin_grants, range_get_ace_grants, range_get_grants, range_set_grants, mbr_grants}
use Rattle.locking.specs.Ranges.{ranges_in}
use Rattle.locking.specs.Verdict.{verdict_of}
use Rattle.audit.specs.declared.reason.Why.TheVariants.{ReadShadow, WriteShadow}
use Rattle.shadow_mbr.specs.Stored.{zeros, sectors_from}
use Rattle.tcg_tokens.specs.Lex.{first_lexeme}
use Rattle.tcg_tokens.specs.Reading.{expect, number_at, uid_at, values_up_to, list_with, list_value_with, named_with, value_after_token, list_at, status_at, call_at, reply_at, message_at, reading as message_in}
use Rattle.tcg_tokens.specs.Spelling.{number_spelling, bytes_spelling}
use Rattle.tcg_tokens.specs.Message.{begin}
use Rattle.tcg_tokens.specs.Tree.{Tree, Trees, trees_of}
use Rattle.tcg_tokens.specs.Tree as tree
use Rattle.transactions.specs.Resets.{is_range}
use Rattle.methods.specs.Listed.{listed_among}
use Rattle.methods.specs.Settings.{cells_for}
use Rattle.history.specs.Readers.{byte_in_view}
use Rattle.history.specs.Facts.{facts}
use Rattle.history.specs.Decisions.{any_below}
use Rattle.history.specs.Tcg.{accepted_data}
use Rattle.history.specs.History.{Act, event, log}
use Rattle.history.proofs.Scripts.{msid, activated, fis, dread, dwrite, tell, call_of, start_as, in_it, set_cells, whys}

-- Enable is 1, and byte 0 of the shadow is 5Ah.
shadowed : List Act
shadowed =
    tell 0x1000 0 0 (start_as locking_sp (admin_uid 1) msid)
    ++ in_it (set_cells mbr_control ((1, tree.number 1) ∷ []))
    ++ in_it (call_of mbr_table set (tree.named (tree.number 1) (tree.bytes (0x5a ∷ [])) ∷ []))

shadow_denies : whys activated (shadowed ++ dread 0 8 ∷ dread 7 2 ∷ dwrite 7 1 0xaa ∷ dread 8 1 ∷ []) ≡ ReadShadow 7 2 ∷ WriteShadow 7 1 ∷ []
unfolding admin_sps admin_authorities locking_authorities admin_pins locking_pins locking_ranges locking_mbr_controls admin_aces authority_aces pin_aces range_get_aces range_aces mbr_aces this_sp_grants owner_grants authority_grants fixed_ace_gets user_ace_grants read_locked_ace_grants write_locked_ace_grants done_ace_grants pin_grants range_get_ace_grants range_get_grants range_set_grants mbr_grants first_lexeme expect number_at uid_at values_up_to list_with list_value_with named_with value_after_token list_at status_at call_at reply_at message_at message_in number_spelling bytes_spelling any_below ranges_in verdict_of is_range listed_among cells_for zeros sectors_from authorities_of_locking any_to shadowed
shadow_denies = refl

shadow_bytes : accepted_data (facts activated (log activated (reverse shadowed))) (fis 0x25 0 0 8) (event activated (log activated (reverse shadowed)) (dread 0 8)) ≡ 0x5a ∷ replicate 4095 0
unfolding admin_sps admin_authorities locking_authorities admin_pins locking_pins locking_ranges locking_mbr_controls admin_aces authority_aces pin_aces range_get_aces range_aces mbr_aces this_sp_grants owner_grants authority_grants fixed_ace_gets user_ace_grants read_locked_ace_grants write_locked_ace_grants done_ace_grants pin_grants range_get_ace_grants range_get_grants range_set_grants mbr_grants first_lexeme expect number_at uid_at values_up_to list_with list_value_with named_with value_after_token list_at status_at call_at reply_at message_at message_in number_spelling bytes_spelling any_below ranges_in verdict_of is_range listed_among cells_for zeros sectors_from authorities_of_locking any_to shadowed
shadow_bytes = refl

-- A Set of that byte in an open transaction is not read by others, and its session reads it.
inside : List Act
inside = in_it (begin 0) ++ in_it (call_of mbr_table set (tree.named (tree.number 0) (tree.number 0) ∷ tree.named (tree.number 1) (tree.bytes (0x77 ∷ [])) ∷ []))

inside_bytes : take 2 (accepted_data (facts activated (log activated (reverse (shadowed ++ inside)))) (fis 0x25 0 0 1) (event activated (log activated (reverse (shadowed ++ inside))) (dread 0 1))) ≡ 0x5a ∷ 0 ∷ []
unfolding admin_sps admin_authorities locking_authorities admin_pins locking_pins locking_ranges locking_mbr_controls admin_aces authority_aces pin_aces range_get_aces range_aces mbr_aces this_sp_grants owner_grants authority_grants fixed_ace_gets user_ace_grants read_locked_ace_grants write_locked_ace_grants done_ace_grants pin_grants range_get_ace_grants range_get_grants range_set_grants mbr_grants first_lexeme expect number_at uid_at values_up_to list_with list_value_with named_with value_after_token list_at status_at call_at reply_at message_at message_in number_spelling bytes_spelling any_below ranges_in verdict_of is_range listed_among cells_for zeros sectors_from authorities_of_locking any_to shadowed inside
inside_bytes = refl

inside_view : byte_in_view (log activated (reverse (shadowed ++ inside))) 0x1000 0 ≡ 0x77
unfolding admin_sps admin_authorities locking_authorities admin_pins locking_pins locking_ranges locking_mbr_controls admin_aces authority_aces pin_aces range_get_aces range_aces mbr_aces this_sp_grants owner_grants authority_grants fixed_ace_gets user_ace_grants read_locked_ace_grants write_locked_ace_grants done_ace_grants pin_grants range_get_ace_grants range_get_grants range_set_grants mbr_grants first_lexeme expect number_at uid_at values_up_to list_with list_value_with named_with value_after_token list_at status_at call_at reply_at message_at message_in number_spelling bytes_spelling any_below ranges_in verdict_of is_range listed_among cells_for zeros sectors_from authorities_of_locking any_to shadowed inside
inside_view = refl
