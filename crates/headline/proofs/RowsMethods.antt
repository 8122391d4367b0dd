-- Calls on both sides of their law, computed from the definitions.
use Rattle.std.proofs.Common.{List, None, Some, [], arith, refl, Bool, true, false, ◌&&◌, nat_lt, ℕ, ◌++◌, ◌∷◌, ◌≡◌}
use Rattle.std.proofs.lemmas.Bool.Decides.{nat_tests}
use Rattle.sp_cells.specs.declared.cells.Cell.TheVariants.{Number}
use Rattle.sp_cells.specs.declared.names.Sp.TheVariants.{Locking}
use Rattle.sp_cells.specs.ColumnNames.{read_locked_column}
use Rattle.sp_cells.specs.Names.{anybody, admin_uid, admins_class, locking_sp, range_uid, set, ace_locking_admins_set, ace_range_set_read_locked}
use Rattle.std.specs.Prelude.{map}
use Rattle.std.specs.Int.{w64, to_be_bytes}
use Rattle.sp_cells.specs.declared.cells.Cell.{Cell}
use Rattle.sp_cells.specs.declared.names.Column.{Column}
use Rattle.sp_cells.specs.declared.names.Uid.{Uid}
use Rattle.compacket.specs.Frames.{Frame}
use Rattle.tcg_tokens.specs.Spelling.{item_spelling_of, number_spelling, bytes_spelling}
use Rattle.tcg_tokens.specs.Tree.{Trees, trees_of}
use Rattle.trusted_cmds.specs.declared.command.Command.TheVariants.{Send}
use Rattle.tcg_calls.specs.Asks.{uid_of}
use Rattle.tcg_calls.specs.declared.call_shapes.ask.Ask.TheVariants.{SetCells, Revert}
use Rattle.shadow_mbr.specs.Erasure.{no_sectors, all_sectors}
use Rattle.basics.specs.declared.profile.Profile.TheVariants.{Base}
use Rattle.methods.specs.Laws.{are_rising, takes_effect}
use Rattle.methods.specs.Listed.{listed, listed_among}
use Rattle.methods.specs.Judgement.{asked}
use Rattle.sessions.specs.Deeds.{Begun, cells_set, Sets, SessionDeed, Unchanged, Changed, Reverted}
use Rattle.headline.specs.Methods.{IsCallStep, EffectIs, standing_at, comes_to}
use Rattle.sp_cells.specs.Authorities.{authorities_of_locking}
use Rattle.sp_tables.specs.Faults.{any_to}
use Rattle.sp_tables.specs.Factory.{admin_sps, admin_authorities, locking_authorities, admin_pins, locking_pins, locking_ranges, locking_mbr_controls, admin_aces, authority_aces, pin_aces, range_get_aces, range_aces, mbr_aces}
use Rattle.ace_eval.specs.Access.{this_sp_grants, owner_grants, authority_grants, fixed_ace_gets, user_ace_grants, read_locked_ace_grants, write_locked_ace_grants, done_ace_grants, pin_grants, range_get_ace_grants, range_get_grants, range_set_grants, mbr_grants}
use Rattle.locking.specs.Ranges.{ranges_in}
use Rattle.locking.specs.Verdict.{verdict_of}
use Rattle.shadow_mbr.specs.Stored.{zeros, sectors_from}
use Rattle.tcg_tokens.specs.Lex.{first_lexeme}
use Rattle.tcg_tokens.specs.Reading.{expect, number_at, uid_at, values_up_to, list_with, list_value_with, named_with, value_after_token, list_at, status_at, call_at, reply_at, message_at, reading as message_in}
use Rattle.transactions.specs.Resets.{is_range}
use Rattle.methods.specs.Settings.{cells_for}
use Rattle.history.specs.Decisions.{any_below}
use Rattle.tcg_tokens.specs.Tree as tree
use Rattle.audit.specs.declared.reason.Why.TheVariants.{NoEntryHolds}
use Rattle.history.proofs.Scripts.{new_drive, activated, start_anybody, set_cells}
use Rattle.port_history.specs.declared.step.Step.{Step}
use Rattle.port_history.specs.declared.step.Step.TheVariants.{Accept}
use Rattle.port_history.specs.Steps.{trace, audit}
use Rattle.headline.specs.Steps.{facts_after}
use Rattle.history.specs.Tcg.{tcg}
use Rattle.headline.proofs.Scenes.{are_lawful, told, lays, begins, by_admin, deed_of, denied_of}

-- A Set of ReadLocked of range 2, by Admin1.
abbrev set_by_admin : List Step
set_by_admin =
    lays 2 2 (told 0x1000 1 (set_cells (range_uid 2) ((7, tree.number 1) ∷ []))) ++ begins by_admin

set_granted : (are_lawful activated (Accept 2 ∷ set_by_admin) ≡ true)
    × (deed_of activated set_by_admin (Accept 2)
    ≡ Some (Changed Locking (Sets (cells_set (range_uid 2) ((read_locked_column, Number 1) ∷ [])))))
    × (denied_of activated set_by_admin (Accept 2) ≡ None)
    × ((facts_after tcg activated (Accept 2 ∷ set_by_admin)).rows Locking (range_uid 2) read_locked_column
    ≡ Some (Number 1))
    × (audit (trace activated (Accept 2 ∷ set_by_admin)) ≡ [])
unfolding admin_sps admin_authorities locking_authorities admin_pins locking_pins locking_ranges locking_mbr_controls admin_aces authority_aces pin_aces range_get_aces range_aces mbr_aces this_sp_grants owner_grants authority_grants fixed_ace_gets user_ace_grants read_locked_ace_grants write_locked_ace_grants done_ace_grants pin_grants range_get_ace_grants range_get_grants range_set_grants mbr_grants first_lexeme expect number_at uid_at values_up_to list_with list_value_with named_with value_after_token list_at status_at call_at reply_at message_at message_in number_spelling bytes_spelling any_below ranges_in verdict_of is_range listed_among cells_for zeros sectors_from authorities_of_locking any_to
set_granted = (refl, refl, refl, refl, refl)

-- The same by anybody: it changes nothing, and its line names the step and the client.
abbrev set_by_anybody : List Step
set_by_anybody =
    lays 2 2 (told 0x1000 1 (set_cells (range_uid 2) ((7, tree.number 1) ∷ [])))
    ++ begins (start_anybody locking_sp)

set_denied : (are_lawful activated (Accept 2 ∷ set_by_anybody) ≡ true)
    × (deed_of activated set_by_anybody (Accept 2) ≡ Some Unchanged)
    × ((facts_after tcg activated (Accept 2 ∷ set_by_anybody)).rows Locking (range_uid 2) read_locked_column
    ≡ Some (Number 0))
    × (audit (trace activated (Accept 2 ∷ set_by_anybody)) ≡ record {
      step = 9;
      client = 2;
      why = NoEntryHolds Locking (range_uid 2) set (Some read_locked_column)
          (record { items = ace_locking_admins_set ∷ ace_range_set_read_locked 2 ∷ [] });
    } ∷ [])
unfolding admin_sps admin_authorities locking_authorities admin_pins locking_pins locking_ranges locking_mbr_controls admin_aces authority_aces pin_aces range_get_aces range_aces mbr_aces this_sp_grants owner_grants authority_grants fixed_ace_gets user_ace_grants read_locked_ace_grants write_locked_ace_grants done_ace_grants pin_grants range_get_ace_grants range_get_grants range_set_grants mbr_grants first_lexeme expect number_at uid_at values_up_to list_with list_value_with named_with value_after_token list_at status_at call_at reply_at message_at message_in number_spelling bytes_spelling any_below ranges_in verdict_of is_range listed_among cells_for zeros sectors_from authorities_of_locking any_to
set_denied = (refl, refl, refl, refl)

-- Both are calls of the law, of a session of Admin1 and of one of Anybody.
abbrev session_of : List Uid → Begun
session_of held =
    record { number = 0x1000; host = 1; com_id = 0x1000; sp = Locking; authorities = held }

abbrev set_args : Trees
set_args =
    trees_of (tree.named (tree.number 1) (tree.list (trees_of (tree.named (tree.number 7) (tree.number 1) ∷ []))) ∷ [])

abbrev its_frame : Frame
its_frame = record {
  com_id = 0x1000;
  session = record { tsn = 0x1000; hsn = 1 };
  payload = item_spelling_of (set_cells (range_uid 2) ((7, tree.number 1) ∷ []));
}

call_by_admin : IsCallStep activated set_by_admin (Accept 2) (session_of (anybody ∷ admin_uid 1 ∷ admins_class ∷ []))
    (to_be_bytes w64 (range_uid 2).0) (to_be_bytes w64 set.0) set_args
unfolding admin_sps admin_authorities locking_authorities admin_pins locking_pins locking_ranges locking_mbr_controls admin_aces authority_aces pin_aces range_get_aces range_aces mbr_aces this_sp_grants owner_grants authority_grants fixed_ace_gets user_ace_grants read_locked_ace_grants write_locked_ace_grants done_ace_grants pin_grants range_get_ace_grants range_get_grants range_set_grants mbr_grants first_lexeme expect number_at uid_at values_up_to list_with list_value_with named_with value_after_token list_at status_at call_at reply_at message_at message_in number_spelling bytes_spelling any_below ranges_in verdict_of is_range listed_among cells_for zeros sectors_from authorities_of_locking any_to
call_by_admin = record {
  tag = 2;
  put = record { client = 2; number = 7; command = Send 1 0x1000 1 true };
  accepts = refl;
  stands = refl;
  com_id = 0x1000;
  blocks = 1;
  sends = refl;
  some = omega arith;
  fits = refl;
  of_sessions = refl;
  free = refl;
  frame = its_frame;
  framed = refl;
  addressed = refl;
  no_manager = refl;
  named = refl;
  status = 0 ∷ 0 ∷ 0 ∷ [];
  calls = refl;
}

call_by_anybody : IsCallStep activated set_by_anybody (Accept 2) (session_of (anybody ∷ []))
    (to_be_bytes w64 (range_uid 2).0) (to_be_bytes w64 set.0) set_args
unfolding admin_sps admin_authorities locking_authorities admin_pins locking_pins locking_ranges locking_mbr_controls admin_aces authority_aces pin_aces range_get_aces range_aces mbr_aces this_sp_grants owner_grants authority_grants fixed_ace_gets user_ace_grants read_locked_ace_grants write_locked_ace_grants done_ace_grants pin_grants range_get_ace_grants range_get_grants range_set_grants mbr_grants first_lexeme expect number_at uid_at values_up_to list_with list_value_with named_with value_after_token list_at status_at call_at reply_at message_at message_in number_spelling bytes_spelling any_below ranges_in verdict_of is_range listed_among cells_for zeros sectors_from authorities_of_locking any_to
call_by_anybody = record {
  tag = 2;
  put = record { client = 2; number = 7; command = Send 1 0x1000 1 true };
  accepts = refl;
  stands = refl;
  com_id = 0x1000;
  blocks = 1;
  sends = refl;
  some = omega arith;
  fits = refl;
  of_sessions = refl;
  free = refl;
  frame = its_frame;
  framed = refl;
  addressed = refl;
  no_manager = refl;
  named = refl;
  status = 0 ∷ 0 ∷ 0 ∷ [];
  calls = refl;
}

-- Its shape and its values are right in both.
set_valid : (asked Base Locking (uid_of (to_be_bytes w64 (range_uid 2).0)) (uid_of (to_be_bytes w64 set.0)) set_args
    ≡ Some (SetCells ((7, tree.number 1) ∷ [])))
    × (takes_effect (comes_to activated set_by_anybody (session_of (anybody ∷ [])) (to_be_bytes w64 (range_uid 2).0)
    (SetCells ((7, tree.number 1) ∷ []))) ≡ true)
unfolding admin_sps admin_authorities locking_authorities admin_pins locking_pins locking_ranges locking_mbr_controls admin_aces authority_aces pin_aces range_get_aces range_aces mbr_aces this_sp_grants owner_grants authority_grants fixed_ace_gets user_ace_grants read_locked_ace_grants write_locked_ace_grants done_ace_grants pin_grants range_get_ace_grants range_get_grants range_set_grants mbr_grants first_lexeme expect number_at uid_at values_up_to list_with list_value_with named_with value_after_token list_at status_at call_at reply_at message_at message_in number_spelling bytes_spelling any_below ranges_in verdict_of is_range listed_among cells_for zeros sectors_from authorities_of_locking any_to
set_valid = (refl, refl)

-- Of a range, which has no Name, Anybody is listed the columns 0 and 2, Admin1 all.
abbrev columns_listed : List Step → List Uid → List ℕ
columns_listed before held =
    map (λ (p : Column × Cell). p.0.0)
    (listed (standing_at activated before (session_of held)).profile (standing_at activated before (session_of held)).rows Locking (range_uid 1) 0 9
    (standing_at activated before (session_of held)).held)

get_listed : (columns_listed set_by_anybody (anybody ∷ []) ≡ 0 ∷ 2 ∷ [])
    × (columns_listed set_by_admin (anybody ∷ admin_uid 1 ∷ admins_class ∷ [])
    ≡ 0 ∷ 2 ∷ 3 ∷ 4 ∷ 5 ∷ 6 ∷ 7 ∷ 8 ∷ 9 ∷ [])
unfolding admin_sps admin_authorities locking_authorities admin_pins locking_pins locking_ranges locking_mbr_controls admin_aces authority_aces pin_aces range_get_aces range_aces mbr_aces this_sp_grants owner_grants authority_grants fixed_ace_gets user_ace_grants read_locked_ace_grants write_locked_ace_grants done_ace_grants pin_grants range_get_ace_grants range_get_grants range_set_grants mbr_grants first_lexeme expect number_at uid_at values_up_to list_with list_value_with named_with value_after_token list_at status_at call_at reply_at message_at message_in number_spelling bytes_spelling any_below ranges_in verdict_of is_range listed_among cells_for zeros sectors_from authorities_of_locking any_to
get_listed = (refl, refl)

-- A Revert of the Locking SP: what the law says that it does where the SP is in use, and where not.
revert_says : (deed : SessionDeed)
    → EffectIs (facts_after tcg activated (begins by_admin)) (session_of (anybody ∷ [])) locking_sp Revert deed
    → deed ≡ Reverted Locking all_sectors
unfolding admin_sps admin_authorities locking_authorities admin_pins locking_pins locking_ranges locking_mbr_controls admin_aces authority_aces pin_aces range_get_aces range_aces mbr_aces this_sp_grants owner_grants authority_grants fixed_ace_gets user_ace_grants read_locked_ace_grants write_locked_ace_grants done_ace_grants pin_grants range_get_ace_grants range_get_grants range_set_grants mbr_grants first_lexeme expect number_at uid_at values_up_to list_with list_value_with named_with value_after_token list_at status_at call_at reply_at message_at message_in number_spelling bytes_spelling any_below ranges_in verdict_of is_range listed_among cells_for zeros sectors_from authorities_of_locking any_to
revert_says deed effect = effect.0 refl

revert_of_a_new_drive : (deed : SessionDeed)
    → EffectIs (facts_after tcg new_drive []) (session_of (anybody ∷ [])) locking_sp Revert deed
    → deed ≡ Reverted Locking no_sectors
unfolding admin_sps admin_authorities locking_authorities admin_pins locking_pins locking_ranges locking_mbr_controls admin_aces authority_aces pin_aces range_get_aces range_aces mbr_aces this_sp_grants owner_grants authority_grants fixed_ace_gets user_ace_grants read_locked_ace_grants write_locked_ace_grants done_ace_grants pin_grants range_get_ace_grants range_get_grants range_set_grants mbr_grants first_lexeme expect number_at uid_at values_up_to list_with list_value_with named_with value_after_token list_at status_at call_at reply_at message_at message_in number_spelling bytes_spelling any_below ranges_in verdict_of is_range listed_among cells_for zeros sectors_from authorities_of_locking any_to
revert_of_a_new_drive deed effect = effect.1 refl

-- A list with a column twice does not rise.
not_twice : (k : Column) (v w : Cell) (rest : List (Column × Cell))
    → are_rising (map (λ (p : Column × Cell). p.0) ((k, v) ∷ (k, w) ∷ rest)) ≡ true → ⊥
not_twice k v w rest rising = by_test (nat_lt k.0 k.0) rising (grind (arith, nat_tests))
  where
    by_test : (b : Bool) → (b && are_rising (k ∷ map (λ (p : Column × Cell). p.0) rest)) ≡ true → b ≡ false → ⊥
    by_test true h e = absurd (cc)
    by_test false h e = absurd (cc)
