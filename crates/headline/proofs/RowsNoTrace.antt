-- Transactions on both sides of their law, computed from the definitions.
use Rattle.std.proofs.Common.{◌≡◌, ℕ, true, false, List, [], ◌∷◌, ◌++◌, replicate, Some, None, refl}
use Rattle.sp_cells.specs.declared.cells.Cell.TheVariants.{Number}
use Rattle.audit.specs.declared.reason.Why.TheVariants.{ReadLocked}
use Rattle.locking.specs.declared.range.Op.{Op}
use Rattle.locking.specs.declared.range.Op.TheVariants as ops
use Rattle.locking.specs.declared.ranges.Verdict.TheVariants.{Serve, Denied}
use Rattle.sp_cells.specs.declared.names.Sp.{Sp}
use Rattle.sp_cells.specs.declared.names.Sp.TheVariants.{Locking}
use Rattle.sp_cells.specs.ColumnNames.{read_locked_column}
use Rattle.sp_cells.specs.Names.{range_uid}
use Rattle.sp_cells.specs.Authorities.{authorities_of_locking}
use Rattle.sp_tables.specs.Faults.{any_to}
use Rattle.sp_tables.specs.Factory.{admin_sps, admin_authorities, locking_authorities, admin_pins, locking_pins, locking_ranges, locking_mbr_controls, admin_aces, authority_aces, pin_aces, range_get_aces, range_aces, mbr_aces}
use Rattle.ace_eval.specs.Access.{this_sp_grants, owner_grants, authority_grants, fixed_ace_gets, user_ace_grants, read_locked_ace_grants, write_locked_ace_grants, done_ace_grants, pin_grants, range_get_ace_grants, range_get_grants, range_set_grants, mbr_grants}
use Rattle.locking.specs.Ranges.{ranges_in}
use Rattle.locking.specs.Verdict.{verdict_of}
use Rattle.shadow_mbr.specs.Stored.{zeros, sectors_from}
use Rattle.tcg_tokens.specs.Lex.{first_lexeme}
use Rattle.tcg_tokens.specs.Reading.{expect, number_at, uid_at, values_up_to, list_with, list_value_with, named_with, value_after_token, list_at, status_at, call_at, reply_at, message_at, reading as message_in}
use Rattle.tcg_tokens.specs.Spelling.{number_spelling, bytes_spelling}
use Rattle.transactions.specs.Resets.{is_range}
use Rattle.methods.specs.Listed.{listed_among}
use Rattle.methods.specs.Settings.{cells_for}
use Rattle.history.specs.Decisions.{any_below, verdict_on}
use Rattle.history.specs.Facts.{facts}
use Rattle.history.specs.Items.{Items}
use Rattle.headline.specs.NoTrace.{HaveSameVerdicts, IsHidden}
use Rattle.tcg_tokens.specs.Message.{begin, end}
use Rattle.tcg_tokens.specs.Tree as tree
use Rattle.history.specs.Readers.{open_on}
use Rattle.trusted_cmds.specs.declared.command.Command.TheVariants.{Send}
use Rattle.history.specs.Events.{Event}
use Rattle.history.specs.History.{Accept as AcceptFis, event_by}
use Rattle.history.specs.NoTrace.{Aborts, emptied, is_commit, is_for}
use Rattle.port_history.specs.Requests.{command_fis}
use Rattle.port_history.specs.declared.step.Step.TheVariants.{Accept}
use Rattle.history.specs.Opening.{Origin}
use Rattle.history.proofs.Scripts.{range_row, opened, send, set_cells}
use Rattle.port_history.specs.declared.request.Answer.TheVariants as answers
use Rattle.port_history.specs.declared.request.Request.TheVariants.{ReadDma}
use Rattle.port_history.specs.declared.step.Step.{Step}
use Rattle.port_history.specs.Steps.{trace, answer, payload}
use Rattle.headline.specs.Steps.{past_of, facts_after, event_after}
use Rattle.history.specs.Tcg.{tcg}
use Rattle.headline.proofs.Scenes.{are_lawful, told, lays, brings, begins, says, by_admin}

-- Range 1 is 100+10, its read lock enabled and not set.
abbrev enabled : Origin
enabled = opened (range_row 1 100 10 true false false false)

-- Admin1 begins a transaction and sets the lock in it.
abbrev locking : List Step
locking =
    says 4 5 (set_cells (range_uid 1) ((7, tree.number 1) ∷ [])) ++ says 2 3 (begin 0) ++ begins by_admin

-- While it is open the lock is in its session's view alone, and the range is read.
abbrev within : List Step
within = brings 1 8 (ReadDma 100 1) ++ locking

set_open : (are_lawful enabled within ≡ true)
    × (open_on (past_of tcg enabled within) Locking ≡ Some 0x1000)
    × ((facts_after tcg enabled within).rows_of 0x1000 Locking (range_uid 1) read_locked_column ≡ Some (Number 1))
    × ((facts_after tcg enabled within).rows Locking (range_uid 1) read_locked_column ≡ Some (Number 0))
    × (answer (trace enabled within) 8 ≡ Some (answers.Done (replicate 512 0)))
unfolding admin_sps admin_authorities locking_authorities admin_pins locking_pins locking_ranges locking_mbr_controls admin_aces authority_aces pin_aces range_get_aces range_aces mbr_aces this_sp_grants owner_grants authority_grants fixed_ace_gets user_ace_grants read_locked_ace_grants write_locked_ace_grants done_ace_grants pin_grants range_get_ace_grants range_get_grants range_set_grants mbr_grants first_lexeme expect number_at uid_at values_up_to list_with list_value_with named_with value_after_token list_at status_at call_at reply_at message_at message_in number_spelling bytes_spelling any_below ranges_in verdict_of is_range listed_among cells_for zeros sectors_from authorities_of_locking any_to
set_open = (refl, refl, refl, refl, refl)

-- It is aborted: the same, and nothing is open.
abbrev ended : ℕ → List Step
ended n = brings 1 8 (ReadDma 100 1) ++ says 6 7 (end n) ++ locking

set_aborted : (are_lawful enabled (ended 1) ≡ true)
    × (open_on (past_of tcg enabled (ended 1)) Locking ≡ None)
    × ((facts_after tcg enabled (ended 1)).rows Locking (range_uid 1) read_locked_column ≡ Some (Number 0))
    × (answer (trace enabled (ended 1)) 8 ≡ Some (answers.Done (replicate 512 0)))
unfolding admin_sps admin_authorities locking_authorities admin_pins locking_pins locking_ranges locking_mbr_controls admin_aces authority_aces pin_aces range_get_aces range_aces mbr_aces this_sp_grants owner_grants authority_grants fixed_ace_gets user_ace_grants read_locked_ace_grants write_locked_ace_grants done_ace_grants pin_grants range_get_ace_grants range_get_grants range_set_grants mbr_grants first_lexeme expect number_at uid_at values_up_to list_with list_value_with named_with value_after_token list_at status_at call_at reply_at message_at message_in number_spelling bytes_spelling any_below ranges_in verdict_of is_range listed_among cells_for zeros sectors_from authorities_of_locking any_to
set_aborted = (refl, refl, refl, refl)

-- It is committed: the lock is set, and the read is denied.
set_committed : (are_lawful enabled (ended 0) ≡ true)
    × ((facts_after tcg enabled (ended 0)).rows Locking (range_uid 1) read_locked_column ≡ Some (Number 1))
    × (answer (trace enabled (ended 0)) 8 ≡ Some (answers.Failed 0x51 0x04))
unfolding admin_sps admin_authorities locking_authorities admin_pins locking_pins locking_ranges locking_mbr_controls admin_aces authority_aces pin_aces range_get_aces range_aces mbr_aces this_sp_grants owner_grants authority_grants fixed_ace_gets user_ace_grants read_locked_ace_grants write_locked_ace_grants done_ace_grants pin_grants range_get_ace_grants range_get_grants range_set_grants mbr_grants first_lexeme expect number_at uid_at values_up_to list_with list_value_with named_with value_after_token list_at status_at call_at reply_at message_at message_in number_spelling bytes_spelling any_below ranges_in verdict_of is_range listed_among cells_for zeros sectors_from authorities_of_locking any_to
set_committed = (refl, refl, refl)

-- The step that ends it is an abort of the law; the one that commits is none.
abbrev ending : ℕ → List Step
ending n = lays 2 6 (told 0x1000 1 (end n)) ++ locking

abbrev end_of : ℕ → Event
end_of n =
    event_by (facts_after tcg enabled (ending n))
    (AcceptFis (command_fis (Send 1 0x1000 1 true) 6) (payload (trace enabled (ending n)) 6))

is_abort : (event_after tcg enabled (ending 1) (Accept 6) ≡ Some (end_of 1)) × Aborts Locking (end_of 1)
unfolding admin_sps admin_authorities locking_authorities admin_pins locking_pins locking_ranges locking_mbr_controls admin_aces authority_aces pin_aces range_get_aces range_aces mbr_aces this_sp_grants owner_grants authority_grants fixed_ace_gets user_ace_grants read_locked_ace_grants write_locked_ace_grants done_ace_grants pin_grants range_get_ace_grants range_get_grants range_set_grants mbr_grants first_lexeme expect number_at uid_at values_up_to list_with list_value_with named_with value_after_token list_at status_at call_at reply_at message_at message_in number_spelling bytes_spelling any_below ranges_in verdict_of is_range listed_among cells_for zeros sectors_from authorities_of_locking any_to
is_abort = (refl, record { closes = refl; no_commit = refl })

is_no_abort : is_commit (end_of 0).deed ≡ true
unfolding admin_sps admin_authorities locking_authorities admin_pins locking_pins locking_ranges locking_mbr_controls admin_aces authority_aces pin_aces range_get_aces range_aces mbr_aces this_sp_grants owner_grants authority_grants fixed_ace_gets user_ace_grants read_locked_ace_grants write_locked_ace_grants done_ace_grants pin_grants range_get_ace_grants range_get_grants range_set_grants mbr_grants first_lexeme expect number_at uid_at values_up_to list_with list_value_with named_with value_after_token list_at status_at call_at reply_at message_at message_in number_spelling bytes_spelling any_below ranges_in verdict_of is_range listed_among cells_for zeros sectors_from authorities_of_locking any_to
is_no_abort = refl

-- A frame is for the session that its ComID, TSN and HSN name, and for no other.
it_names : (is_for tcg (facts_after tcg enabled locking) 0x1000 (send 0x1000 0x1000 1 (end 0)) ≡ true)
    × (is_for tcg (facts_after tcg enabled locking) 0x1000 (send 0x1001 0x1000 1 (end 0)) ≡ false)
    × (is_for tcg (facts_after tcg enabled locking) 0x1000 (send 0x1000 0x1001 1 (end 0)) ≡ false)
    × (is_for tcg (facts_after tcg enabled locking) 0x1000 (send 0x1000 0x1000 2 (end 0)) ≡ false)
unfolding admin_sps admin_authorities locking_authorities admin_pins locking_pins locking_ranges locking_mbr_controls admin_aces authority_aces pin_aces range_get_aces range_aces mbr_aces this_sp_grants owner_grants authority_grants fixed_ace_gets user_ace_grants read_locked_ace_grants write_locked_ace_grants done_ace_grants pin_grants range_get_ace_grants range_get_grants range_set_grants mbr_grants first_lexeme expect number_at uid_at values_up_to list_with list_value_with named_with value_after_token list_at status_at call_at reply_at message_at message_in number_spelling bytes_spelling any_below ranges_in verdict_of is_range listed_among cells_for zeros sectors_from authorities_of_locking any_to
it_names = (refl, refl, refl, refl)

-- A committed lock: without its Sets the verdict is another one.
verdicts_differ : HaveSameVerdicts (facts enabled (emptied Locking (past_of tcg enabled (ended 0))))
    (facts_after tcg enabled (ended 0))
    → ⊥
unfolding admin_sps admin_authorities locking_authorities admin_pins locking_pins locking_ranges locking_mbr_controls admin_aces authority_aces pin_aces range_get_aces range_aces mbr_aces this_sp_grants owner_grants authority_grants fixed_ace_gets user_ace_grants read_locked_ace_grants write_locked_ace_grants done_ace_grants pin_grants range_get_ace_grants range_get_grants range_set_grants mbr_grants first_lexeme expect number_at uid_at values_up_to list_with list_value_with named_with value_after_token list_at status_at call_at reply_at message_at message_in number_spelling bytes_spelling any_below ranges_in verdict_of is_range listed_among cells_for zeros sectors_from authorities_of_locking any_to
verdicts_differ same = other (same ops.Read 100 1)
  where
    other : Serve ≡ Denied (ReadLocked 100 1 1) → ⊥
    other e = cc

-- What the law says of verdicts while a transaction is open.
hidden_says : (items : Items) (o : Origin) (list : List Step) (sp : Sp) (number : ℕ)
    → IsHidden items o list sp number → (op : Op) (lba count : ℕ)
    → verdict_on (facts o (emptied sp (past_of items o list))) op lba count
    ≡ verdict_on (facts o (past_of items o list)) op lba count
hidden_says items o list sp number hidden = hidden.verdicts
