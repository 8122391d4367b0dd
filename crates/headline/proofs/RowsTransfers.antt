-- Transfers on both sides of their law, computed from the definitions.
use Rattle.std.proofs.Common.{◌≡◌, ◌∙◌, ℕ, ◌+◌, ◌≤◌, ◌<◌, arith, true, false, List, [], ◌∷◌, ◌++◌, map, replicate, Some, None, refl, sym, ap, subst, inl}
use Rattle.std.specs.Prelude.{slice_index}
use Rattle.sp_cells.specs.Names.{mbr_control, mbr_table, set}
use Rattle.sp_cells.specs.Authorities.{authorities_of_locking}
use Rattle.sp_tables.specs.Faults.{any_to}
use Rattle.sp_tables.specs.Factory.{admin_sps, admin_authorities, locking_authorities, admin_pins, locking_pins, locking_ranges, locking_mbr_controls, admin_aces, authority_aces, pin_aces, range_get_aces, range_aces, mbr_aces}
use Rattle.ace_eval.specs.Access.{this_sp_grants, owner_grants, authority_grants, fixed_ace_gets, user_ace_grants, read_locked_ace_grants, write_locked_ace_grants, done_ace_grants, pin_grants, range_get_ace_grants, range_get_grants, range_set_grants, mbr_grants}
use Rattle.locking.specs.Ranges.{ranges_in}
use Rattle.locking.specs.Verdict.{verdict_of}
use Rattle.shadow_mbr.specs.Stored.{zeros, sectors_from}
use Rattle.tcg_tokens.specs.Lex.{first_lexeme}
use Rattle.tcg_tokens.specs.Reading.{expect, number_at, uid_at, values_up_to, list_with, list_value_with, named_with, value_after_token, list_at, status_at, call_at, reply_at, message_at, reading as message_in}
use Rattle.tcg_tokens.specs.Spelling.{number_spelling, bytes_spelling}
use Rattle.transactions.specs.Resets.{is_range}
use Rattle.methods.specs.Listed.{listed_among}
use Rattle.methods.specs.Settings.{cells_for}
use Rattle.history.specs.Decisions.{any_below}
use Rattle.tcg_tokens.specs.Tree as tree
use Rattle.locking.specs.declared.range.Op.TheVariants as ops
use Rattle.trusted_cmds.specs.declared.command.Command.TheVariants as commands
use Rattle.audit.specs.declared.reason.Why.TheVariants.{ReadLocked}
use Rattle.history.specs.declared.reset.ResetKind.TheVariants.{Hardware}
use Rattle.history.specs.History.{Act, Accept as AcceptFis, event_by}
use Rattle.history.proofs.DenialProofs.{denial_law}
use Rattle.port_history.specs.Requests.{command_fis}
use Rattle.port_history.proofs.Acted.{tcg_for_ports}
use Rattle.headline.specs.Denials.{IsDeniedStep, IsAudited, lines_at}
use Rattle.headline.proofs.AuditLaws.{denied_as}
use Rattle.history.specs.Opening.{Origin}
use Rattle.history.specs.Events.{WasReset, OfQueue, Held, did, latest}
use Rattle.history.specs.Readers.{sector, writing}
use Rattle.audit.specs.declared.reason.AuditLine.{AuditLine}
use Rattle.locking.specs.Range.{is_shadowed}
use Rattle.locking.specs.Verdict.{AreShadowed}
use Rattle.locking.specs.declared.ranges.Verdict.TheVariants.{Serve}
use Rattle.transactions.specs.Bytes.{bytes_from}
use Rattle.history.proofs.Scripts.{range_row, activated, opened, set_cells, call_of}
use Rattle.port_history.specs.declared.request.Answer.TheVariants as answers
use Rattle.port_history.specs.declared.request.Request.TheVariants.{Read, ReadDma, Write, WriteDma}
use Rattle.port_history.specs.declared.step.Step.{Step}
use Rattle.port_history.specs.declared.step.Step.TheVariants.{Put, Accept, Complete, Recover, Reset, Take}
use Rattle.port_history.specs.Steps.{trace, answer, audit}
use Rattle.headline.specs.Steps.{past_of, facts_after, before_acceptance, before_move, through_move, ranges_after, own_past}
use Rattle.headline.specs.Transfers.{Transfer, IsAnswered, IsAllowed, GivesBytes, MoveNothing, transfer_of}
use Rattle.headline.proofs.Scenes.{are_lawful, lawful, lays, brings, begins, says, by_admin}
use Rattle.history.specs.Tcg.{tcg}
use Rattle.headline.proofs.TransferLaws.{transfer_law}

-- Of 1,000 sectors: range 1 is 100+10, its read lock enabled and set.
abbrev locked : Origin
locked = opened (range_row 1 100 10 true false true false)

-- A read behind the range is done.
abbrev permitted : List Step
permitted = Complete 0 ∷ brings 1 0 (Read 110 1)

read_done : (are_lawful locked permitted ≡ true)
    × (answer (trace locked permitted) 0 ≡ Some (answers.Done (replicate 512 0)))
unfolding admin_sps admin_authorities locking_authorities admin_pins locking_pins locking_ranges locking_mbr_controls admin_aces authority_aces pin_aces range_get_aces range_aces mbr_aces this_sp_grants owner_grants authority_grants fixed_ace_gets user_ace_grants read_locked_ace_grants write_locked_ace_grants done_ace_grants pin_grants range_get_ace_grants range_get_grants range_set_grants mbr_grants first_lexeme expect number_at uid_at values_up_to list_with list_value_with named_with value_after_token list_at status_at call_at reply_at message_at message_in number_spelling bytes_spelling any_below ranges_in verdict_of is_range listed_among cells_for zeros sectors_from authorities_of_locking any_to
read_done = (refl, refl)

-- One that touches it is denied, in the queue or not.
abbrev denied : List Step
denied = Recover ∷ brings 1 0 (Read 109 2)

abbrev denied_alone : List Step
denied_alone = brings 1 0 (ReadDma 109 2)

read_denied : (are_lawful locked denied ≡ true)
    × (answer (trace locked denied) 0 ≡ Some (answers.Failed 0x51 0x04))
    × (are_lawful locked denied_alone ≡ true)
    × (answer (trace locked denied_alone) 0 ≡ Some (answers.Failed 0x51 0x04))
unfolding admin_sps admin_authorities locking_authorities admin_pins locking_pins locking_ranges locking_mbr_controls admin_aces authority_aces pin_aces range_get_aces range_aces mbr_aces this_sp_grants owner_grants authority_grants fixed_ace_gets user_ace_grants read_locked_ace_grants write_locked_ace_grants done_ace_grants pin_grants range_get_ace_grants range_get_grants range_set_grants mbr_grants first_lexeme expect number_at uid_at values_up_to list_with list_value_with named_with value_after_token list_at status_at call_at reply_at message_at message_in number_spelling bytes_spelling any_below ranges_in verdict_of is_range listed_among cells_for zeros sectors_from authorities_of_locking any_to
read_denied = (refl, refl, refl, refl)

-- The law applies to both: the first is allowed, the second is not.
read_answered : IsAnswered tcg locked permitted 0 (record { op = ops.Read; lba = 110; count = 1 }) (answers.Done (replicate 512 0))
unfolding admin_sps admin_authorities locking_authorities admin_pins locking_pins locking_ranges locking_mbr_controls admin_aces authority_aces pin_aces range_get_aces range_aces mbr_aces this_sp_grants owner_grants authority_grants fixed_ace_gets user_ace_grants read_locked_ace_grants write_locked_ace_grants done_ace_grants pin_grants range_get_ace_grants range_get_grants range_set_grants mbr_grants first_lexeme expect number_at uid_at values_up_to list_with list_value_with named_with value_after_token list_at status_at call_at reply_at message_at message_in number_spelling bytes_spelling any_below ranges_in verdict_of is_range listed_among cells_for zeros sectors_from authorities_of_locking any_to
read_answered = record {
  put = record { client = 1; number = 1; command = commands.ReadQueued 110 1 };
  stands = refl;
  asks = refl;
  answers = refl;
}

read_allowed : IsAllowed (ranges_after tcg locked (before_acceptance permitted 0)) (record { op = ops.Read; lba = 110; count = 1 })
read_allowed =
    let fits : 110 + 1 ≤ 1000 = omega arith in
    (((transfer_law tcg tcg_for_ports locked permitted (lawful locked permitted read_done.0)).served 0 _ _ read_answered no_reset).served fits).0
    (replicate 512 0, refl)
  where
    no_reset : answers.Done (replicate 512 0) ≡ answers.Reset → ⊥
    no_reset e = cc

-- Beyond the last sector.
abbrev beyond : List Step
beyond = Recover ∷ brings 1 0 (Read 999 2)

read_beyond : (are_lawful locked beyond ≡ true)
    × (answer (trace locked beyond) 0 ≡ Some (answers.Failed 0x51 0x10))
unfolding admin_sps admin_authorities locking_authorities admin_pins locking_pins locking_ranges locking_mbr_controls admin_aces authority_aces pin_aces range_get_aces range_aces mbr_aces this_sp_grants owner_grants authority_grants fixed_ace_gets user_ace_grants read_locked_ace_grants write_locked_ace_grants done_ace_grants pin_grants range_get_ace_grants range_get_grants range_set_grants mbr_grants first_lexeme expect number_at uid_at values_up_to list_with list_value_with named_with value_after_token list_at status_at call_at reply_at message_at message_in number_spelling bytes_spelling any_below ranges_in verdict_of is_range listed_among cells_for zeros sectors_from authorities_of_locking any_to
read_beyond = (refl, refl)

-- A write into the range, whose write lock is not set, is done, and its data are in media; a read of
-- them is denied.
abbrev written : List Step
written = brings 1 1 (ReadDma 105 1) ++ brings 1 0 (WriteDma 105 (replicate 512 0xaa))

write_done : (are_lawful locked written ≡ true)
    × (answer (trace locked written) 0 ≡ Some (answers.Done []))
    × (sector (past_of tcg locked written) 105 ≡ replicate 512 0xaa)
    × (answer (trace locked written) 1 ≡ Some (answers.Failed 0x51 0x04))
unfolding admin_sps admin_authorities locking_authorities admin_pins locking_pins locking_ranges locking_mbr_controls admin_aces authority_aces pin_aces range_get_aces range_aces mbr_aces this_sp_grants owner_grants authority_grants fixed_ace_gets user_ace_grants read_locked_ace_grants write_locked_ace_grants done_ace_grants pin_grants range_get_ace_grants range_get_grants range_set_grants mbr_grants first_lexeme expect number_at uid_at values_up_to list_with list_value_with named_with value_after_token list_at status_at call_at reply_at message_at message_in number_spelling bytes_spelling any_below ranges_in verdict_of is_range listed_among cells_for zeros sectors_from authorities_of_locking any_to
write_done = (refl, refl, refl, refl)

-- The shadow: Enable is 1, and byte 0 of the table is 5Ah; media have AAh there. A read inside gives
-- the shadow's bytes, one that leaves it is denied.
abbrev shadowed : List Step
shadowed =
    brings 1 8 (ReadDma 7 2)
    ++ brings 1 7 (ReadDma 0 1)
    ++ says 5 6 (call_of mbr_table set (tree.named (tree.number 1) (tree.bytes (0x5a ∷ [])) ∷ []))
    ++ says 3 4 (set_cells mbr_control ((1, tree.number 1) ∷ []))
    ++ begins by_admin
    ++ brings 1 2 (WriteDma 0 (replicate 512 0xaa))

read_shadow : (are_lawful activated shadowed ≡ true)
    × (answer (trace activated shadowed) 7 ≡ Some (answers.Done (0x5a ∷ replicate 511 0)))
    × (answer (trace activated shadowed) 8 ≡ Some (answers.Failed 0x51 0x04))
unfolding admin_sps admin_authorities locking_authorities admin_pins locking_pins locking_ranges locking_mbr_controls admin_aces authority_aces pin_aces range_get_aces range_aces mbr_aces this_sp_grants owner_grants authority_grants fixed_ace_gets user_ace_grants read_locked_ace_grants write_locked_ace_grants done_ace_grants pin_grants range_get_ace_grants range_get_grants range_set_grants mbr_grants first_lexeme expect number_at uid_at values_up_to list_with list_value_with named_with value_after_token list_at status_at call_at reply_at message_at message_in number_spelling bytes_spelling any_below ranges_in verdict_of is_range listed_among cells_for zeros sectors_from authorities_of_locking any_to
read_shadow = (refl, refl, refl)

-- Each of the four commands is a transfer.
four : (transfer_of (commands.ReadQueued 5 2) ≡ Some (record { op = ops.Read; lba = 5; count = 2 }))
    × (transfer_of (commands.WriteQueued 5 2) ≡ Some (record { op = ops.Write; lba = 5; count = 2 }))
    × (transfer_of (commands.ReadDma 5 2) ≡ Some (record { op = ops.Read; lba = 5; count = 2 }))
    × (transfer_of (commands.WriteDma 5 2) ≡ Some (record { op = ops.Write; lba = 5; count = 2 }))
four = (refl, refl, refl, refl)

-- A read is accepted before a reset and after it: the second time counts, and its data move behind.
abbrev again : List Step
again = Complete 0 ∷ brings 1 0 (Read 110 1) ++ Take 1 0 ∷ Reset 1 Hardware ∷ brings 1 0 (Read 110 1)

places : (before_acceptance again 0 ≡ lays 1 0 (Read 110 1) ++ Take 1 0 ∷ Reset 1 Hardware ∷ brings 1 0 (Read 110 1))
    × (before_move again 0 ≡ brings 1 0 (Read 110 1) ++ Take 1 0 ∷ Reset 1 Hardware ∷ brings 1 0 (Read 110 1))
    × (through_move again 0 ≡ again)
    × (are_lawful locked again ≡ true)
unfolding admin_sps admin_authorities locking_authorities admin_pins locking_pins locking_ranges locking_mbr_controls admin_aces authority_aces pin_aces range_get_aces range_aces mbr_aces this_sp_grants owner_grants authority_grants fixed_ace_gets user_ace_grants read_locked_ace_grants write_locked_ace_grants done_ace_grants pin_grants range_get_ace_grants range_get_grants range_set_grants mbr_grants first_lexeme expect number_at uid_at values_up_to list_with list_value_with named_with value_after_token list_at status_at call_at reply_at message_at message_in number_spelling bytes_spelling any_below ranges_in verdict_of is_range listed_among cells_for zeros sectors_from authorities_of_locking any_to
places = (refl, refl, refl, refl)

-- The denied read is a denied step of the audit's law, whose one line it has.
abbrev denied_before : List Step
denied_before = lays 1 0 (Read 109 2)

denied_act : Act
denied_act = AcceptFis (command_fis (commands.ReadQueued 109 2) 0) []

denied_by : (event_by (facts_after tcg locked denied_before) denied_act).denied ≡ Some (ReadLocked 109 2 1)
unfolding denied_act admin_sps admin_authorities locking_authorities admin_pins locking_pins locking_ranges locking_mbr_controls admin_aces authority_aces pin_aces range_get_aces range_aces mbr_aces this_sp_grants owner_grants authority_grants fixed_ace_gets user_ace_grants read_locked_ace_grants write_locked_ace_grants done_ace_grants pin_grants range_get_ace_grants range_get_grants range_set_grants mbr_grants first_lexeme expect number_at uid_at values_up_to list_with list_value_with named_with value_after_token list_at status_at call_at reply_at message_at message_in number_spelling bytes_spelling any_below ranges_in verdict_of is_range listed_among cells_for zeros sectors_from authorities_of_locking any_to
denied_by = refl

step_denied : IsDeniedStep locked denied_before (Accept 0) 1 (ReadLocked 109 2 1)
unfolding denied_act admin_sps admin_authorities locking_authorities admin_pins locking_pins locking_ranges locking_mbr_controls admin_aces authority_aces pin_aces range_get_aces range_aces mbr_aces this_sp_grants owner_grants authority_grants fixed_ace_gets user_ace_grants read_locked_ace_grants write_locked_ace_grants done_ace_grants pin_grants range_get_ace_grants range_get_grants range_set_grants mbr_grants first_lexeme expect number_at uid_at values_up_to list_with list_value_with named_with value_after_token list_at status_at call_at reply_at message_at message_in number_spelling bytes_spelling any_below ranges_in verdict_of is_range listed_among cells_for zeros sectors_from authorities_of_locking any_to
step_denied = record {
  tag = 0;
  put = record { client = 1; number = 1; command = commands.ReadQueued 109 2 };
  accepts = refl;
  stands = refl;
  its_client = refl;
  act = denied_act;
  does = refl;
  denied = denied_as (facts_after tcg locked denied_before) denied_act (ReadLocked 109 2 1)
      ((denial_law (facts_after tcg locked denied_before) denied_act (ReadLocked 109 2 1)).0 denied_by);
}

its_line : (audit (trace locked denied) ≡ record { step = 3; client = 1; why = ReadLocked 109 2 1 } ∷ [])
    × (lines_at 3 (audit (trace locked denied)) ≡ record { step = 3; client = 1; why = ReadLocked 109 2 1 } ∷ [])
    × (lines_at 2 (audit (trace locked denied)) ≡ [])
    × (audit (trace locked permitted) ≡ [])
unfolding admin_sps admin_authorities locking_authorities admin_pins locking_pins locking_ranges locking_mbr_controls admin_aces authority_aces pin_aces range_get_aces range_aces mbr_aces this_sp_grants owner_grants authority_grants fixed_ace_gets user_ace_grants read_locked_ace_grants write_locked_ace_grants done_ace_grants pin_grants range_get_ace_grants range_get_grants range_set_grants mbr_grants first_lexeme expect number_at uid_at values_up_to list_with list_value_with named_with value_after_token list_at status_at call_at reply_at message_at message_in number_spelling bytes_spelling any_below ranges_in verdict_of is_range listed_among cells_for zeros sectors_from authorities_of_locking any_to
its_line = (refl, refl, refl, refl)

-- A write is held, and a reset stops it: its own acts wrote nothing, and so says the law.
abbrev stopped : List Step
stopped = Reset 1 Hardware ∷ brings 1 0 (Write 110 (replicate 512 0xaa))

write_stopped : (are_lawful locked stopped ≡ true)
    × (own_past tcg locked stopped 0
    ≡ did (WasReset 1) ∷ did (OfQueue (Held 0 (record { command = commands.WriteQueued 110 1; verdict = Serve }))) ∷ [])
unfolding admin_sps admin_authorities locking_authorities admin_pins locking_pins locking_ranges locking_mbr_controls admin_aces authority_aces pin_aces range_get_aces range_aces mbr_aces this_sp_grants owner_grants authority_grants fixed_ace_gets user_ace_grants read_locked_ace_grants write_locked_ace_grants done_ace_grants pin_grants range_get_ace_grants range_get_grants range_set_grants mbr_grants first_lexeme expect number_at uid_at values_up_to list_with list_value_with named_with value_after_token list_at status_at call_at reply_at message_at message_in number_spelling bytes_spelling any_below ranges_in verdict_of is_range listed_among cells_for zeros sectors_from authorities_of_locking any_to
write_stopped = (refl, refl)

stopped_answered : IsAnswered tcg locked stopped 0 (record { op = ops.Write; lba = 110; count = 1 }) answers.Reset
unfolding admin_sps admin_authorities locking_authorities admin_pins locking_pins locking_ranges locking_mbr_controls admin_aces authority_aces pin_aces range_get_aces range_aces mbr_aces this_sp_grants owner_grants authority_grants fixed_ace_gets user_ace_grants read_locked_ace_grants write_locked_ace_grants done_ace_grants pin_grants range_get_ace_grants range_get_grants range_set_grants mbr_grants first_lexeme expect number_at uid_at values_up_to list_with list_value_with named_with value_after_token list_at status_at call_at reply_at message_at message_in number_spelling bytes_spelling any_below ranges_in verdict_of is_range listed_among cells_for zeros sectors_from authorities_of_locking any_to
stopped_answered = record {
  put = record { client = 1; number = 1; command = commands.WriteQueued 110 1 };
  stands = refl;
  asks = refl;
  answers = refl;
}

stopped_moves : MoveNothing (own_past tcg locked stopped 0)
stopped_moves =
    (transfer_law tcg tcg_for_ports locked stopped (lawful locked stopped write_stopped.0)).unmoved 0 _ _ stopped_answered
    (λ done. no_bytes done.1.1)
  where
    no_bytes : {bytes : List ℕ} → answers.Reset ≡ answers.Done bytes → ⊥
    no_bytes e = cc

-- One that is done wrote its data, which is no act of another tag that was put before it.
abbrev between : List Step
between = brings 1 0 (WriteDma 105 (replicate 512 0xaa)) ++ Put 1 1 (ReadDma 110 1) ∷ []

own_acts : (are_lawful locked between ≡ true)
    × (latest (writing 105) (own_past tcg locked between 0) ≡ Some (replicate 512 0xaa))
    × (own_past tcg locked between 1 ≡ [])
unfolding admin_sps admin_authorities locking_authorities admin_pins locking_pins locking_ranges locking_mbr_controls admin_aces authority_aces pin_aces range_get_aces range_aces mbr_aces this_sp_grants owner_grants authority_grants fixed_ace_gets user_ace_grants read_locked_ace_grants write_locked_ace_grants done_ace_grants pin_grants range_get_ace_grants range_get_grants range_set_grants mbr_grants first_lexeme expect number_at uid_at values_up_to list_with list_value_with named_with value_after_token list_at status_at call_at reply_at message_at message_in number_spelling bytes_spelling any_below ranges_in verdict_of is_range listed_among cells_for zeros sectors_from authorities_of_locking any_to
own_acts = (refl, refl, refl)

it_moves : MoveNothing (own_past tcg locked between 0) → ⊥
it_moves none = some_none (sym own_acts.1 ∙ none 105)
  where
    some_none : {bytes : List ℕ} → Some bytes ≡ None → ⊥
    some_none e = cc

-- What the law says of the shadowed read: its first byte is 5Ah.
abbrev shadowed_read : Transfer
shadowed_read = record { op = ops.Read; lba = 0; count = 1 }

first_shadowed : is_shadowed (ranges_after tcg activated (before_acceptance shadowed 7)) 0 ≡ true
unfolding admin_sps admin_authorities locking_authorities admin_pins locking_pins locking_ranges locking_mbr_controls admin_aces authority_aces pin_aces range_get_aces range_aces mbr_aces this_sp_grants owner_grants authority_grants fixed_ace_gets user_ace_grants read_locked_ace_grants write_locked_ace_grants done_ace_grants pin_grants range_get_ace_grants range_get_grants range_set_grants mbr_grants first_lexeme expect number_at uid_at values_up_to list_with list_value_with named_with value_after_token list_at status_at call_at reply_at message_at message_in number_spelling bytes_spelling any_below ranges_in verdict_of is_range listed_among cells_for zeros sectors_from authorities_of_locking any_to
first_shadowed = refl

all_shadowed : AreShadowed (ranges_after tcg activated (before_acceptance shadowed 7)) 0 1
all_shadowed k from to =
    let e : 0 ≡ k = omega (arith, to) in
    subst (λ (n : ℕ). is_shadowed (ranges_after tcg activated (before_acceptance shadowed 7)) n ≡ true) e first_shadowed

first_byte : slice_index (bytes_from (facts_after tcg activated (before_move shadowed 7)).byte 0 512) 0 ≡ 0x5a
unfolding admin_sps admin_authorities locking_authorities admin_pins locking_pins locking_ranges locking_mbr_controls admin_aces authority_aces pin_aces range_get_aces range_aces mbr_aces this_sp_grants owner_grants authority_grants fixed_ace_gets user_ace_grants read_locked_ace_grants write_locked_ace_grants done_ace_grants pin_grants range_get_ace_grants range_get_grants range_set_grants mbr_grants first_lexeme expect number_at uid_at values_up_to list_with list_value_with named_with value_after_token list_at status_at call_at reply_at message_at message_in number_spelling bytes_spelling any_below ranges_in verdict_of is_range listed_among cells_for zeros sectors_from authorities_of_locking any_to
first_byte = refl

shadow_says : (bytes : List ℕ)
    → GivesBytes (ranges_after tcg activated (before_acceptance shadowed 7))
    (facts_after tcg activated (before_move shadowed 7)) shadowed_read bytes
    → slice_index bytes 0 ≡ 0x5a
shadow_says bytes gives = ap (λ (b : List ℕ). slice_index b 0) (gives.shadow refl all_shadowed) ∙ first_byte

-- Two denials, the newer line first; and so says the law of any two.
abbrev twice : List Step
twice = brings 1 1 (ReadDma 109 1) ++ brings 1 0 (ReadDma 109 2)

two_lines : (are_lawful locked twice ≡ true)
    × (map (λ (l : AuditLine). l.step) (audit (trace locked twice)) ≡ 6 ∷ 3 ∷ [])
unfolding admin_sps admin_authorities locking_authorities admin_pins locking_pins locking_ranges locking_mbr_controls admin_aces authority_aces pin_aces range_get_aces range_aces mbr_aces this_sp_grants owner_grants authority_grants fixed_ace_gets user_ace_grants read_locked_ace_grants write_locked_ace_grants done_ace_grants pin_grants range_get_ace_grants range_get_grants range_set_grants mbr_grants first_lexeme expect number_at uid_at values_up_to list_with list_value_with named_with value_after_token list_at status_at call_at reply_at message_at message_in number_spelling bytes_spelling any_below ranges_in verdict_of is_range listed_among cells_for zeros sectors_from authorities_of_locking any_to
two_lines = (refl, refl)

second_is_older : (o : Origin) (list : List Step) (newer older : AuditLine) → IsAudited o list
    → audit (trace o list) ≡ newer ∷ older ∷ [] → older.step < newer.step
second_is_older o list newer older h two = h.rises [] (older ∷ []) newer older two (inl refl)
