-- The laws of transfers and transactions by other items than those of this drive, computed from the
-- definitions.
use Rattle.history.specs.Tcg.{command_read}
use Rattle.port_history.proofs.Acted.{tcg_for_ports}
use Rattle.port_history.specs.Laws.{IsForPorts}
use Rattle.std.proofs.Common.{◌≡◌, ℕ, ◌+◌, ◌≤◌, arith, Bool, true, false, List, [], ◌∷◌, ◌++◌, replicate, if◌then◌else◌, Some, None, refl}
use Rattle.std.specs.Prelude.{◌==◌, slice_index}
use Rattle.sp_cells.specs.declared.cells.Cell.TheVariants.{Number}
use Rattle.sp_cells.specs.declared.names.Sp.TheVariants.{Locking}
use Rattle.sp_cells.specs.ColumnNames.{read_locked_column}
use Rattle.sp_cells.specs.Names.{range_uid}
use Rattle.sp_tables.specs.Factory.{admin_sps, admin_authorities, locking_authorities, admin_pins, locking_pins, locking_ranges, locking_mbr_controls, admin_aces, authority_aces, pin_aces, range_get_aces, range_aces, mbr_aces}
use Rattle.locking.specs.Ranges.{ranges_in}
use Rattle.locking.specs.Verdict.{verdict_of}
use Rattle.locking.specs.declared.range.Op.{Op}
use Rattle.locking.specs.declared.range.Op.TheVariants as ops
use Rattle.shadow_mbr.specs.Stored.{zeros, sectors_from}
use Rattle.transactions.specs.Resets.{is_range}
use Rattle.sessions.specs.Deeds.{cells_set, Sets, SessionDeed, Changed, Began, Aborted}
use Rattle.trusted_cmds.specs.declared.command.Command.TheVariants as commands
use Rattle.history.specs.Decisions.{any_below, refuses, verdict_on}
use Rattle.history.specs.Events.{Event, InSession, Left, did}
use Rattle.history.specs.Facts.{facts}
use Rattle.history.specs.Items.{Items}
use Rattle.history.specs.NoTrace.{IsByOwnView, Aborts, emptied, further}
use Rattle.history.specs.Opening.{Origin}
use Rattle.history.specs.Quiet.{is_quiet, IsQuiet}
use Rattle.history.specs.Readers.{open_on}
use Rattle.history.proofs.Scripts.{range_row, opened}
use Rattle.port_history.specs.declared.request.Answer.TheVariants as answers
use Rattle.port_history.specs.declared.request.Request.TheVariants.{ReadDma, Send}
use Rattle.port_history.specs.declared.step.Step.{Step}
use Rattle.port_history.specs.declared.step.Step.TheVariants.{Accept}
use Rattle.port_history.specs.Steps.{trace_of, trace, answer}
use Rattle.headline.specs.NoTrace.{acts_since}
use Rattle.headline.specs.Steps.{past_of, facts_after, event_after, before_acceptance, ranges_after}
use Rattle.headline.specs.Transfers.{IsAnswered, IsAllowed}
use Rattle.headline.proofs.NoTraceLaws.{open_law_of_steps, abort_law_of_steps}
use Rattle.headline.proofs.Scenes.{are_lawful, are_lawful_by, lawful_by, lays, brings}
use Rattle.headline.proofs.TransferLaws.{transfer_law}
use Rattle.audit.specs.declared.rules.rule.Rule.TheVariants.{Protocol}

-- A command set of one byte, without sessions: 1 locks range 1 against reads, 2 begins a transaction,
-- 3 aborts it.
abbrev in_it : SessionDeed → Event
in_it deed = did (InSession deed (Left 0x1000 []))

abbrev locks : SessionDeed
locks = Changed Locking (Sets (cells_set (range_uid 1) ((read_locked_column, Number 1) ∷ [])))

abbrev told_by : ℕ → Event
told_by byte =
    if byte == 1 then in_it locks
    else (if byte == 2 then in_it (Began Locking 7) else (if byte == 3 then in_it (Aborted Locking) else refuses Protocol))

abbrev one_byte : Items
one_byte = record { reads = command_read; sends = λ f protocol com_id blocks payload. told_by (slice_index payload 0); gives = λ f command. [] }

-- They meet both premises.
one_byte_quiet : IsQuiet one_byte
one_byte_quiet f protocol com_id blocks payload =
    by_byte (slice_index payload 0 == 1) (slice_index payload 0 == 2) (slice_index payload 0 == 3)
  where
    by_byte : (a b c : Bool) → is_quiet (if a then in_it locks else (if b then in_it (Began Locking 7) else (if c then in_it (Aborted Locking) else refuses Protocol))).deed ≡ true
    by_byte true b c = refl
    by_byte false true c = refl
    by_byte false false true = refl
    by_byte false false false = refl

one_byte_for_ports : IsForPorts one_byte
one_byte_for_ports =
    record { quiet = one_byte_quiet; reads = tcg_for_ports.reads; recovers = tcg_for_ports.recovers }

one_byte_views : IsByOwnView one_byte
one_byte_views f rows bytes number same protocol com_id blocks payload apart = refl

-- Range 1 is 100+10, its read lock enabled and not set.
abbrev enabled : Origin
enabled = opened (range_row 1 100 10 true false false false)

abbrev says : ℕ → ℕ → List Step
says tag byte = brings 2 tag (Send 1 0x1000 (byte ∷ replicate 511 0))

-- A read of the range after it was locked so.
abbrev locked : List Step
locked = brings 1 1 (ReadDma 100 1) ++ says 0 1

-- It is denied; by the items of this drive, to which the byte is no frame, it is done.
read_denied : (are_lawful_by one_byte enabled locked ≡ true)
    × (answer (trace_of one_byte enabled locked) 1 ≡ Some (answers.Failed 0x51 0x04))
    × (are_lawful enabled locked ≡ true)
    × (answer (trace enabled locked) 1 ≡ Some (answers.Done (replicate 512 0)))
unfolding admin_sps admin_authorities locking_authorities admin_pins locking_pins locking_ranges locking_mbr_controls admin_aces authority_aces pin_aces range_get_aces range_aces mbr_aces any_below ranges_in verdict_of is_range zeros sectors_from
read_denied = (refl, refl, refl, refl)

read_answered : IsAnswered one_byte enabled locked 1 (record { op = ops.Read; lba = 100; count = 1 }) (answers.Failed 0x51 0x04)
unfolding admin_sps admin_authorities locking_authorities admin_pins locking_pins locking_ranges locking_mbr_controls admin_aces authority_aces pin_aces range_get_aces range_aces mbr_aces any_below ranges_in verdict_of is_range zeros sectors_from
read_answered = record {
  put = record { client = 1; number = 4; command = commands.ReadDma 100 1 };
  stands = refl;
  asks = refl;
  answers = refl;
}

-- So the range does not permit it, by the law at these items.
read_not_allowed : IsAllowed (ranges_after one_byte enabled (before_acceptance locked 1)) (record { op = ops.Read; lba = 100; count = 1 }) → ⊥
read_not_allowed allowed =
    let fits : 100 + 1 ≤ 1000 = omega arith in
    not_done ((((transfer_law one_byte one_byte_for_ports enabled locked (lawful_by one_byte enabled locked read_denied.0)).served 1 _ _ read_answered no_reset).served fits).1 allowed).1
  where
    no_reset : answers.Failed 0x51 0x04 ≡ answers.Reset → ⊥
    no_reset e = cc

    not_done : {bytes : List ℕ} → answers.Failed 0x51 0x04 ≡ answers.Done bytes → ⊥
    not_done e = cc

-- In an open transaction the lock denies nothing, and by the law it would be so without it.
abbrev within : List Step
within = locked ++ says 2 2

read_within : (are_lawful_by one_byte enabled within ≡ true)
    × (open_on (past_of one_byte enabled within) Locking ≡ Some 7)
    × (answer (trace_of one_byte enabled within) 1 ≡ Some (answers.Done (replicate 512 0)))
unfolding admin_sps admin_authorities locking_authorities admin_pins locking_pins locking_ranges locking_mbr_controls admin_aces authority_aces pin_aces range_get_aces range_aces mbr_aces any_below ranges_in verdict_of is_range zeros sectors_from
read_within = (refl, refl, refl)

verdicts_within : (op : Op) (lba count : ℕ)
    → verdict_on (facts enabled (emptied Locking (past_of one_byte enabled within))) op lba count
    ≡ verdict_on (facts_after one_byte enabled within) op lba count
verdicts_within =
    (open_law_of_steps one_byte one_byte_views enabled within (lawful_by one_byte enabled within read_within.0) Locking 7 read_within.1).verdicts

-- Once it is aborted, the same by the law of aborted ones.
abbrev aborting : List Step
aborting = lays 2 3 (Send 1 0x1000 (3 ∷ replicate 511 0)) ++ within

abbrev aborted : List Step
aborted = brings 1 4 (ReadDma 100 1) ++ Accept 3 ∷ aborting

read_aborted : (are_lawful_by one_byte enabled aborted ≡ true)
    × (open_on (past_of one_byte enabled aborting) Locking ≡ Some 7)
    × (event_after one_byte enabled aborting (Accept 3) ≡ Some (in_it (Aborted Locking)))
    × (open_on (past_of one_byte enabled aborted) Locking ≡ None)
    × (answer (trace_of one_byte enabled aborted) 4 ≡ Some (answers.Done (replicate 512 0)))
unfolding admin_sps admin_authorities locking_authorities admin_pins locking_pins locking_ranges locking_mbr_controls admin_aces authority_aces pin_aces range_get_aces range_aces mbr_aces any_below ranges_in verdict_of is_range zeros sectors_from
read_aborted = (refl, refl, refl, refl, refl)

is_abort : Aborts Locking (in_it (Aborted Locking))
is_abort = record { closes = refl; no_commit = refl }

abbrev later : List Step
later = brings 1 4 (ReadDma 100 1)

events_after : further one_byte enabled (in_it (Aborted Locking) ∷ emptied Locking (past_of one_byte enabled aborting)) (acts_since one_byte enabled later (Accept 3 ∷ aborting))
    ≡ further one_byte enabled (in_it (Aborted Locking) ∷ past_of one_byte enabled aborting) (acts_since one_byte enabled later (Accept 3 ∷ aborting))
events_after =
    (abort_law_of_steps one_byte enabled aborted (lawful_by one_byte enabled aborted read_aborted.0) later aborting (Accept 3) Locking 7 (in_it (Aborted Locking))
    refl read_aborted.1 read_aborted.2 is_abort).events
