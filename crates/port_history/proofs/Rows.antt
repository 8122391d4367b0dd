-- Worked rows, computed from the definitions alone.
use Rattle.std.proofs.Common.{◌≡◌, ◌&&◌, Bool, true, false, List, [], ◌∷◌, replicate, Some, None, refl}
use Rattle.std.specs.Prelude.{is_none}
use Rattle.audit.specs.declared.reason.Why.TheVariants.{ReadLocked}
use Rattle.sp_tables.specs.Factory.{admin_sps, admin_authorities, locking_authorities, admin_pins, locking_pins, locking_ranges, locking_mbr_controls, admin_aces, authority_aces, pin_aces, range_get_aces, range_aces, mbr_aces}
use Rattle.sp_cells.specs.Authorities.{authorities_of_locking}
use Rattle.locking.specs.Ranges.{ranges_in}
use Rattle.locking.specs.Verdict.{verdict_of}
use Rattle.shadow_mbr.specs.Stored.{zeros, sectors_from}
use Rattle.transactions.specs.Resets.{is_range}
use Rattle.trusted_cmds.specs.declared.command.Command.TheVariants.{ReadQueued}
use Rattle.history.specs.declared.reset.ResetKind.TheVariants.{Power, Hardware}
use Rattle.history.specs.Opening.{Origin, with_range}
use Rattle.history.specs.Decisions.{any_below}
use Rattle.history.proofs.Scripts.{range_row, opened}
use Rattle.port_history.specs.declared.error.PortError.TheVariants.{Failed, Queue}
use Rattle.port_history.specs.declared.request.Answer.TheVariants as answers
use Rattle.port_history.specs.declared.request.Request.TheVariants.{Read, Write, Send as SendTo}
use Rattle.port_history.specs.declared.stages.Stage.TheVariants.{Prepared}
use Rattle.port_history.specs.declared.step.Step.{Step}
use Rattle.port_history.specs.declared.step.Step.TheVariants.{Put, Issue, Accept, Complete, Recover, Reset, Take}
use Rattle.port_history.specs.Steps.{trace, stage, failed, answer, audit}
use Rattle.port_history.specs.Registers.{registers}
use Rattle.port_history.specs.Refusals.{refusal, has_slot}

-- Each step of a list is lawful where it stands.
unfoldable pub are_lawful : Origin → List Step → Bool
are_lawful o [] = true
are_lawful o (step ∷ before) =
    is_none (refusal (trace o before) step) && has_slot step && are_lawful o before

-- 1,000 sectors: range 1 is 100+10 with its read lock enabled and set, range 2 is 200+10 with it
-- enabled
unfoldable pub locked : Origin
locked = with_range (range_row 2 200 10 true false false false)
    (opened (range_row 1 100 10 true false true false))

-- two reads, of which the second to be accepted is denied
fails : List Step
fails =
    Accept 3 ∷ Accept 5 ∷ Issue 3 ∷ Issue 5 ∷ Put 1 5 (Read 200 1) ∷ Put 1 3 (Read 100 1) ∷ []

row_audit : audit (trace locked fails) ≡ (record { step = 6; client = 1; why = ReadLocked 100 1 1 })
    ∷ []
unfolding locked fails ranges_in admin_sps admin_authorities locking_authorities admin_pins locking_pins locking_ranges locking_mbr_controls admin_aces authority_aces pin_aces range_get_aces range_aces mbr_aces authorities_of_locking verdict_of any_below zeros is_range
row_audit = refl

row_failed : failed (trace locked fails) ≡ Some 3
unfolding locked fails ranges_in admin_sps admin_authorities locking_authorities admin_pins locking_pins locking_ranges locking_mbr_controls admin_aces authority_aces pin_aces range_get_aces range_aces mbr_aces authorities_of_locking verdict_of any_below zeros is_range
row_failed = refl

row_waits : refusal (trace locked fails) (Issue 5) ≡ Some Failed
unfolding locked fails ranges_in admin_sps admin_authorities locking_authorities admin_pins locking_pins locking_ranges locking_mbr_controls admin_aces authority_aces pin_aces range_get_aces range_aces mbr_aces authorities_of_locking verdict_of any_below zeros is_range
row_waits = refl

-- the recovery answers tag 3, and gives tag 5 back with its number
row_recovered : answer (trace locked (Recover ∷ fails)) 3 ≡ Some (answers.Failed 0x51 0x04)
unfolding locked fails ranges_in admin_sps admin_authorities locking_authorities admin_pins locking_pins locking_ranges locking_mbr_controls admin_aces authority_aces pin_aces range_get_aces range_aces mbr_aces authorities_of_locking verdict_of any_below zeros is_range
row_recovered = refl

row_again : stage (trace locked (Recover ∷ fails)) 5
    ≡ Prepared (record { client = 1; number = 2; command = ReadQueued 200 1 })
unfolding locked fails ranges_in admin_sps admin_authorities locking_authorities admin_pins locking_pins locking_ranges locking_mbr_controls admin_aces authority_aces pin_aces range_get_aces range_aces mbr_aces authorities_of_locking verdict_of any_below zeros is_range
row_again = refl

row_lawful : are_lawful locked (Recover ∷ fails) ≡ true
unfolding are_lawful locked fails ranges_in admin_sps admin_authorities locking_authorities admin_pins locking_pins locking_ranges locking_mbr_controls admin_aces authority_aces pin_aces range_get_aces range_aces mbr_aces authorities_of_locking verdict_of any_below zeros is_range
row_lawful = refl

-- Two queued reads are accepted, and an unqueued send waits until both are completed.
reads : List Step
reads =
    Put 2 2 (SendTo 1 0x1000 (replicate 512 0)) ∷ Accept 1 ∷ Issue 1 ∷ Accept 0 ∷ Issue 0
    ∷ Put 1 1 (Read 1 1) ∷ Put 1 0 (Read 0 1) ∷ []

row_kept_back : refusal (trace locked reads) (Issue 2) ≡ Some Queue
unfolding locked reads ranges_in admin_sps admin_authorities locking_authorities admin_pins locking_pins locking_ranges locking_mbr_controls admin_aces authority_aces pin_aces range_get_aces range_aces mbr_aces authorities_of_locking verdict_of any_below zeros is_range
row_kept_back = refl

row_still_back : refusal (trace locked (Complete 0 ∷ reads)) (Issue 2) ≡ Some Queue
unfolding locked reads ranges_in admin_sps admin_authorities locking_authorities admin_pins locking_pins locking_ranges locking_mbr_controls admin_aces authority_aces pin_aces range_get_aces range_aces mbr_aces authorities_of_locking verdict_of any_below zeros is_range
row_still_back = refl

row_goes : refusal (trace locked (Complete 1 ∷ Complete 0 ∷ reads)) (Issue 2) ≡ None
unfolding locked reads ranges_in admin_sps admin_authorities locking_authorities admin_pins locking_pins locking_ranges locking_mbr_controls admin_aces authority_aces pin_aces range_get_aces range_aces mbr_aces authorities_of_locking verdict_of any_below zeros is_range
row_goes = refl

-- Then PxCI has its bit, and PxSACT none.
row_issued : (registers (trace locked (Issue 2 ∷ Complete 1 ∷ Complete 0 ∷ reads))).issued ≡ 4
unfolding locked reads ranges_in admin_sps admin_authorities locking_authorities admin_pins locking_pins locking_ranges locking_mbr_controls admin_aces authority_aces pin_aces range_get_aces range_aces mbr_aces authorities_of_locking verdict_of any_below zeros is_range
row_issued = refl

row_active : (registers (trace locked (Issue 2 ∷ Complete 1 ∷ Complete 0 ∷ reads))).active ≡ 0
unfolding locked reads ranges_in admin_sps admin_authorities locking_authorities admin_pins locking_pins locking_ranges locking_mbr_controls admin_aces authority_aces pin_aces range_get_aces range_aces mbr_aces authorities_of_locking verdict_of any_below zeros is_range
row_active = refl

-- A queued read put behind the issued send waits for it.
row_behind : refusal (trace locked (Put 1 0 (Read 0 1) ∷ Take 1 0 ∷ Issue 2 ∷ Complete 1
    ∷ Complete 0 ∷ reads)) (Issue 0) ≡ Some Queue
unfolding locked reads ranges_in admin_sps admin_authorities locking_authorities admin_pins locking_pins locking_ranges locking_mbr_controls admin_aces authority_aces pin_aces range_get_aces range_aces mbr_aces authorities_of_locking verdict_of any_below zeros is_range
row_behind = refl

row_lawful_reads : are_lawful locked (Issue 2 ∷ Complete 1 ∷ Complete 0 ∷ reads) ≡ true
unfolding are_lawful locked reads ranges_in admin_sps admin_authorities locking_authorities admin_pins locking_pins locking_ranges locking_mbr_controls admin_aces authority_aces pin_aces range_get_aces range_aces mbr_aces authorities_of_locking verdict_of any_below zeros is_range
row_lawful_reads = refl

-- Both locks of range 1, which is 100+10, are enabled, and none is set.
enabled : Origin
enabled = opened (range_row 1 100 10 true true false false)

-- A reset stops an accepted write: it moves nothing.
stopped : List Step
stopped =
    Reset 1 Hardware ∷ Accept 0 ∷ Issue 0 ∷ Put 1 0 (Write 100 (replicate 512 0xaa)) ∷ []

row_reset : answer (trace enabled stopped) 0 ≡ Some answers.Reset
unfolding enabled stopped ranges_in admin_sps admin_authorities locking_authorities admin_pins locking_pins locking_ranges locking_mbr_controls admin_aces authority_aces pin_aces range_get_aces range_aces mbr_aces authorities_of_locking verdict_of any_below zeros is_range
row_reset = refl

read_again : List Step
read_again = Complete 0 ∷ Accept 0 ∷ Issue 0 ∷ Put 1 0 (Read 100 1) ∷ Take 1 0 ∷ stopped

row_zeros : answer (trace enabled read_again) 0 ≡ Some (answers.Done (replicate 512 0))
unfolding enabled stopped read_again ranges_in admin_sps admin_authorities locking_authorities admin_pins locking_pins locking_ranges locking_mbr_controls admin_aces authority_aces pin_aces range_get_aces range_aces mbr_aces authorities_of_locking verdict_of any_below zeros is_range sectors_from
row_zeros = refl

-- A power cycle sets the locks: the same read is denied.
row_locked : audit (trace enabled (Accept 0 ∷ Issue 0 ∷ Put 1 0 (Read 100 1) ∷ Reset 1 Power
    ∷ Take 1 0 ∷ read_again)) ≡ (record { step = 14; client = 1; why = ReadLocked 100 1 1 }) ∷ []
unfolding enabled stopped read_again ranges_in admin_sps admin_authorities locking_authorities admin_pins locking_pins locking_ranges locking_mbr_controls admin_aces authority_aces pin_aces range_get_aces range_aces mbr_aces authorities_of_locking verdict_of any_below zeros is_range
row_locked = refl

-- PxTFD (AHCI 1.3.1, 3.3.8): the failed read leaves 51h and 04h. Behind a reset the device is ready, with
-- no error (ACS-3, Status and Error fields), whatever was before.
row_failed_status : (registers (trace locked fails)).status ≡ 0x51
unfolding locked fails ranges_in admin_sps admin_authorities locking_authorities admin_pins locking_pins locking_ranges locking_mbr_controls admin_aces authority_aces pin_aces range_get_aces range_aces mbr_aces authorities_of_locking verdict_of any_below zeros is_range
row_failed_status = refl

row_failed_error : (registers (trace locked fails)).error ≡ 0x04
unfolding locked fails ranges_in admin_sps admin_authorities locking_authorities admin_pins locking_pins locking_ranges locking_mbr_controls admin_aces authority_aces pin_aces range_get_aces range_aces mbr_aces authorities_of_locking verdict_of any_below zeros is_range
row_failed_error = refl

row_reset_status : (registers (trace locked (Reset 1 Hardware ∷ fails))).status ≡ 0x50
unfolding locked fails ranges_in admin_sps admin_authorities locking_authorities admin_pins locking_pins locking_ranges locking_mbr_controls admin_aces authority_aces pin_aces range_get_aces range_aces mbr_aces authorities_of_locking verdict_of any_below zeros is_range
row_reset_status = refl

row_reset_error : (registers (trace locked (Reset 1 Hardware ∷ fails))).error ≡ 0
unfolding locked fails ranges_in admin_sps admin_authorities locking_authorities admin_pins locking_pins locking_ranges locking_mbr_controls admin_aces authority_aces pin_aces range_get_aces range_aces mbr_aces authorities_of_locking verdict_of any_below zeros is_range
row_reset_error = refl

row_ready_status : (registers (trace enabled stopped)).status ≡ 0x50
unfolding enabled stopped ranges_in admin_sps admin_authorities locking_authorities admin_pins locking_pins locking_ranges locking_mbr_controls admin_aces authority_aces pin_aces range_get_aces range_aces mbr_aces authorities_of_locking verdict_of any_below zeros is_range
row_ready_status = refl

row_lawful_reset : are_lawful enabled (Accept 0 ∷ Issue 0 ∷ Put 1 0 (Read 100 1) ∷ Reset 1 Power
    ∷ Take 1 0 ∷ read_again) ≡ true
unfolding are_lawful enabled stopped read_again ranges_in admin_sps admin_authorities locking_authorities admin_pins locking_pins locking_ranges locking_mbr_controls admin_aces authority_aces pin_aces range_get_aces range_aces mbr_aces authorities_of_locking verdict_of any_below zeros is_range
row_lawful_reset = refl
