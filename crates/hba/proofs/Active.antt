-- Which FISes leave PxSACT as it was.
use Rattle.std.proofs.Common.{◌≡◌, ℕ, ◌^◌, Bool, true, false, List, [], ◌∷◌, map, Option, Some, None, ◌*◌, refl, ap, inl, inr, ◌∙◌}
use Rattle.std.specs.Prelude.{is_some, unwrap_or, Result, Ok, Err, if◌then◌else◌}
use Rattle.fis.specs.declared.any.Fis.{Fis}
use Rattle.hba_regs.specs.Registers.{Regs, without}
use Rattle.trusted_cmds.specs.declared.command.Command.{Command}
use Rattle.trusted_cmds.specs.declared.command.Command.TheVariants.{ReadQueued, WriteQueued, ReadDma, WriteDma, Send, Receive, Identify, ReadLog10, Flush, SetFeatures, ReadLog, ReadPio, WritePio, Verify, Trim, Control}
use Rattle.trusted_cmds.specs.declared.control.Control.TheVariants.{SetMultiple, Idle, Standby, CheckPowerMode, Diagnose}
use Rattle.device_data.specs.declared.settings.Settings.{Settings}
use Rattle.trusted_cmds.specs.declared.command.CommandError.{CommandError}
use Rattle.history.specs.Answers.{errored, ready, answer_fis, served_fises, fises_read, fises_of, completed_fises, setup_fis, moved_fis}
use Rattle.history.specs.Events.{HeldCommand}
use Rattle.port_history.specs.Registers.{carried, all_shown}
use Rattle.hba.specs.declared.registers.Registers.{Registers}
use Rattle.host_memory.specs.declared.hba_memory.delivery.Arrival.{Arrival}
use Rattle.host_memory.specs.declared.hba_memory.miss.Miss.{Miss}
use Rattle.host_memory.specs.declared.hba_memory.miss.Miss.TheVariants as misses
use Rattle.hba.specs.Showing.{served, moved, arrived, fetching}
use Rattle.hba.specs.Blocks.{of_last_block}
use Rattle.hba.specs.Laws.{ToldByDeviceBits}
use Rattle.hba.proofs.Shown.{task_active, blocks_active}

served_active : (tag : ℕ) (regs : Regs) (settings : Settings) (command : Command)
    → (all_shown tag regs (served_fises settings command)).active ≡ regs.active
served_active tag regs settings (ReadQueued lba count) = refl
served_active tag regs settings (WriteQueued lba count) = refl
served_active tag regs settings (ReadDma lba count) = refl
served_active tag regs settings (WriteDma lba count) = refl
served_active tag regs settings (Send protocol com_id blocks true) = refl
served_active tag regs settings (Send protocol com_id blocks false) = refl
served_active tag regs settings (Receive protocol com_id blocks true) = refl
served_active tag regs settings (Receive protocol com_id blocks false) = refl
served_active tag regs settings Identify = refl
served_active tag regs settings (ReadLog10 true) = refl
served_active tag regs settings (ReadLog10 false) = refl
served_active tag regs settings Flush = refl
served_active tag regs settings (SetFeatures feature) = refl
served_active tag regs settings (ReadLog page true) = refl
served_active tag regs settings (ReadLog page false) = refl
served_active tag regs settings (ReadPio lba count) = refl
served_active tag regs settings (WritePio lba count) = refl
served_active tag regs settings (Verify lba count) = refl
served_active tag regs settings (Trim blocks) = refl
served_active tag regs settings (Control SetMultiple) = refl
served_active tag regs settings (Control Idle) = refl
served_active tag regs settings (Control Standby) = refl
served_active tag regs settings (Control CheckPowerMode) = refl
served_active tag regs settings (Control Diagnose) = refl

read_active : (tag : ℕ) (regs : Regs) (settings : Settings) (read : Result (Command × Option ℕ) CommandError)
    → (all_shown tag regs (fises_read settings read)).active ≡ regs.active
read_active tag regs settings (Err e) = refl
read_active tag regs settings (Ok (command, slot)) = served_active tag regs settings command

accepted_active : (tag : ℕ) (regs : Regs) (settings : Settings) (error : Option ℕ) (holds : Bool)
    (read : Result (Command × Option ℕ) CommandError)
    → (all_shown tag regs
    (if is_some error then answer_fis true errored (unwrap_or error 0) ∷ []
    else (if holds then answer_fis false ready 0 ∷ [] else fises_read settings read))).active ≡ regs.active
accepted_active tag regs settings (Some error) holds read = refl
accepted_active tag regs settings None true read = refl
accepted_active tag regs settings None false read = read_active tag regs settings read

-- The registers after an act of the drive, whatever was missed behind it.
pub served_same : (missed : Option Miss) (tag : ℕ) (fises : List Fis) (regs : Registers)
    → (all_shown tag regs.port fises).active ≡ regs.port.active
    → (served tag fises missed regs).port.active ≡ regs.port.active
served_same None tag fises regs e = e
served_same (Some misses.List) tag fises regs e = refl
served_same (Some misses.Table) tag fises regs e = refl
served_same (Some misses.Block) tag fises regs e = refl
served_same (Some misses.Overflow) tag fises regs e = refl
served_same (Some misses.Fis) tag fises regs e = e

pub fetched_same : (arrival : Arrival) (tag : ℕ) (regs : Registers) (settings : Settings) (error : Option ℕ) (holds : Bool)
    (read : Result (Command × Option ℕ) CommandError) (n : ℕ) (given fises : List Fis)
    → fises ≡ map (of_last_block n) given
    → given ≡ (if is_some error then answer_fis true errored (unwrap_or error 0) ∷ []
    else (if holds then answer_fis false ready 0 ∷ [] else fises_read settings read))
    → (arrived tag fises arrival (fetching tag regs)).port.active ≡ regs.port.active
fetched_same arrival tag regs settings error holds read n given fises m e =
    let before = moved arrival (fetching tag regs) in
    served_same arrival.missed tag fises before
    (rw m (blocks_active n tag given before.port ∙ rw e (accepted_active tag before.port settings error holds read)))

-- The two FISes of a completion.
pub moved_active : (tag : ℕ) (to_host : Bool) (count : ℕ) (regs : Regs)
    → (all_shown tag regs (setup_fis to_host tag count ∷ moved_fis tag ∷ [])).active
    ≡ without regs.active (2 ^ tag)
moved_active tag to_host count regs =
    ap (λ a. without a (2 ^ tag)) (task_active (carried regs.status ready) 0 regs)

told_if : (missed : Option Miss) (tag : ℕ) (setup : Fis) (regs : Registers)
    → (all_shown tag regs.port (setup ∷ moved_fis tag ∷ [])).active ≡ without regs.port.active (2 ^ tag)
    → ToldByDeviceBits tag (setup ∷ moved_fis tag ∷ []) regs.port.active
    (served tag (setup ∷ moved_fis tag ∷ []) missed regs).port.active
told_if None tag setup regs e = inr (setup, refl, e)
told_if (Some misses.List) tag setup regs e = inl refl
told_if (Some misses.Table) tag setup regs e = inl refl
told_if (Some misses.Block) tag setup regs e = inl refl
told_if (Some misses.Overflow) tag setup regs e = inl refl
told_if (Some misses.Fis) tag setup regs e = inr (setup, refl, e)

by_command : (missed : Option Miss) (tag : ℕ) (regs : Registers) (command : Command)
    → ToldByDeviceBits tag (fises_of tag command) regs.port.active
    (served tag (fises_of tag command) missed regs).port.active
by_command missed tag regs (ReadQueued lba count) =
    told_if missed tag (setup_fis true tag (512 * count)) regs
    (moved_active tag true (512 * count) regs.port)
by_command missed tag regs (WriteQueued lba count) =
    told_if missed tag (setup_fis false tag (512 * count)) regs
    (moved_active tag false (512 * count) regs.port)
by_command missed tag regs (ReadDma lba count) = inl (served_same missed tag [] regs refl)
by_command missed tag regs (WriteDma lba count) = inl (served_same missed tag [] regs refl)
by_command missed tag regs (Send protocol com_id blocks dma) = inl (served_same missed tag [] regs refl)
by_command missed tag regs (Receive protocol com_id blocks dma) = inl (served_same missed tag [] regs refl)
by_command missed tag regs Identify = inl (served_same missed tag [] regs refl)
by_command missed tag regs (ReadLog10 dma) = inl (served_same missed tag [] regs refl)
by_command missed tag regs Flush = inl (served_same missed tag [] regs refl)
by_command missed tag regs (SetFeatures feature) = inl (served_same missed tag [] regs refl)
by_command missed tag regs (ReadLog page dma) = inl (served_same missed tag [] regs refl)
by_command missed tag regs (ReadPio lba count) = inl (served_same missed tag [] regs refl)
by_command missed tag regs (WritePio lba count) = inl (served_same missed tag [] regs refl)
by_command missed tag regs (Verify lba count) = inl (served_same missed tag [] regs refl)
by_command missed tag regs (Trim blocks) = inl (served_same missed tag [] regs refl)
by_command missed tag regs (Control control) = inl (served_same missed tag [] regs refl)

pub completed_told : (missed : Option Miss) (tag : ℕ) (regs : Registers) (held : Option HeldCommand)
    → ToldByDeviceBits tag (completed_fises tag held) regs.port.active
    (served tag (completed_fises tag held) missed regs).port.active
completed_told missed tag regs None = inl (served_same missed tag [] regs refl)
completed_told missed tag regs (Some held) = by_command missed tag regs held.command

pub arrived_told : (arrival : Arrival) (tag : ℕ) (regs : Registers) (held : Option HeldCommand)
    → ToldByDeviceBits tag (completed_fises tag held) regs.port.active
    (arrived tag (completed_fises tag held) arrival regs).port.active
arrived_told arrival tag regs held =
    completed_told arrival.missed tag (moved arrival regs) held
