-- Laws of PxTFD and of PxSSTS, over every list of operations, the newest first: what a driver reads is what
-- the latest operation that says something of it left (AHCI 1.3.1, 3.3.8, 3.3.10 and 10.4; Serial ATA).
use Rattle.std.specs.Prelude.{◌≡◌, ℕ, ◌+◌, ◌-◌, ◌*◌, ◌/◌, ◌%◌, ◌==◌, ◌&&◌, not, nat_le, Bool, true, List, [], ◌∷◌, Option, Some, None, bit_and, bit_or, if◌then◌else◌}
use Rattle.fis.specs.declared.any.Fis.{Fis}
use Rattle.fis.specs.declared.any.Fis.TheVariants as fises
use Rattle.hba_regs.specs.declared.register.Register.{Register}
use Rattle.hba_regs.specs.declared.register.Register.TheVariants as at
use Rattle.hba_regs.specs.Registers.{register_at, has_bits}
use Rattle.hba.specs.Registers.{word_at, port_at, is_up, reset_bit, override_bit}
use Rattle.hba.specs.History.{Opened, Operation, Wrote, Powered, Signed, Missed, Controlled, Asserted, Restarted, Unheard, Fetched, Completed, regs_of}
use Rattle.hba.specs.BitLaws.{linked, fetch_shows, completion_shows}

-- What a write leaves of a value: at a register of the port by the register, after a reset of the HBA
-- (3.1.2, HR), and elsewhere what was before.
abbrev pub left_at : {A : Type 0} → (Register → A) → A → Option Register → A
left_at port before None = before
left_at port before (Some register) = port register

abbrev pub left_by : {A : Type 0} → (Register → A) → A → A → ℕ → ℕ → A
left_by port reset before offset value =
    if nat_le port_at offset then left_at port before (register_at (offset - port_at))
    else (if offset == 0x04 && has_bits value reset_bit then reset else before)

-- STS and ERR of PxTFD.
pub record Task : Type 0 where
  pub status : ℕ
  pub error : ℕ

-- Behind a reset, a COMRESET among them, the device is busy until its first FIS (10.4.2). While the link is
-- down it is not there (3.3.8). Its first FIS has DRDY, and the code of a device that passed its diagnostics
-- (ACS-3, device signatures).
abbrev pub awaited_task : Task
awaited_task = record { status = 0x80; error = 0 }

abbrev pub absent_task : Task
absent_task = record { status = 0x7f; error = 0 }

abbrev pub signed_task : Task
signed_task = record { status = 0x50; error = 1 }

-- A FIS: a register FIS has a status and an error, a PIO Setup FIS an ending status, and a Set Device Bits
-- FIS all bits but BSY and DRQ (3.3.8; Serial ATA, FISes to the host).
abbrev pub task_told : Task → Fis → Task
task_told before (fises.H2d f) = before
task_told before (fises.D2h f) = record { status = f.status; error = f.error }
task_told before (fises.PioSetup f) = record { status = f.end_status; error = f.error }
task_told before (fises.DmaSetup f) = before
task_told before (fises.SetDeviceBits f) = record {
  status = bit_or (bit_and before.status 0x88) (bit_and f.status 0x77);
  error = f.error;
}

abbrev pub task_told_by : Task → List Fis → Task
task_told_by before [] = before
task_told_by before (fis ∷ later) = task_told_by (task_told before fis) later

-- CLO clears BSY and DRQ (3.3.7); PxSCTL.DET takes the link down or brings it up (3.3.11).
abbrev pub task_overridden : Bool → Task → Task
task_overridden asked before =
    if asked then record { status = bit_and before.status 0x77; error = before.error } else before

abbrev pub task_linked : Bool → Bool → Task → Task
task_linked was is before =
    if was && not is then absent_task else (if not was && is then awaited_task else before)

abbrev pub task_after : ℕ → Bool → Task → Register → Task
task_after value up before at.Command = task_overridden (has_bits value override_bit) before
task_after value up before at.SataControl = task_linked up (is_up value) before
task_after value up before register = before

-- The task file after a list of operations. A FIS that carries no command leaves it, but for the one that
-- ends a software reset (10.4.1), and a device in reset that is sent a command is busy.
abbrev pub task_of : Opened → List Operation → Task
task_of o [] = awaited_task
task_of o (Wrote offset value ∷ before) =
    left_by (task_after value (linked before) (task_of o before)) awaited_task (task_of o before)
    offset value
task_of o (Powered ∷ before) = awaited_task
task_of o (Signed ∷ before) = signed_task
task_of o (Missed fetched miss ∷ before) = task_of o before
task_of o (Controlled tag ∷ before) = task_of o before
task_of o (Asserted tag ∷ before) = task_of o before
task_of o (Restarted tag ∷ before) = signed_task
task_of o (Unheard tag ∷ before) = record {
  status = bit_or (task_of o before).status 0x80;
  error = (task_of o before).error;
}
task_of o (Fetched tag fis payload arrival ∷ before) =
    task_told_by (task_of o before) (fetch_shows o before fis payload arrival)
task_of o (Completed tag payload arrival ∷ before) =
    task_told_by (task_of o before) (completion_shows o before tag payload arrival)

-- PxTFD reads so: STS in bits 7 to 0, ERR in bits 15 to 8.
abbrev pub TaskLaw : Type 0
TaskLaw =
    (o : Opened) (list : List Operation)
    → word_at (regs_of o list) 0x120 ≡ (task_of o list).status + 256 * (task_of o list).error

-- PxSCTL.DET, as it was written last since a reset (3.3.11).
abbrev pub detection_after : ℕ → ℕ → Register → ℕ
detection_after value before at.SataControl = value % 16
detection_after value before register = before

abbrev pub detection : List Operation → ℕ
detection [] = 0
detection (Wrote offset value ∷ before) =
    left_by (detection_after value (detection before)) 0 (detection before) offset value
detection (Powered ∷ before) = 0
detection (Signed ∷ before) = detection before
detection (Missed fetched miss ∷ before) = detection before
detection (Controlled tag ∷ before) = detection before
detection (Asserted tag ∷ before) = detection before
detection (Restarted tag ∷ before) = detection before
detection (Unheard tag ∷ before) = detection before
detection (Fetched tag fis payload arrival ∷ before) = detection before
detection (Completed tag payload arrival ∷ before) = detection before

-- The speed that the link came up with last: the second generation's, as CAP.ISS has it, and the first's
-- where PxSCTL.SPD was 1 then (3.1.1, 3.3.11).
abbrev pub speed_after : ℕ → Bool → ℕ → Register → ℕ
speed_after value up before at.SataControl =
    if not up && is_up value then (if value / 16 % 16 == 1 then 1 else 2) else before
speed_after value up before register = before

abbrev pub link_speed : List Operation → ℕ
link_speed [] = 2
link_speed (Wrote offset value ∷ before) =
    left_by (speed_after value (linked before) (link_speed before)) 2 (link_speed before)
    offset value
link_speed (Powered ∷ before) = 2
link_speed (Signed ∷ before) = link_speed before
link_speed (Missed fetched miss ∷ before) = link_speed before
link_speed (Controlled tag ∷ before) = link_speed before
link_speed (Asserted tag ∷ before) = link_speed before
link_speed (Restarted tag ∷ before) = link_speed before
link_speed (Unheard tag ∷ before) = link_speed before
link_speed (Fetched tag fis payload arrival ∷ before) = link_speed before
link_speed (Completed tag payload arrival ∷ before) = link_speed before

-- PxSSTS (3.3.10): while PxSCTL.DET is 0 a device is there and speaks (DET 3), the link is active (IPM 1),
-- and SPD is its speed; while it is 4 the link is off (DET 4); else there is no device.
abbrev pub LinkStatusLaw : Type 0
LinkStatusLaw =
    (o : Opened) (list : List Operation)
    → word_at (regs_of o list) 0x128
    ≡ (if detection list == 0 then 0x103 + 16 * link_speed list
    else (if detection list == 4 then 4 else 0))
