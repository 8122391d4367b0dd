-- The registers of a port, as its steps and the FISes of the drive leave them (AHCI 1.3.1, 3.3 and
-- 5.3; Serial ATA, FISes to the host).
use Rattle.std.specs.Prelude.{ℕ, ◌^◌, ◌%◌, ◌==◌, ◌&&◌, not, Bool, List, [], ◌∷◌, bit_and, bit_or, Option, if◌then◌else◌}
use Rattle.fis.specs.declared.any.Fis.{Fis}
use Rattle.fis.specs.declared.any.Fis.TheVariants as fises
use Rattle.hba_regs.specs.Registers.{Regs, start_registers, ready, without, after_start, stopped}
use Rattle.port_history.specs.declared.stages.Put.{Put}
use Rattle.port_history.specs.declared.step.Step.{Step}
use Rattle.port_history.specs.declared.step.Step.TheVariants as steps
use Rattle.port_history.specs.Stages.{is_queued_put}
use Rattle.port_history.specs.Steps.{Effect, Moment, step_fises, has_failed}

-- Bits of PxIS (3.3.5): a register FIS, a PIO Setup FIS, a DMA Setup FIS, a Set Device Bits FIS,
-- each with its bit I; and a status with ERR.
abbrev pub register_bit : ℕ
register_bit = 0x00000001

abbrev pub pio_setup_bit : ℕ
pio_setup_bit = 0x00000002

abbrev pub dma_setup_bit : ℕ
dma_setup_bit = 0x00000004

abbrev pub device_bits_bit : ℕ
device_bits_bit = 0x00000008

abbrev pub task_error_bit : ℕ
task_error_bit = 0x40000000

-- BSY, DRQ and ERR of a status (ACS-3, Status field), and the bits of it that a Set Device Bits FIS
-- carries.
abbrev pub unfinished_bits : ℕ
unfinished_bits = 0x89

abbrev pub carried_bits : ℕ
carried_bits = 0x77

abbrev pub kept_bits : ℕ
kept_bits = 0x88

-- The command is done, by the status.
abbrev pub is_finished : ℕ → Bool
is_finished status = bit_and status unfinished_bits == 0

abbrev pub raised : ℕ → Bool → Regs → Regs
raised bits raises regs =
    if raises then record regs { interrupts = bit_or regs.interrupts bits } else regs

-- PxTFD takes a status and an error; ERR raises TFES.
abbrev pub with_task : ℕ → ℕ → Regs → Regs
with_task status error regs =
    raised task_error_bit (status % 2 == 1) (record regs { status = status; error = error })

-- A command that is done is issued no more.
abbrev pub no_more_issued : ℕ → Bool → Regs → Regs
no_more_issued tag ends regs =
    if ends then record regs { issued = without regs.issued (2 ^ tag) } else regs

abbrev pub no_more_active : ℕ → Regs → Regs
no_more_active tags regs = record regs { active = without regs.active tags }

-- The status with the bits that a Set Device Bits FIS carries.
abbrev pub carried : ℕ → ℕ → ℕ
carried before status = bit_or (bit_and before kept_bits) (bit_and status carried_bits)

-- The registers after a FIS of the drive for the command of a tag.
abbrev pub shown : ℕ → Regs → Fis → Regs
shown tag regs (fises.H2d f) = regs
shown tag regs (fises.D2h f) =
    no_more_issued tag (is_finished f.status)
    (raised register_bit f.interrupt (with_task f.status f.error regs))
shown tag regs (fises.PioSetup f) =
    no_more_issued tag (f.to_host && is_finished f.end_status)
    (raised pio_setup_bit f.interrupt (with_task f.end_status f.error regs))
shown tag regs (fises.DmaSetup f) = raised dma_setup_bit f.interrupt regs
shown tag regs (fises.SetDeviceBits f) =
    no_more_active f.active
    (raised device_bits_bit f.interrupt (with_task (carried regs.status f.status) f.error regs))

-- And after several, in their order.
abbrev pub all_shown : ℕ → Regs → List Fis → Regs
all_shown tag regs [] = regs
all_shown tag regs (fis ∷ later) = all_shown tag (shown tag regs fis) later

-- A command is issued: its bit of PxSACT, where it is queued, and its bit of PxCI.
abbrev pub with_issue : ℕ → Bool → Regs → Regs
with_issue tag queued regs = record regs {
  active = (if queued then bit_or regs.active (2 ^ tag) else regs.active);
  issued = bit_or regs.issued (2 ^ tag);
}

-- The port stops and starts: no command is issued.
abbrev pub restarted : Regs → Regs
restarted regs = after_start (stopped regs)

-- It does so after a command that is not queued has failed.
abbrev pub restarted_if : Bool → Regs → Regs
restarted_if fails regs = if fails then restarted regs else regs

abbrev pub accepted_regs : ℕ → Option Put → Option Effect → Regs → Regs
accepted_regs tag served effect regs =
    restarted_if (not (is_queued_put served) && has_failed effect)
    (all_shown tag regs (step_fises effect))

-- The log is read under tag 0, when no command is issued.
abbrev pub recovered_regs : Option Effect → Regs → Regs
recovered_regs effect regs = all_shown 0 (restarted regs) (step_fises effect)

-- After a reset the device is ready.
abbrev pub reset_regs : Regs → Regs
reset_regs regs = record (restarted regs) { status = ready; error = 0 }

abbrev pub regs_after : Option Put → Option Effect → Step → Regs → Regs
regs_after served effect (steps.Put client slot request) regs = regs
regs_after served effect (steps.Issue slot) regs = with_issue slot (is_queued_put served) regs
regs_after served effect (steps.Accept slot) regs = accepted_regs slot served effect regs
regs_after served effect (steps.Complete slot) regs = all_shown slot regs (step_fises effect)
regs_after served effect steps.Recover regs = recovered_regs effect regs
regs_after served effect (steps.Reset client kind) regs = reset_regs regs
regs_after served effect (steps.Take client slot) regs = regs

-- The registers after a list of steps.
abbrev pub registers : List Moment → Regs
registers [] = start_registers
registers (m ∷ before) = regs_after m.served m.effect m.step (registers before)
