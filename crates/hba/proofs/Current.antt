-- What leaves PxCMD.CCS as it was.
use Rattle.std.proofs.Common.{◌≡◌, ℕ, Bool, true, false, List, Option, Some, None, refl, ◌∙◌}
use Rattle.std.specs.Prelude.{◌-◌, ◌==◌, ◌&&◌, not, nat_le, bit_and, if◌then◌else◌}
use Rattle.fis.specs.declared.any.Fis.{Fis}
use Rattle.hba_regs.specs.declared.register.Register.{Register}
use Rattle.hba_regs.specs.declared.register.Register.TheVariants as at
use Rattle.hba_regs.specs.Registers.{register_at, has_bits, start_bit}
use Rattle.host_memory.specs.declared.hba_memory.miss.Miss.{Miss}
use Rattle.host_memory.specs.declared.hba_memory.miss.Miss.TheVariants as misses
use Rattle.hba.specs.declared.registers.Registers.{Registers}
use Rattle.hba.specs.Registers.{port_at, reset_bit, override_bit, control_bits, enable_bit, kept, optioned, overridden, stopped_if, lost_if, found_if, goes_down, comes_up, port_written, port_written_of, after_hba_reset, generic_written, written_at}
use Rattle.hba.specs.Showing.{served}
use Rattle.hba.specs.Laws.{clears_start, clears_start_at, clears_slot}

-- FISes and faults leave it.
pub served_current : (missed : Option Miss) (tag : ℕ) (fises : List Fis) (regs : Registers)
    → (served tag fises missed regs).current ≡ regs.current
served_current None tag fises regs = refl
served_current (Some misses.List) tag fises regs = refl
served_current (Some misses.Table) tag fises regs = refl
served_current (Some misses.Block) tag fises regs = refl
served_current (Some misses.Overflow) tag fises regs = refl
served_current (Some misses.Fis) tag fises regs = refl

-- PxCMD.
overridden_current : (asked : Bool) (regs : Registers) → (overridden asked regs).current ≡ regs.current
overridden_current true regs = refl
overridden_current false regs = refl

stopped_current : (stops : Bool) (regs : Registers) (n : ℕ) → regs.current ≡ n
    → (stopped_if stops regs).current ≡ (if stops then 0 else n)
stopped_current true regs n e = refl
stopped_current false regs n e = e

-- PxSCTL.
lost_current : (goes : Bool) (regs : Registers) → (lost_if goes regs).current ≡ regs.current
lost_current true regs = refl
lost_current false regs = refl

found_current : (comes : Bool) (regs : Registers) → (found_if comes regs).current ≡ regs.current
found_current true regs = refl
found_current false regs = refl

by_register : (regs : Registers) (register : Register) (value : ℕ)
    → (port_written regs register value).current ≡ (if clears_start register value then 0 else regs.current)
by_register regs at.ListBase value = refl
by_register regs at.ListBaseUpper value = refl
by_register regs at.FisBase value = refl
by_register regs at.FisBaseUpper value = refl
by_register regs at.InterruptStatus value = refl
by_register regs at.InterruptEnable value = refl
by_register regs at.Command value =
    stopped_current (not (has_bits value start_bit))
    (overridden (has_bits value override_bit) (optioned value (kept regs at.Command value))) regs.current
    (overridden_current (has_bits value override_bit) (optioned value (kept regs at.Command value)))
by_register regs at.TaskFile value = refl
by_register regs at.Signature value = refl
by_register regs at.SataStatus value = refl
by_register regs at.SataControl value =
    let written = kept regs at.SataControl (bit_and value control_bits) in
    found_current (comes_up regs value) (lost_if (goes_down regs value) written)
    ∙ lost_current (goes_down regs value) written
by_register regs at.SataError value = refl
by_register regs at.Active value = refl
by_register regs at.Issue value = refl

by_place : (regs : Registers) (register : Option Register) (value : ℕ)
    → (port_written_of regs register value).current
    ≡ (if clears_start_at register value then 0 else regs.current)
by_place regs None value = refl
by_place regs (Some register) value = by_register regs register value

-- GHC, IS, and the others.
by_offset : (regs : Registers) (is_control is_status resets enables raises : Bool)
    → (if is_control
    then (if resets then after_hba_reset regs else record regs { interrupts_enabled = enables })
    else (if is_status then record regs { is_raised = raises } else regs)).current
    ≡ (if is_control && resets then 0 else regs.current)
by_offset regs true is_status true enables raises = refl
by_offset regs true is_status false enables raises = refl
by_offset regs false true resets enables raises = refl
by_offset regs false false resets enables raises = refl

by_write : (is_port : Bool) (regs : Registers) (offset value : ℕ)
    → (if is_port then port_written_of regs (register_at (offset - port_at)) value
    else generic_written regs offset value).current
    ≡ (if (if is_port then clears_start_at (register_at (offset - port_at)) value
    else offset == 0x04 && has_bits value reset_bit) then 0 else regs.current)
by_write true regs offset value = by_place regs (register_at (offset - port_at)) value
by_write false regs offset value =
    by_offset regs (offset == 0x04) (offset == 0x08) (has_bits value reset_bit) (has_bits value enable_bit)
    (regs.is_raised && not (has_bits value 1))

-- A write of the host.
pub written_current : (regs : Registers) (offset value : ℕ)
    → (written_at regs offset value).current ≡ (if clears_slot offset value then 0 else regs.current)
written_current regs offset value = by_write (nat_le port_at offset) regs offset value
