-- The software reset (AHCI 1.3.1, 10.4.1): two FISes that carry no command, one that sets SRST in its
-- Control field, and one that clears it (Serial ATA, Register - Host to Device; ACS-3, Device Control).
use Rattle.std.specs.Prelude.{ℕ, ◌==◌, Bool, true, false, List, slice_index, bit_or, if◌then◌else◌}
use Rattle.fis.specs.Types.{h2d_type}
use Rattle.hba_regs.specs.Registers.{has_bits}
use Rattle.hba.specs.declared.registers.Registers.{Registers}
use Rattle.hba.specs.Registers.{awaited_status}
use Rattle.hba.specs.Showing.{signed, fetching, controlled}

-- Where the Control field stands, and SRST in it.
abbrev pub control_field : ℕ
control_field = 15

abbrev pub software_reset_bit : ℕ
software_reset_bit = 0x4

-- Whether SRST is set behind a FIS that carries no command: a register FIS says so, any other leaves it.
abbrev pub resets_behind : Bool → List ℕ → Bool
resets_behind before fis =
    if slice_index fis 0 == h2d_type
    then has_bits (slice_index fis control_field) software_reset_bit else before

-- SRST is set. The device tells nothing until it is cleared; that it took the FIS clears BSY, and the
-- bit of PxCI (4.2.2, bit C of the command header), so that the second FIS is fetched.
abbrev pub asserted : ℕ → Registers → Registers
asserted tag regs = record (controlled tag regs) { in_reset = true }

-- SRST falls. The device's FIS is its signature, without I, and ends the slot's command.
abbrev pub reset_ended : ℕ → Registers → Registers
reset_ended tag regs = signed (record (controlled tag regs) { in_reset = false })

-- A device in reset takes no command: BSY is set as the FIS goes out, and nothing clears it.
abbrev pub unheard : ℕ → Registers → Registers
unheard tag regs =
    fetching tag (record regs {
      port = record regs.port { status = bit_or regs.port.status awaited_status };
    })
