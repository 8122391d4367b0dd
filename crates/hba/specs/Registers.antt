-- The registers of a host bus adapter with one port (AHCI 1.3.1, section 3): the word that each
-- offset gives, and what a write makes of them. Every offset and every value has a meaning.
use Rattle.std.specs.Prelude.{ℕ, ◌+◌, ◌-◌, ◌*◌, ◌/◌, ◌%◌, ◌==◌, ◌&&◌, ◌||◌, not, nat_le, Bool, true, false, Option, Some, None, bit_and, bit_or, if◌then◌else◌}
use Rattle.fis.specs.Bytes.{bit}
use Rattle.hba_regs.specs.declared.register.Register.{Register}
use Rattle.hba_regs.specs.declared.register.Register.TheVariants as at
use Rattle.hba_regs.specs.Registers.{Regs, register_at, word, rewritten, has_bits, start_bit, disk_signature}
use Rattle.hba.specs.declared.registers.Registers.{Registers}
use Rattle.host_memory.specs.declared.width.AddressWidth.{AddressWidth}
use Rattle.host_memory.specs.declared.width.AddressWidth.TheVariants as widths

-- CAP (3.1.1): one port, 32 slots, PIO blocks of several sectors, AHCI alone, the second
-- generation's speed, CLO, queued commands; no staggered spin-up, no port multiplier. S64A, bit 31,
-- tells whether addresses have 64 bits.
abbrev pub capabilities : AddressWidth → ℕ
capabilities widths.Bits32 = 0x41249f00
capabilities widths.Bits64 = 0xc1249f00

-- GHC (3.1.2): HR, IE, and AE, which reads 1 where CAP.SAM is 1.
abbrev pub reset_bit : ℕ
reset_bit = 0x1

abbrev pub enable_bit : ℕ
enable_bit = 0x2

abbrev pub ahci_bit : ℕ
ahci_bit = 0x80000000

-- VS (3.1.5): 1.3.1.
abbrev pub version : ℕ
version = 0x00010301

-- The port's registers stand from here on, and its PxSCTL here (3.2).
abbrev pub port_at : ℕ
port_at = 0x100

abbrev pub control_at : ℕ
control_at = 0x12c

-- PxIS (3.3.5): PCS, which follows PxSERR.DIAG.X; PRCS, which follows PxSERR.DIAG.N; HBFS, of memory
-- that is not there.
abbrev pub change_bit : ℕ
change_bit = 0x00000040

abbrev pub phy_change_bit : ℕ
phy_change_bit = 0x00400000

abbrev pub memory_bit : ℕ
memory_bit = 0x20000000

-- DPS, of a block that is done whose descriptor asks to tell of it.
abbrev pub processed_bit : ℕ
processed_bit = 0x00000020

-- OFS, of data past the PRDT.
abbrev pub overflow_bit : ℕ
overflow_bit = 0x01000000

-- The bits that PxIE has (3.3.6): all that are not reserved but CPDE and DMPE, which are 0 where there
-- is neither cold presence detection nor a presence switch.
abbrev pub enabled_bits : ℕ
enabled_bits = 0x7dc0007f

-- PxCMD (3.3.7): SUD and POD read 1 where there is neither staggered spin-up nor presence to detect;
-- CLO clears BSY and DRQ.
abbrev pub power_bits : ℕ
power_bits = 0x6

abbrev pub override_bit : ℕ
override_bit = 0x8

-- ATAPI and DLAE, which keep what is written, and change nothing here.
abbrev pub packet_bit : ℕ
packet_bit = 0x01000000

abbrev pub light_bit : ℕ
light_bit = 0x02000000

-- BSY and DRQ (3.3.8, PxTFD.STS); the status while the link is down, and that of a device which the
-- link has come up to, and which has not told its own: BSY (10.4.2).
abbrev pub busy_bits : ℕ
busy_bits = 0x88

abbrev pub idle_bits : ℕ
idle_bits = 0x77

abbrev pub unknown_status : ℕ
unknown_status = 0x7f

abbrev pub awaited_status : ℕ
awaited_status = 0x80

-- PxSIG before the device's first FIS (3.3.9).
abbrev pub no_signature : ℕ
no_signature = 0xffffffff

-- PxSCTL (3.3.11) keeps DET, SPD and IPM.
abbrev pub control_bits : ℕ
control_bits = 0xfff

-- PxSERR (3.3.12): DIAG.X, where COMINIT came; DIAG.N, where PhyRdy changed.
abbrev pub exchange_bit : ℕ
exchange_bit = 0x04000000

abbrev pub phy_error_bit : ℕ
phy_error_bit = 0x00010000

-- PxSSTS (3.3.10) with the link up: IPM is active, DET says that a device is there and speaks.
abbrev pub link_bits : ℕ
link_bits = 0x103

-- The speed that a link comes up with: the second generation's, as CAP.ISS has it, or the first's,
-- where PxSCTL.SPD allows no other (3.1.1, 3.3.11).
abbrev pub fastest : ℕ
fastest = 2

abbrev pub speed_by : ℕ → ℕ
speed_by control = if control / 16 % 16 == 1 then 1 else fastest

-- The link is up while DET is 0: 1 resets the device, 4 turns the link off (3.3.11).
abbrev pub is_up : ℕ → Bool
is_up control = control % 16 == 0

-- PxSSTS (3.3.10): SPD is the speed that the link came up with.
abbrev pub link_word : ℕ → ℕ → ℕ
link_word speed control =
    if is_up control then link_bits + 16 * speed else (if control % 16 == 4 then 4 else 0)

-- After power on: the port is stopped, and the link has come up.
abbrev pub fresh_port : Regs
fresh_port = record {
  list_base = 0;
  fis_base = 0;
  interrupts = 0;
  enabled = 0;
  running = false;
  receiving = false;
  status = awaited_status;
  error = 0;
  control = 0;
  link_errors = 0;
  active = 0;
  issued = 0;
}

abbrev pub reset_registers : AddressWidth → Registers
reset_registers width = record {
  width = width;
  port = fresh_port;
  list_upper = 0;
  fis_upper = 0;
  interrupts_enabled = false;
  is_raised = false;
  is_signed = false;
  is_exchanged = true;
  has_phy_changed = true;
  current = 0;
  is_halted = false;
  is_packet = false;
  has_light = false;
  speed = fastest;
  in_reset = false;
}

-- PxIS, PCS and PRCS among its bits.
abbrev pub interrupts : Registers → ℕ
interrupts regs =
    bit_or (bit_or regs.port.interrupts (if regs.is_exchanged then change_bit else 0))
    (if regs.has_phy_changed then phy_change_bit else 0)

-- The word of a register of the port.
abbrev pub port_word : Registers → Register → ℕ
port_word regs at.ListBaseUpper = regs.list_upper
port_word regs at.FisBaseUpper = regs.fis_upper
port_word regs at.InterruptStatus = interrupts regs
port_word regs at.Command =
    word regs.port at.Command + power_bits + 256 * regs.current
    + packet_bit * bit regs.is_packet + light_bit * bit regs.has_light
port_word regs at.Signature = if regs.is_signed then disk_signature else no_signature
port_word regs at.SataStatus = link_word regs.speed regs.port.control
port_word regs at.SataError =
    (if regs.is_exchanged then exchange_bit else 0)
    + (if regs.has_phy_changed then phy_error_bit else 0)
port_word regs register = word regs.port register

abbrev pub port_word_of : Registers → Option Register → ℕ
port_word_of regs None = 0
port_word_of regs (Some register) = port_word regs register

abbrev pub generic_word : Registers → ℕ → ℕ
generic_word regs offset =
    if offset == 0x00 then capabilities regs.width
    else (if offset == 0x04 then ahci_bit + enable_bit * bit regs.interrupts_enabled
    else (if offset == 0x08 then bit regs.is_raised
    else (if offset == 0x0c then 1
    else (if offset == 0x10 then version else 0))))

-- The word that a read at an offset gives: 0 where no register stands.
abbrev pub word_at : Registers → ℕ → ℕ
word_at regs offset =
    if nat_le port_at offset then port_word_of regs (register_at (offset - port_at))
    else generic_word regs offset

-- IS.IPS is set while an enabled bit of PxIS is (3.1.3).
abbrev pub asks : Registers → Bool
asks regs = not (bit_and (interrupts regs) regs.port.enabled == 0)

abbrev pub noted : Registers → Registers
noted regs = record regs { is_raised = regs.is_raised || asks regs }

-- The interrupt line: GHC.IE, and IS is not 0.
abbrev pub line : Registers → Bool
line regs = regs.interrupts_enabled && regs.is_raised

-- PxCMD with CLO (3.3.7).
abbrev pub overridden : Bool → Registers → Registers
overridden asked regs =
    if asked
    then record regs { port = record regs.port { status = bit_and regs.port.status idle_bits } }
    else regs

-- PxCMD keeps ATAPI and DLAE (3.3.7).
abbrev pub optioned : ℕ → Registers → Registers
optioned value regs = record regs {
  is_packet = has_bits value packet_bit;
  has_light = has_bits value light_bit;
}

-- A port that is stopped has no current command, and halts no more (3.3.7, ST).
abbrev pub stopped_if : Bool → Registers → Registers
stopped_if stops regs = if stops then record regs { current = 0; is_halted = false } else regs

-- The link goes down: the device is not heard of, and PhyRdy has changed.
abbrev pub lost_if : Bool → Registers → Registers
lost_if goes regs =
    if goes
    then record regs {
      port = record regs.port { status = unknown_status; error = 0 };
      is_signed = false;
      has_phy_changed = true;
      in_reset = false;
    }
    else regs

-- The link comes up (10.4.2): PhyRdy has changed, COMINIT comes, and the device is busy until its
-- first FIS.
abbrev pub found_if : Bool → Registers → Registers
found_if comes regs =
    if comes
    then record regs {
      port = record regs.port { status = awaited_status; error = 0 };
      is_exchanged = true;
      has_phy_changed = true;
      speed = speed_by regs.port.control;
    }
    else regs

-- The link goes down, or comes up.
abbrev pub goes_down : Registers → ℕ → Bool
goes_down regs value = is_up regs.port.control && not (is_up value)

abbrev pub comes_up : Registers → ℕ → Bool
comes_up regs value = not (is_up regs.port.control) && is_up value

abbrev pub kept : Registers → Register → ℕ → Registers
kept regs register value = record regs { port = rewritten regs.port register value }

-- PxCLBU and PxFBU (3.3.2, 3.3.4): what is written stays where addresses have 64 bits; else they are
-- read only, and 0.
abbrev pub upper_written : AddressWidth → ℕ → ℕ → ℕ
upper_written widths.Bits32 before value = before
upper_written widths.Bits64 before value = value

-- What a write makes of a register of the port.
abbrev pub port_written : Registers → Register → ℕ → Registers
port_written regs at.ListBaseUpper value =
    record regs { list_upper = upper_written regs.width regs.list_upper value }
port_written regs at.FisBaseUpper value =
    record regs { fis_upper = upper_written regs.width regs.fis_upper value }
port_written regs at.InterruptEnable value =
    kept regs at.InterruptEnable (bit_and value enabled_bits)
port_written regs at.Command value =
    stopped_if (not (has_bits value start_bit))
    (overridden (has_bits value override_bit) (optioned value (kept regs at.Command value)))
port_written regs at.SataControl value =
    found_if (comes_up regs value) (lost_if (goes_down regs value)
    (kept regs at.SataControl (bit_and value control_bits)))
port_written regs at.SataError value =
    record regs {
      is_exchanged = regs.is_exchanged && not (has_bits value exchange_bit);
      has_phy_changed = regs.has_phy_changed && not (has_bits value phy_error_bit);
    }
port_written regs register value = kept regs register value

abbrev pub port_written_of : Registers → Option Register → ℕ → Registers
port_written_of regs None value = regs
port_written_of regs (Some register) value = port_written regs register value

-- A reset of the HBA (10.4.3) leaves PxCLB and PxFB as the host wrote them, with their upper halves. All
-- else is as at the start.
abbrev pub with_places : ℕ → ℕ → Regs → Regs
with_places list_base fis_base port =
    rewritten (rewritten port at.ListBase list_base) at.FisBase fis_base

abbrev pub after_hba_reset : Registers → Registers
after_hba_reset regs = record (reset_registers regs.width) {
  port = with_places regs.port.list_base regs.port.fis_base fresh_port;
  list_upper = regs.list_upper;
  fis_upper = regs.fis_upper;
}

abbrev pub control_written : Registers → ℕ → Registers
control_written regs value =
    if has_bits value reset_bit then after_hba_reset regs
    else record regs { interrupts_enabled = has_bits value enable_bit }

abbrev pub generic_written : Registers → ℕ → ℕ → Registers
generic_written regs offset value =
    if offset == 0x04 then control_written regs value
    else (if offset == 0x08 then record regs {
      is_raised = regs.is_raised && not
          (has_bits value 1);
    }
    else regs)

-- The registers after a write of a value at an offset.
abbrev pub written_at : Registers → ℕ → ℕ → Registers
written_at regs offset value =
    noted
    (if nat_le port_at offset then port_written_of regs (register_at (offset - port_at)) value
    else generic_written regs offset value)

-- A write of GHC.HR resets the device, and so does one that takes the link down (10.4.2, 10.4.3).
abbrev pub write_resets : Registers → ℕ → ℕ → Bool
write_resets regs offset value =
    offset == 0x04 && has_bits value reset_bit || offset == control_at && goes_down regs value
