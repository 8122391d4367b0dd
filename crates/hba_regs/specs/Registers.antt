-- The registers of a port (AHCI 1.3.1, 3.3): where each stands, the word that it gives, and what a
-- write of the host makes of it.
use Rattle.std.specs.Prelude.{◌==◌, ℕ, ◌+◌, ◌*◌, Bool, true, false, Option, Some, None, if◌then◌else◌, bit_and, bit_or}
use Rattle.std.specs.Int.{bit_not, w32}
use Rattle.hba_regs.specs.declared.error.RegError.{RegError}
use Rattle.hba_regs.specs.declared.error.RegError.TheVariants.{BadOffset, ReadOnly}
use Rattle.hba_regs.specs.declared.register.Register.{Register}
use Rattle.hba_regs.specs.declared.register.Register.TheVariants.{ListBase, ListBaseUpper, FisBase, FisBaseUpper, InterruptStatus, InterruptEnable, Command, TaskFile, Signature, SataStatus, SataControl, SataError, Active, Issue}

-- The register at an offset in the port's block (3.3).
abbrev pub register_at : ℕ → Option Register
register_at offset =
    if offset == 0x00 then Some ListBase
    else (if offset == 0x04 then Some ListBaseUpper
    else (if offset == 0x08 then Some FisBase
    else (if offset == 0x0c then Some FisBaseUpper
    else (if offset == 0x10 then Some InterruptStatus
    else (if offset == 0x14 then Some InterruptEnable
    else (if offset == 0x18 then Some Command
    else (if offset == 0x20 then Some TaskFile
    else (if offset == 0x24 then Some Signature
    else (if offset == 0x28 then Some SataStatus
    else (if offset == 0x2c then Some SataControl
    else (if offset == 0x30 then Some SataError
    else (if offset == 0x34 then Some Active
    else (if offset == 0x38 then Some Issue
    else None)))))))))))))

-- Bits of PxCMD (3.3.7): ST and FRE, which the host writes, and FR and CR, which follow them.
abbrev pub start_bit : ℕ
start_bit = 0x0001

abbrev pub receive_bit : ℕ
receive_bit = 0x0010

abbrev pub receiving_bit : ℕ
receiving_bit = 0x4000

abbrev pub running_bit : ℕ
running_bit = 0x8000

-- The bits that an address keeps: PxCLB 31 to 10 (3.3.1), PxFB 31 to 8 (3.3.3).
abbrev pub list_base_bits : ℕ
list_base_bits = 0xfffffc00

abbrev pub fis_base_bits : ℕ
fis_base_bits = 0xffffff00

-- Where received FISes stand before the host writes another place.
abbrev pub first_fis_base : ℕ
first_fis_base = 0x400

-- The status of a device that is ready: DRDY, and the bit that ACS-3 calls command dependent.
abbrev pub ready : ℕ
ready = 0x50

-- PxSIG of a disk (3.3.9), and PxSSTS of a device at the third generation's speed, with its link up
-- and active (3.3.10).
abbrev pub disk_signature : ℕ
disk_signature = 0x101

abbrev pub link_up : ℕ
link_up = 0x133

-- What the registers keep. ST and FRE of PxCMD are `running` and `receiving`.
pub record Regs : Type 0 where
  pub list_base : ℕ
  pub fis_base : ℕ
  pub interrupts : ℕ
  pub enabled : ℕ
  pub running : Bool
  pub receiving : Bool
  pub status : ℕ
  pub error : ℕ
  pub control : ℕ
  pub link_errors : ℕ
  pub active : ℕ
  pub issued : ℕ

-- Before anything is written: a drive is there and ready, and the port runs. The list stands at 0.
abbrev pub start_registers : Regs
start_registers = record {
  list_base = 0;
  fis_base = first_fis_base;
  interrupts = 0;
  enabled = 0;
  running = true;
  receiving = true;
  status = ready;
  error = 0;
  control = 0;
  link_errors = 0;
  active = 0;
  issued = 0;
}

-- PxCMD (3.3.7): CR follows ST, and FR follows FRE.
abbrev pub command_word : Bool → Bool → ℕ
command_word running receiving =
    (if running then running_bit + start_bit else 0)
    + (if receiving then receiving_bit + receive_bit else 0)

-- The word that a register gives.
abbrev pub word : Regs → Register → ℕ
word regs ListBase = regs.list_base
word regs ListBaseUpper = 0
word regs FisBase = regs.fis_base
word regs FisBaseUpper = 0
word regs InterruptStatus = regs.interrupts
word regs InterruptEnable = regs.enabled
word regs Command = command_word regs.running regs.receiving
word regs TaskFile = regs.status + 256 * regs.error
word regs Signature = disk_signature
word regs SataStatus = link_up
word regs SataControl = regs.control
word regs SataError = regs.link_errors
word regs Active = regs.active
word regs Issue = regs.issued

abbrev pub word_of : Regs → Option Register → Option ℕ
word_of regs None = None
word_of regs (Some register) = Some (word regs register)

-- The word at an offset.
abbrev pub word_at : Regs → ℕ → Option ℕ
word_at regs offset = word_of regs (register_at offset)

-- the bits of a word that are not in the mask
abbrev pub without : ℕ → ℕ → ℕ
without bits mask = bit_and bits (bit_not w32 mask)

-- whether a word has the bits of a mask
abbrev pub has_bits : ℕ → ℕ → Bool
has_bits bits mask = bit_and bits mask == mask

-- A port that is stopped has no command (3.3.7, ST).
abbrev pub stopped : Regs → Regs
stopped regs = record regs { running = false; active = 0; issued = 0 }

abbrev pub after_start : Regs → Regs
after_start regs = record regs { running = true }

-- What a write of ST makes of the port.
abbrev pub run_if : Bool → Regs → Regs
run_if true regs = after_start regs
run_if false regs = stopped regs

-- What a write makes of a register: bits that keep what is written, bits that a written 1 clears,
-- bits that a written 1 sets while the port runs, and registers that no write changes.
abbrev pub rewritten : Regs → Register → ℕ → Regs
rewritten regs ListBase value = record regs { list_base = bit_and value list_base_bits }
rewritten regs ListBaseUpper value = regs
rewritten regs FisBase value = record regs { fis_base = bit_and value fis_base_bits }
rewritten regs FisBaseUpper value = regs
rewritten regs InterruptStatus value = record regs { interrupts = without regs.interrupts value }
rewritten regs InterruptEnable value = record regs { enabled = value }
rewritten regs Command value =
    run_if (has_bits value start_bit) (record regs { receiving = has_bits value receive_bit })
rewritten regs TaskFile value = regs
rewritten regs Signature value = regs
rewritten regs SataStatus value = regs
rewritten regs SataControl value = record regs { control = value }
rewritten regs SataError value = record regs { link_errors = without regs.link_errors value }
rewritten regs Active value =
    if regs.running then record regs { active = bit_or regs.active value } else regs
rewritten regs Issue value =
    if regs.running then record regs { issued = bit_or regs.issued value } else regs

-- whether the host can't write it
abbrev pub is_read_only : Register → Bool
is_read_only TaskFile = true
is_read_only Signature = true
is_read_only SataStatus = true
is_read_only _ = false

-- Why a write is refused, the first reason first.
abbrev pub write_fault : Option Register → Option RegError
write_fault None = Some BadOffset
write_fault (Some register) = if is_read_only register then Some ReadOnly else None

abbrev pub written_of : Regs → Option Register → ℕ → Regs
written_of regs None value = regs
written_of regs (Some register) value = rewritten regs register value

-- The registers after a write of a value at an offset.
abbrev pub written_at : Regs → ℕ → ℕ → Regs
written_at regs offset value = written_of regs (register_at offset) value
