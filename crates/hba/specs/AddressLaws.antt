-- Laws of addresses, over every list of operations, the newest first: what CAP.S64A tells, what PxCLBU and PxFBU read, and
-- where the command list and received FISes stand by what a driver reads (AHCI 1.3.1, 3.1.1, 3.3.1 to 3.3.4 and 10.4.3).
use Rattle.std.specs.Prelude.{◌≡◌, ℕ, ◌+◌, ◌*◌, List, [], ◌∷◌, Some, None, if◌then◌else◌}
use Rattle.hba_regs.specs.declared.register.Register.{Register}
use Rattle.hba_regs.specs.declared.register.Register.TheVariants as at
use Rattle.host_memory.specs.declared.width.AddressWidth.{AddressWidth}
use Rattle.host_memory.specs.declared.width.AddressWidth.TheVariants as widths
use Rattle.hba.specs.declared.registers.Registers.{Registers}
use Rattle.hba.specs.Registers.{word_at}
use Rattle.hba.specs.Engine.{header_at, fises_at}
use Rattle.hba.specs.History.{Opened, Operation, Wrote, Powered, Signed, Missed, Controlled, Asserted, Restarted, Unheard, Fetched, Completed, regs_of}
use Rattle.hba.specs.TaskLaws.{left_by}

-- An HBA has one width, and CAP tells it: S64A is bit 31.
pub record TellsWidth (o : Opened) (list : List Operation) : Type 0 where
  pub width : (regs_of o list).width ≡ o.width
  pub low : o.width ≡ widths.Bits32 → word_at (regs_of o list) 0x000 ≡ 0x41249f00
  pub wide : o.width ≡ widths.Bits64 → word_at (regs_of o list) 0x000 ≡ 0x41249f00 + 0x80000000

abbrev pub WidthLaw : Type 0
WidthLaw = (o : Opened) (list : List Operation) → TellsWidth o list

-- The upper halves of PxCLB and PxFB, as they were written last since power on: a reset of the HBA leaves them (10.4.3).
pub record Uppers : Type 0 where
  pub list : ℕ
  pub fises : ℕ

abbrev pub no_uppers : Uppers
no_uppers = record { list = 0; fises = 0 }

abbrev pub uppers_after : ℕ → Uppers → Register → Uppers
uppers_after value before at.ListBaseUpper = record before { list = value }
uppers_after value before at.FisBaseUpper = record before { fises = value }
uppers_after value before register = before

abbrev pub uppers_written : List Operation → Uppers
uppers_written [] = no_uppers
uppers_written (Wrote offset value ∷ before) =
    left_by (uppers_after value (uppers_written before)) (uppers_written before)
    (uppers_written before) offset value
uppers_written (Powered ∷ before) = no_uppers
uppers_written (Signed ∷ before) = uppers_written before
uppers_written (Missed fetched miss ∷ before) = uppers_written before
uppers_written (Controlled tag ∷ before) = uppers_written before
uppers_written (Asserted tag ∷ before) = uppers_written before
uppers_written (Restarted tag ∷ before) = uppers_written before
uppers_written (Unheard tag ∷ before) = uppers_written before
uppers_written (Fetched tag fis payload arrival ∷ before) = uppers_written before
uppers_written (Completed tag payload arrival ∷ before) = uppers_written before

-- Where addresses are below 4 GiB, both are 0, whatever is written.
abbrev pub uppers_by : AddressWidth → List Operation → Uppers
uppers_by widths.Bits32 list = no_uppers
uppers_by widths.Bits64 list = uppers_written list

abbrev pub read_uppers : Registers → Uppers
read_uppers regs = record { list = word_at regs 0x104; fises = word_at regs 0x10c }

abbrev pub UppersLaw : Type 0
UppersLaw =
    (o : Opened) (list : List Operation) → read_uppers (regs_of o list) ≡ uppers_by o.width list

-- Whatever the registers are, the list and the FISes stand where a driver reads them; a header has 32 bytes.
pub record StandsThere (regs : Registers) : Type 0 where
  pub header : (tag : ℕ)
      → header_at regs tag
      ≡ word_at regs 0x100 + 0x100000000 * word_at regs 0x104 + 32 * tag
  pub fises : fises_at regs
      ≡ (if regs.port.receiving then Some (word_at regs 0x108 + 0x100000000 * word_at regs 0x10c)
      else None)

abbrev pub PlacesLaw : Type 0
PlacesLaw = (regs : Registers) → StandsThere regs
