-- The access types of a port's registers (AHCI 1.3.1, section 3 and 3.3): what a write of the host makes
-- of each bit, and what it makes of other registers.
use Rattle.std.specs.Prelude.{◌≡◌, ℕ, ◌==◌, ◌&&◌, ◌||◌, Bool, true, false, List, ◌∷◌, [], Some, bit_and, bit_or, if◌then◌else◌}
use Rattle.std.specs.List.{AllByRecursion}
use Rattle.hba_regs.specs.declared.register.Register.{Register}
use Rattle.hba_regs.specs.declared.register.Register.TheVariants.{ListBase, ListBaseUpper, FisBase, FisBaseUpper, InterruptStatus, InterruptEnable, Command, TaskFile, Signature, SataStatus, SataControl, SataError, Active, Issue}
use Rattle.hba_regs.specs.Registers.{Regs, register_at, word, rewritten, without, has_bits, start_bit, receive_bit, receiving_bit, running_bit}

-- RO, and HwInit behind power on: a write leaves it. RW: it is what is written. RWC: a written 1 clears
-- it. RW1: a written 1 sets it, while ST is 1 (3.3.13, 3.3.14). A bit that acts where a 1 is written,
-- and reads 0. A bit that is read only, and follows another. A reserved bit reads 0.
pub data AccessType : Type 0 where
  ReadOnly : AccessType
  ReadWrite : AccessType
  OneClears : AccessType
  OneSets : AccessType
  Acts : AccessType
  Follows : AccessType
  Reserved : AccessType

-- What bits of a word read behind a write of their register, by their type; ST is as it was before.
abbrev pub ReadsSo : AccessType → Bool → ℕ → ℕ → ℕ → ℕ → Type 0
ReadsSo ReadOnly running bits value before after = bit_and after bits ≡ bit_and before bits
ReadsSo ReadWrite running bits value before after = bit_and after bits ≡ bit_and value bits
ReadsSo OneClears running bits value before after =
    bit_and after bits ≡ bit_and (without before value) bits
ReadsSo OneSets running bits value before after =
    bit_and after bits ≡ bit_and (if running then bit_or before value else before) bits
ReadsSo Acts running bits value before after = bit_and after bits ≡ 0
ReadsSo Follows running bits value before after = Unit {0}
ReadsSo Reserved running bits value before after = bit_and after bits ≡ 0

-- Bits of a register, and their type.
pub record AccessRow : Type 0 where
  pub register : Register
  pub bits : ℕ
  pub access : AccessType

abbrev pub typed : Register → ℕ → AccessType → AccessRow
typed register bits access = record { register = register; bits = bits; access = access }

-- The table: PxCLB (3.3.1), PxCLBU (3.3.2), PxFB (3.3.3), PxFBU (3.3.4), PxIS (3.3.5), PxIE (3.3.6),
-- PxCMD with CR, FR, FRE and ST (3.3.7), PxTFD (3.3.8), PxSIG (3.3.9), PxSSTS (3.3.10), PxSCTL (3.3.11),
-- PxSERR (3.3.12), PxSACT (3.3.13), PxCI (3.3.14).
abbrev pub access_rows : List AccessRow
access_rows =
    typed ListBase 0xfffffc00 ReadWrite ∷ typed ListBase 0x3ff Reserved
    ∷ typed ListBaseUpper 0xffffffff ReadOnly
    ∷ typed FisBase 0xffffff00 ReadWrite ∷ typed FisBase 0xff Reserved
    ∷ typed FisBaseUpper 0xffffffff ReadOnly
    ∷ typed InterruptStatus 0xffffffff OneClears
    ∷ typed InterruptEnable 0xffffffff ReadWrite
    ∷ typed Command 0x8000 Follows ∷ typed Command 0x4000 Follows ∷ typed Command 0x10 ReadWrite
    ∷ typed Command 0x1 ReadWrite ∷ typed Command 0xffff3fee Reserved
    ∷ typed TaskFile 0xffffffff ReadOnly
    ∷ typed Signature 0xffffffff ReadOnly
    ∷ typed SataStatus 0xffffffff ReadOnly
    ∷ typed SataControl 0xffffffff ReadWrite
    ∷ typed SataError 0xffffffff OneClears
    ∷ typed Active 0xffffffff OneSets
    ∷ typed Issue 0xffffffff OneSets ∷ []

-- Whatever the registers are, a write makes of each bit of its register what the bit's type says.
abbrev pub PortAccessLaw : Type 0
PortAccessLaw =
    (regs : Regs) (value : ℕ)
    → AllByRecursion (λ (r : AccessRow). ReadsSo r.access regs.running r.bits value
    (word regs r.register) (word (rewritten regs r.register value) r.register)) access_rows

-- CR follows ST, and FR follows FRE (3.3.7).
abbrev pub PortFollowsLaw : Type 0
PortFollowsLaw =
    (regs : Regs)
    → (has_bits (word regs Command) running_bit ≡ has_bits (word regs Command) start_bit)
    × (has_bits (word regs Command) receiving_bit ≡ has_bits (word regs Command) receive_bit)

-- Where a register stands (3.3).
abbrev pub register_offset : Register → ℕ
register_offset ListBase = 0x00
register_offset ListBaseUpper = 0x04
register_offset FisBase = 0x08
register_offset FisBaseUpper = 0x0c
register_offset InterruptStatus = 0x10
register_offset InterruptEnable = 0x14
register_offset Command = 0x18
register_offset TaskFile = 0x20
register_offset Signature = 0x24
register_offset SataStatus = 0x28
register_offset SataControl = 0x2c
register_offset SataError = 0x30
register_offset Active = 0x34
register_offset Issue = 0x38

abbrev pub PortPlaceLaw : Type 0
PortPlaceLaw = (register : Register) → register_at (register_offset register) ≡ Some register

-- PxCMD.ST ends the list of commands: PxSACT and PxCI (3.3.7). No other write reaches a second register.
abbrev pub reaches_tags : Register → Register → Bool
reaches_tags written read =
    register_offset written == register_offset read
    || register_offset written == 0x18
    && (register_offset read == 0x34 || register_offset read == 0x38)

-- A word stays, unless it is reached.
abbrev pub StaysUnless : Bool → ℕ → ℕ → Type 0
StaysUnless true before after = Unit {0}
StaysUnless false before after = after ≡ before

abbrev pub PortOthersLaw : Type 0
PortOthersLaw =
    (regs : Regs) (value : ℕ) (written read : Register)
    → StaysUnless (reaches_tags written read) (word regs read)
    (word (rewritten regs written value) read)

-- A written ST: 0 clears PxSACT and PxCI, and 1 leaves them (3.3.7, 3.3.13, 3.3.14).
abbrev pub ends_list : ℕ → ℕ → ℕ
ends_list value before = if has_bits value start_bit then before else 0

abbrev pub PortStartLaw : Type 0
PortStartLaw =
    (regs : Regs) (value : ℕ)
    → (word (rewritten regs Command value) Active ≡ ends_list value regs.active)
    × (word (rewritten regs Command value) Issue ≡ ends_list value regs.issued)
