-- The access types of the controller's registers (AHCI 1.3.1, section 3): what a write of the host makes
-- of each bit of its register, and which other registers it reaches.
use Rattle.std.specs.Prelude.{◌≡◌, ℕ, ◌-◌, ◌<◌, ◌^◌, ◌==◌, ◌&&◌, ◌||◌, not, nat_le, Bool, false, List, ◌∷◌, [], Option, Some, None, bit_and, if◌then◌else◌}
use Rattle.std.specs.List.{AllByRecursion}
use Rattle.fis.specs.Tags.{slot_count}
use Rattle.hba_regs.specs.declared.register.Register.{Register}
use Rattle.hba_regs.specs.Registers.{register_at, has_bits, start_bit, receive_bit, receiving_bit, running_bit}
use Rattle.hba_regs.specs.AccessTypes.{AccessType, ReadOnly, ReadWrite, OneClears, OneSets, Acts, Follows, Reserved, ReadsSo, StaysUnless, register_offset, ends_list}
use Rattle.hba.specs.declared.registers.Registers.{Registers}
use Rattle.host_memory.specs.declared.width.AddressWidth.{AddressWidth}
use Rattle.host_memory.specs.declared.width.AddressWidth.TheVariants as widths
use Rattle.hba.specs.Registers.{word_at, written_at, port_at, reset_bit, change_bit, phy_change_bit, exchange_bit, phy_error_bit, asks}

-- Bits at an offset, and their type.
pub record OffsetRow : Type 0 where
  pub offset : ℕ
  pub bits : ℕ
  pub access : AccessType

abbrev pub bits_at : ℕ → ℕ → AccessType → OffsetRow
bits_at offset bits access = record { offset = offset; bits = bits; access = access }

-- CAP (3.1.1); GHC.AE, IE and HR (3.1.2); IS.IPS (3.1.3); PI (3.1.4); VS (3.1.5).
abbrev pub generic_rows : List OffsetRow
generic_rows =
    bits_at 0x000 0xffffffff ReadOnly
    ∷ bits_at 0x004 0x80000000 ReadOnly ∷ bits_at 0x004 0x2 ReadWrite ∷ bits_at 0x004 0x1 Acts
    ∷ bits_at 0x004 0x7ffffffc Reserved
    ∷ bits_at 0x008 0x1 OneClears ∷ bits_at 0x008 0xfffffffe Reserved
    ∷ bits_at 0x00c 0xffffffff ReadOnly
    ∷ bits_at 0x010 0xffffffff ReadOnly ∷ []

-- PxCLB and PxFB (3.3.1, 3.3.3); PxIS, of which PRCS and PCS follow PxSERR, and UFS, CPDS
-- and DMPS are of what there is not (3.3.5); PxIE (3.3.6).
abbrev pub place_rows : List OffsetRow
place_rows =
    bits_at 0x100 0xfffffc00 ReadWrite ∷ bits_at 0x100 0x3ff Reserved
    ∷ bits_at 0x108 0xffffff00 ReadWrite ∷ bits_at 0x108 0xff Reserved
    ∷ bits_at 0x110 0x7d80002f OneClears ∷ bits_at 0x110 0x00400040 Follows
    ∷ bits_at 0x110 0x823fff90 Reserved
    ∷ bits_at 0x114 0x7dc0007f ReadWrite ∷ bits_at 0x114 0x823fff80 Reserved ∷ []

-- PxCLBU and PxFBU (3.3.2, 3.3.4), by CAP.S64A.
abbrev pub upper_access : AddressWidth → AccessType
upper_access widths.Bits32 = ReadOnly
upper_access widths.Bits64 = ReadWrite

abbrev pub upper_rows : AddressWidth → List OffsetRow
upper_rows width =
    bits_at 0x104 0xffffffff (upper_access width) ∷ bits_at 0x10c 0xffffffff (upper_access width)
    ∷ []

-- PxCMD (3.3.7): DLAE, ATAPI, CR, FR, CCS, FRE, CLO, POD and SUD, ST.
abbrev pub command_rows : List OffsetRow
command_rows =
    bits_at 0x118 0x02000000 ReadWrite ∷ bits_at 0x118 0x01000000 ReadWrite
    ∷ bits_at 0x118 0x8000 Follows ∷ bits_at 0x118 0x4000 Follows ∷ bits_at 0x118 0x1f00 Follows
    ∷ bits_at 0x118 0x10 ReadWrite ∷ bits_at 0x118 0x8 Acts ∷ bits_at 0x118 0x6 ReadOnly
    ∷ bits_at 0x118 0x1 ReadWrite ∷ bits_at 0x118 0xfcff20e0 Reserved ∷ []

-- PxTFD, PxSIG, PxSSTS (3.3.8 to 3.3.10); PxSCTL with IPM, SPD and DET (3.3.11); PxSERR.DIAG.X and N
-- (3.3.12); PxSACT, PxCI (3.3.13, 3.3.14).
abbrev pub state_rows : List OffsetRow
state_rows =
    bits_at 0x120 0xffffffff ReadOnly
    ∷ bits_at 0x124 0xffffffff ReadOnly
    ∷ bits_at 0x128 0xffffffff ReadOnly
    ∷ bits_at 0x12c 0xfff ReadWrite ∷ bits_at 0x12c 0xfffff000 Reserved
    ∷ bits_at 0x130 0x04000000 OneClears ∷ bits_at 0x130 0x00010000 OneClears
    ∷ bits_at 0x130 0xfbfeffff Reserved
    ∷ bits_at 0x134 0xffffffff OneSets
    ∷ bits_at 0x138 0xffffffff OneSets ∷ []

-- The fields have no bits but those of their registers: PxIS those that are raised, CCS one of the slots.
pub record HasOwnBits (regs : Registers) : Type 0 where
  pub raised : bit_and regs.port.interrupts 0x827fffd0 ≡ 0
  pub slot : regs.current < slot_count

-- A written GHC.HR resets the HBA (3.1.2), and IS.IPS is set again while PxIS asks (3.1.3).
abbrev pub resets_hba : ℕ → ℕ → Bool
resets_hba offset value = offset == 0x04 && has_bits value reset_bit

abbrev pub acts_beside : Registers → ℕ → ℕ → Bool
acts_beside regs offset value = resets_hba offset value || offset == 0x08 && asks regs

-- Whatever the registers are, a write makes of each bit of its register what the bit's type says.
abbrev pub RowIsSo : Registers → ℕ → OffsetRow → Type 0
RowIsSo regs value r =
    acts_beside regs r.offset value ≡ false
    → ReadsSo r.access regs.port.running r.bits value (word_at regs r.offset)
    (word_at (written_at regs r.offset value) r.offset)

abbrev pub RowsLaw : List OffsetRow → Type 0
RowsLaw rows =
    (regs : Registers) (value : ℕ) → HasOwnBits regs → value < 2 ^ 32
    → AllByRecursion (RowIsSo regs value) rows

-- And so of those whose type an HBA's addresses decide.
abbrev pub UpperRowsLaw : Type 0
UpperRowsLaw =
    (regs : Registers) (value : ℕ) → value < 2 ^ 32
    → AllByRecursion (RowIsSo regs value) (upper_rows regs.width)

-- The register of the port at an offset.
abbrev pub stands_at : ℕ → Option Register
stands_at offset = if nat_le port_at offset then register_at (offset - port_at) else None

-- A written register of the port, and another that it reaches: itself; PxCMD the tags, by ST, and
-- PxTFD, by CLO (3.3.7); PxSCTL what tells the link, and PxSERR its bits of PxIS (3.3.5, 3.3.8 to 3.3.12).
abbrev pub reaches_register : ℕ → ℕ → Bool
reaches_register written read =
    written == read
    || written == 0x18 && (read == 0x20 || (read == 0x34 || read == 0x38))
    || written == 0x2c
    && (read == 0x10 || (read == 0x20 || (read == 0x24 || (read == 0x28 || read == 0x30))))
    || written == 0x30 && read == 0x10

abbrev pub reaches_from : Register → Option Register → Bool
reaches_from written None = false
reaches_from written (Some read) = reaches_register (register_offset written) (register_offset read)

abbrev pub reaches_of : Option Register → Option Register → Bool
reaches_of None read = false
reaches_of (Some written) read = reaches_from written read

-- A write at an offset, and what reads at another. Each write can set IS.IPS (3.1.3); where no register
-- stands, it reaches nothing else.
abbrev pub reaches_at : ℕ → ℕ → Bool
reaches_at offset at =
    reaches_of (stands_at offset) (stands_at at)
    || not (nat_le port_at at) && (at == 0x08 || offset == at)

-- What a write does not reach stays.
abbrev pub UnreachedRegistersLaw : Type 0
UnreachedRegistersLaw =
    (regs : Registers) (offset value at : ℕ) → resets_hba offset value ≡ false
    → StaysUnless (reaches_at offset at) (word_at regs at)
    (word_at (written_at regs offset value) at)

-- What follows: CR reads as ST, FR as FRE (3.3.7), PCS as DIAG.X, PRCS as DIAG.N (3.3.5).
pub record FollowsSo (regs : Registers) : Type 0 where
  pub runs : has_bits (word_at regs 0x118) running_bit ≡ has_bits (word_at regs 0x118) start_bit
  pub receives : has_bits (word_at regs 0x118) receiving_bit
      ≡ has_bits (word_at regs 0x118) receive_bit
  pub exchanged : has_bits (word_at regs 0x110) change_bit
      ≡ has_bits (word_at regs 0x130) exchange_bit
  pub changed : has_bits (word_at regs 0x110) phy_change_bit
      ≡ has_bits (word_at regs 0x130) phy_error_bit

abbrev pub FollowedLaw : Type 0
FollowedLaw = (regs : Registers) → HasOwnBits regs → FollowsSo regs

-- A written ST: 0 clears PxSACT, PxCI and CCS, and 1 leaves them (3.3.7, 3.3.13, 3.3.14).
pub record StartsSo (regs : Registers) (value : ℕ) : Type 0 where
  pub active : word_at (written_at regs 0x118 value) 0x134 ≡ ends_list value (word_at regs 0x134)
  pub issued : word_at (written_at regs 0x118 value) 0x138 ≡ ends_list value (word_at regs 0x138)
  pub slot : bit_and (word_at (written_at regs 0x118 value) 0x118) 0x1f00
      ≡ ends_list value (bit_and (word_at regs 0x118) 0x1f00)

abbrev pub WrittenStartLaw : Type 0
WrittenStartLaw = (regs : Registers) (value : ℕ) → HasOwnBits regs → StartsSo regs value
