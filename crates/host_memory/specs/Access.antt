-- What a controller asks of the host's memory, and what it is answered. Addresses are below 4 GiB, or
-- have 64 bits (AHCI 1.3.1, 3.1.1: CAP.S64A).
use Rattle.std.specs.Prelude.{◌≡◌, ℕ, ◌+◌, Bool, true, false, not, nat_le, List, [], ◌∷◌, length, Option, Some, None, is_some}
use Rattle.host_memory.specs.declared.width.AddressWidth.{AddressWidth}
use Rattle.host_memory.specs.declared.width.AddressWidth.TheVariants as widths

-- So many bytes are read at an address: the answer is their values, or that one of them is no memory.
-- Bytes are written: they now stand there, or one of them would be no memory, and nothing is written.
pub data Access : Type 0 where
  Asked : (at n : ℕ) (answer : Option (List ℕ)) → Access
  Laid : (at : ℕ) (bytes : List ℕ) (is_done : Bool) → Access

-- The first address that no byte has, in any memory: the sum of an address and a length has 64 bits.
abbrev pub memory_end : ℕ
memory_end = 0xffffffffffffffff

-- The first address that no byte has, by how many bits an address has.
abbrev pub address_end : AddressWidth → ℕ
address_end widths.Bits32 = 0x100000000
address_end widths.Bits64 = memory_end

-- How many bits an address has, by CAP.S64A.
abbrev pub width_by : Bool → AddressWidth
width_by false = widths.Bits32
width_by true = widths.Bits64

-- The address behind the bytes of an access.
abbrev pub access_end : Access → ℕ
access_end (Asked at n answer) = at + n
access_end (Laid at bytes is_done) = at + length bytes

abbrev pub is_refused : Access → Bool
is_refused (Asked at n answer) = not (is_some answer)
is_refused (Laid at bytes is_done) = not is_done

-- What a read gives, by whether the bytes were there.
abbrev pub read_answer : Bool → List ℕ → Option (List ℕ)
read_answer true bytes = Some bytes
read_answer false bytes = None

abbrev pub IsAccessIf : {M : Type 0} → Bool → (M → Access → M → Type 0) → M → Access → M
    → Type 0
IsAccessIf true does old access new = does old access new
IsAccessIf false does old access new = (is_refused access ≡ true) × (new ≡ old)

-- An access, by what a memory does: what would end past the last address is refused, and the memory is
-- not asked.
abbrev pub IsAccess : {M : Type 0} → AddressWidth → (M → Access → M → Type 0) → M → Access → M
    → Type 0
IsAccess width does old access new =
    IsAccessIf (nat_le (access_end access) (address_end width)) does old access new

-- Accesses, one after the other.
abbrev pub Accessed : {M : Type 0} → (M → Access → M → Type 0) → M → List Access → M → Type 0
Accessed does old [] new = new ≡ old
Accessed {M} does old (access ∷ later) new =
    (middle : M) × does old access middle × Accessed does middle later new

-- Nothing is written.
abbrev pub AreReads : List Access → Type 0
AreReads [] = Unit {0}
AreReads (Asked at n answer ∷ later) = AreReads later
AreReads (Laid at bytes is_done ∷ later) = ⊥

-- At most reads came between a memory and another.
abbrev pub OnlyReads : {M : Type 0} → (M → Access → M → Type 0) → M → M → Type 0
OnlyReads does old new = (talk : List Access) × AreReads talk × Accessed does old talk new
