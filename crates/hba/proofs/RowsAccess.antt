-- Worked rows of the access types, computed from the table alone.
use Rattle.std.proofs.Common.{◌≡◌, ℕ, true, false, List, [], ◌∷◌, ◌++◌, refl}
use Rattle.std.specs.Prelude.{◌+◌, ◌==◌, Bool, bit_or, if◌then◌else◌}
use Rattle.host_memory.specs.declared.width.AddressWidth.TheVariants as widths
use Rattle.hba.specs.AccessTypes.{OffsetRow, upper_rows, generic_rows, place_rows, command_rows, state_rows, reaches_at}

-- The rows of a register have each of its 32 bits, and each once.
abbrev rows : List OffsetRow
rows = generic_rows ++ place_rows ++ upper_rows widths.Bits64 ++ command_rows ++ state_rows

abbrev sum_at : ℕ → List OffsetRow → ℕ
sum_at offset [] = 0
sum_at offset (r ∷ later) = (if r.offset == offset then r.bits else 0) + sum_at offset later

abbrev union_at : ℕ → List OffsetRow → ℕ
union_at offset [] = 0
union_at offset (r ∷ later) = bit_or (if r.offset == offset then r.bits else 0) (union_at offset later)

abbrev all_at : (ℕ → ℕ) → List ℕ → List ℕ
all_at f [] = []
all_at f (offset ∷ later) = f offset ∷ all_at f later

abbrev registers : List ℕ
registers =
    0x000 ∷ 0x004 ∷ 0x008 ∷ 0x00c ∷ 0x010 ∷ 0x100 ∷ 0x104 ∷ 0x108 ∷ 0x10c ∷ 0x110 ∷ 0x114 ∷ 0x118 ∷ 0x120 ∷ 0x124
    ∷ 0x128 ∷ 0x12c ∷ 0x130 ∷ 0x134 ∷ 0x138 ∷ []

each_once : all_at (λ offset. sum_at offset rows) registers ≡ all_at (λ offset. 0xffffffff) registers
each_once = refl

each_there : all_at (λ offset. union_at offset rows) registers ≡ all_at (λ offset. 0xffffffff) registers
each_there = refl

-- What a write at an offset reaches, but IS.
abbrev reached : ℕ → List ℕ → List ℕ
reached offset [] = []
reached offset (at ∷ later) =
    if reaches_at offset at then (if at == 0x008 then reached offset later else at ∷ reached offset later)
    else reached offset later

row_list_base : reached 0x100 registers ≡ 0x100 ∷ []
row_list_base = refl

row_list_upper : reached 0x104 registers ≡ 0x104 ∷ []
row_list_upper = refl

row_interrupts : reached 0x110 registers ≡ 0x110 ∷ []
row_interrupts = refl

row_command : reached 0x118 registers ≡ 0x118 ∷ 0x120 ∷ 0x134 ∷ 0x138 ∷ []
row_command = refl

row_control : reached 0x12c registers ≡ 0x110 ∷ 0x120 ∷ 0x124 ∷ 0x128 ∷ 0x12c ∷ 0x130 ∷ []
row_control = refl

row_errors : reached 0x130 registers ≡ 0x110 ∷ 0x130 ∷ []
row_errors = refl

row_active : reached 0x134 registers ≡ 0x134 ∷ []
row_active = refl

row_issued : reached 0x138 registers ≡ 0x138 ∷ []
row_issued = refl

row_generic : reached 0x004 registers ≡ 0x004 ∷ []
row_generic = refl

-- There is no register at 11Ch and at 13Ch.
row_none : reached 0x11c registers ≡ []
row_none = refl

row_behind : reached 0x13c registers ≡ []
row_behind = refl
