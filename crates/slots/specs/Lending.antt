-- A part of the memory, lent for a while.
use Rattle.std.specs.Prelude.{ℕ, List, take}
use Rattle.std.specs.Borrow.{Lends, MutBor, Fml, Array, u8}
use Rattle.slots.specs.contracts.memory.PortMemory.{the_row}
use Rattle.slots.specs.Layout.{memory_size, memory_with}

-- The memory with these bytes in place of those from a place on. A memory keeps its size.
abbrev pub with_part : List ℕ → ℕ → List ℕ → List ℕ
with_part memory at bytes = take memory_size (memory_with memory at bytes)

-- The memory ends with the last bytes behind the reference in place of those from a place on.
abbrev pub LendsPart : MutBor (List ℕ) → ℕ → MutBor (List ℕ) → Fml
LendsPart memory at lent = Lends the_row (Array u8 0) memory lent (with_part memory.now at)
