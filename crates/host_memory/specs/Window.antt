-- A memory of bytes that stand at a base address.
use Rattle.std.specs.Prelude.{◌≡◌, ℕ, ◌+◌, ◌-◌, ◌&&◌, nat_le, Bool, List, ◌++◌, length, take, drop, slice_range, Option, Some, None, if◌then◌else◌}
use Rattle.host_memory.specs.Access.{Access, Asked, Laid}

-- So many bytes at an address stand among the window's.
abbrev pub is_held : ℕ → List ℕ → ℕ → ℕ → Bool
is_held base bytes at n = nat_le base at && nat_le (at + n) (base + length bytes)

-- What a read of so many bytes at an address gives.
abbrev pub bytes_held_at : ℕ → List ℕ → ℕ → ℕ → Option (List ℕ)
bytes_held_at base bytes at n =
    if is_held base bytes at n then Some (slice_range bytes (at - base) (at - base + n)) else None

-- Bytes with others in their place, from a place on.
abbrev pub overlaid : List ℕ → ℕ → List ℕ → List ℕ
overlaid bytes place others = take place bytes ++ others ++ drop (place + length others) bytes

-- The window's bytes after a write at an address: all or nothing.
abbrev pub bytes_laid : ℕ → List ℕ → ℕ → List ℕ → List ℕ
bytes_laid base bytes at others =
    if is_held base bytes at (length others) then overlaid bytes (at - base) others else bytes

-- Bytes at a base address, before and after an access.
abbrev pub StandsSo : ℕ → List ℕ → Access → List ℕ → Type 0
StandsSo base old (Asked at n answer) new = (answer ≡ bytes_held_at base old at n) × (new ≡ old)
StandsSo base old (Laid at bytes is_done) new =
    (is_done ≡ is_held base old at (length bytes)) × (new ≡ bytes_laid base old at bytes)
