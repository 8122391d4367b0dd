-- What accesses make of a window, and what they leave.
use Rattle.std.specs.Prelude.{◌≡◌, ℕ, ◌-◌, List, [], ◌∷◌, if◌then◌else◌}
use Rattle.host_memory.specs.declared.window.Window.{Window}
use Rattle.host_memory.specs.declared.width.AddressWidth.{AddressWidth}
use Rattle.host_memory.specs.Access.{Access, Asked, Laid, IsAccess, Accessed, AreReads}
use Rattle.host_memory.specs.Window.{overlaid, StandsSo}

-- A window stays where it is; its bytes answer.
abbrev pub WindowDoes : Window → Access → Window → Type 0
WindowDoes old access new =
    (new.base ≡ old.base) × (new.bytes.ghost_name ≡ old.bytes.ghost_name)
    × StandsSo old.base old.bytes.now access new.bytes.now

-- Bytes after the writes that were done, in their order.
abbrev pub all_written : ℕ → List Access → List ℕ → List ℕ
all_written base [] bytes = bytes
all_written base (Asked at n answer ∷ later) bytes = all_written base later bytes
all_written base (Laid at others is_done ∷ later) bytes =
    all_written base later (if is_done then overlaid bytes (at - base) others else bytes)

-- A window's bytes are the old ones with exactly the writes that were done.
abbrev pub WrittenLaw : Type 0
WrittenLaw =
    (width : AddressWidth) (old new : Window) (talk : List Access)
    → Accessed (IsAccess width WindowDoes) old talk new
    → new.bytes.now ≡ all_written old.base talk old.bytes.now

-- Reads leave all as it is.
abbrev pub ReadLaw : Type 0
ReadLaw =
    (width : AddressWidth) (old new : Window) (talk : List Access) → AreReads talk
    → Accessed (IsAccess width WindowDoes) old talk new
    → new.bytes.now ≡ old.bytes.now
