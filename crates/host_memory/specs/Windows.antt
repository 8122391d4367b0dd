-- A memory of several windows: the first that has all bytes of an access answers it, and the others stay.
use Rattle.std.specs.Prelude.{◌≡◌, ℕ, zero, suc, Bool, true, false, List, [], ◌∷◌, length}
use Rattle.host_memory.specs.declared.window.Window.{Window}
use Rattle.host_memory.specs.declared.windows.Windows.{Windows}
use Rattle.host_memory.specs.declared.width.AddressWidth.{AddressWidth}
use Rattle.host_memory.specs.Access.{Access, Asked, Laid, IsAccess, Accessed, AreReads, is_refused}
use Rattle.host_memory.specs.Window.{is_held, StandsSo}
use Rattle.host_memory.specs.WindowLaws.{WindowDoes}

-- A window has so many bytes at an address.
abbrev pub window_has : ℕ → ℕ → Window → Bool
window_has at n w = is_held w.base w.bytes.now at n

-- No window has them.
abbrev pub NoWindowHas : ℕ → ℕ → List Window → Type 0
NoWindowHas at n [] = Unit {0}
NoWindowHas at n (w ∷ later) = (window_has at n w ≡ false) × NoWindowHas at n later

-- The first that has them is the one at a place.
abbrev pub IsFirst : ℕ → ℕ → List Window → ℕ → Type 0
IsFirst at n [] place = ⊥
IsFirst at n (w ∷ later) zero = window_has at n w ≡ true
IsFirst at n (w ∷ later) (suc place) = (window_has at n w ≡ false) × IsFirst at n later place

-- The bytes of an access, and where they stand.
abbrev pub place_of_access : Access → ℕ
place_of_access (Asked at n answer) = at
place_of_access (Laid at bytes is_done) = at

abbrev pub size_of_access : Access → ℕ
size_of_access (Asked at n answer) = n
size_of_access (Laid at bytes is_done) = length bytes

abbrev pub has_all : Access → Window → Bool
has_all access w = window_has (place_of_access access) (size_of_access access) w

-- By whether the first window has them all.
abbrev pub AnswersIf : Bool → Window → Access → Window → List Window → List Window → Type 0
    → Type 0
AnswersIf true w access v later others Rest = WindowDoes w access v × (others ≡ later)
AnswersIf false w access v later others Rest = (v ≡ w) × Rest

abbrev pub WindowsStand : List Window → Access → List Window → Type 0
WindowsStand [] access new = (new ≡ []) × (is_refused access ≡ true)
WindowsStand (w ∷ later) access [] = ⊥
WindowsStand (w ∷ later) access (v ∷ others) =
    AnswersIf (has_all access w) w access v later others (WindowsStand later access others)

-- The windows stay where they are.
abbrev pub WindowsDo : Windows → Access → Windows → Type 0
WindowsDo old access new =
    (new.windows.ghost_name ≡ old.windows.ghost_name)
    × WindowsStand old.windows.now access new.windows.now

-- Reads leave the bytes of all windows as they are.
abbrev pub all_bytes : List Window → List (List ℕ)
all_bytes [] = []
all_bytes (w ∷ later) = w.bytes.now ∷ all_bytes later

abbrev pub WindowsReadLaw : Type 0
WindowsReadLaw =
    (width : AddressWidth) (old new : Windows) (talk : List Access) → AreReads talk
    → Accessed (IsAccess width WindowsDo) old talk new
    → all_bytes new.windows.now ≡ all_bytes old.windows.now

-- One window alone does as it does by itself.
abbrev pub OneWindowLaw : Type 0
OneWindowLaw =
    (w v : Window) (access : Access) → WindowsStand (w ∷ []) access (v ∷ [])
    → StandsSo w.base w.bytes.now access v.bytes.now

-- A write changes one window at most: all that do not have its bytes are as before.
abbrev pub StaysUnlessHeld : List Window → Access → List Window → Type 0
StaysUnlessHeld [] access new = new ≡ []
StaysUnlessHeld (w ∷ later) access [] = ⊥
StaysUnlessHeld (w ∷ later) access (v ∷ others) =
    (has_all access w ≡ false → v ≡ w) × StaysUnlessHeld later access others

abbrev pub OthersLaw : Type 0
OthersLaw =
    (old : List Window) (access : Access) (new : List Window) → WindowsStand old access new
    → StaysUnlessHeld old access new
