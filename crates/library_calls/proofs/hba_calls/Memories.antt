-- A window, and regions of one, as memories whose bytes answer.
use Rattle.std.proofs.Common.{◌≡◌, ℕ, Bool, true, false, List, ap, ◌∙◌}
use Rattle.std.specs.Borrow.{GName}
use Rattle.host_memory.specs.Access.{Access, Asked, IsAccessIf}
use Rattle.host_memory.specs.Window.{StandsSo}
use Rattle.host_memory.specs.WindowLaws.{WindowDoes}
use Rattle.host_memory.specs.declared.window.Window.{Window}
use Rattle.library_calls.specs.Regions.{RegionsDo, StandsWithin, is_in_regions}
use Rattle.library_calls.specs.declared.hba_calls.regions.Region.{Region}
use Rattle.library_calls.specs.declared.hba_calls.regions.Regions.{Regions}
use Rattle.library_calls.proofs.hba_calls.Bytes.{Byted, Kept}

abbrev with_last : {A B : Type 0} → B → A → A × B
with_last b a = (a, b)

abbrev with_first : {A B : Type 0} → A → B → A × B
with_first a b = (a, b)

pair : {A B : Type 0} {a c : A} {b d : B} → a ≡ c → b ≡ d → with_first a b ≡ with_first c d
pair {A} {B} {a} {c} {b} {d} e f = ap (with_last b) e ∙ ap (with_first c) f

-- Of a window its address stays, and where its bytes are.
abbrev pub window_key : Window → ℕ × GName
window_key w = (w.base, w.bytes.ghost_name)

abbrev pub window_bytes : Window → List ℕ
window_bytes w = w.bytes.now

abbrev pub window_stands : ℕ × GName → List ℕ → Access → List ℕ → Type 0
window_stands key = StandsSo key.0

pub window_by : Byted window_key window_bytes WindowDoes window_stands
window_by old new access (base, name, stands) = (pair base name, stands)

pub window_kept : Kept window_stands
window_kept key b c at n answer (told, same) = same

-- And of regions which they are.
abbrev pub regions_key : Regions → (ℕ × GName) × List Region
regions_key r = ((r.base, r.bytes.ghost_name), r.regions.now)

abbrev pub regions_bytes : Regions → List ℕ
regions_bytes r = r.bytes.now

abbrev pub regions_stand : (ℕ × GName) × List Region → List ℕ → Access → List ℕ → Type 0
regions_stand key = StandsWithin key.1 key.0.0

pub regions_by : Byted regions_key regions_bytes RegionsDo regions_stand
regions_by old new access (base, name, regions, stands) = (pair (pair base name) regions, stands)

pub regions_kept : Kept regions_stand
regions_kept key b c at n answer stands = within (is_in_regions key.1 (Asked at n answer)) stands
  where
    within : (held : Bool) → IsAccessIf held (StandsSo key.0.0) b (Asked at n answer) c → c ≡ b
    within true (told, same) = same
    within false (refused, same) = same
