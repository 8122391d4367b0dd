use Rattle.std.proofs.Common.{◌≡◌, ℕ, ◌<◌, ◌≤◌, true}
use Rattle.std.specs.Prelude.{is_some}
use Rattle.shadow_mbr.specs.Places.{place_at}
use Rattle.shadow_mbr.proofs.places.Finder.has_all.Given as goal

abbrev pub invariant-loop-sector : goal.invariant-loop-sector
invariant-loop-sector l = record {
  same : l.self ≡ l.initial.self;
  all : (s : ℕ) → l.first ≤ s → s < l.sector → is_some (place_at l.initial.self s) ≡ true;
}
