use Rattle.std.proofs.Common.{◌≡◌, ℕ, take, nat_eq, nat_cmp, None}
use Rattle.std.specs.Prelude.{if◌then◌else◌}
use Rattle.std.specs.List.{list_any}
use Rattle.std.specs.List.Sorted.{IsStrictlySortedBy}
use Rattle.std.specs.Map.{keys_of}
use Rattle.shadow_mbr.specs.Places.{place_at}
use Rattle.shadow_mbr.proofs.kept.remove_all.Given as goal

abbrev pub invariant-loop-sector : goal.invariant-loop-sector
invariant-loop-sector l = record {
  removed : (s : ℕ) → place_at l.places s ≡ (if list_any (nat_eq s) (take l.sector-index l.sectors) then None else place_at l.fn.places s);
  sorted : IsStrictlySortedBy nat_cmp (keys_of l.fn.places) → IsStrictlySortedBy nat_cmp (keys_of l.places);
}
