use Rattle.std.proofs.Common.{take, nat_cmp}
use Rattle.std.specs.List.Sorted.{IsStrictlySortedBy}
use Rattle.std.specs.Map.{keys_of}
use Rattle.shadow_mbr.specs.Places.{AddsPlaces}
use Rattle.shadow_mbr.proofs.kept.place_all.Given as goal

abbrev pub invariant-loop-i : goal.invariant-loop-i
invariant-loop-i l = record {
  sorted : IsStrictlySortedBy nat_cmp (keys_of l.places);
  adds : AddsPlaces l.fn.places l.places (take l.i l.sectors) l.from;
}
