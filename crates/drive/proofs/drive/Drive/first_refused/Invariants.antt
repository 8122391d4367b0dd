use Rattle.std.proofs.Common.{◌≡◌, true, drop}
use Rattle.std.specs.List.{list_all}
use Rattle.drive.specs.Trims.{has_some, first_refused}
use Rattle.drive.proofs.drive.Drive.first_refused.Given as goal

abbrev pub invariant-loop-extent : goal.invariant-loop-extent
invariant-loop-extent l = record {
  first : first_refused l.self (drop l.extent-index l.extents) ≡ first_refused l.self l.extents;
  some : list_all has_some (drop l.extent-index l.extents) ≡ true;
}
