use Rattle.std.proofs.Common.{◌≡◌, drop}
use Rattle.history.specs.Opening.{origin_after, origin_with}
use Rattle.drive.proofs.drive.Drive.with_ranges.Given as goal

abbrev pub invariant-loop-row : goal.invariant-loop-row
invariant-loop-row l = origin_after (drop l.row-index l.rows) l.opening ≡ origin_with l.fn.config l.rows
