use Rattle.std.proofs.Common.{◌≡◌, ◌++◌, drop}
use Rattle.std.specs.Prelude.{map}
use Rattle.drive.specs.Trims.{erasure_of}
use Rattle.drive.proofs.trimming.erasures_of.Given as goal

abbrev pub invariant-loop-extent : goal.invariant-loop-extent
invariant-loop-extent l = l.erasures.items ++ map erasure_of (drop l.extent-index l.extents) ≡ map erasure_of l.fn.extents
