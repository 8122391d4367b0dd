use Rattle.std.proofs.Common.{◌≡◌}
use Rattle.trusted_cmds.specs.Trims.{extents_of}
use Rattle.trusted_cmds.proofs.trim.extents_in.Given as goal

abbrev pub invariant-loop-n : goal.invariant-loop-n
invariant-loop-n l = l.extents.items ≡ extents_of l.payload l.n
