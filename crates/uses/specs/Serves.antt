-- What a verdict comes to.
use Rattle.std.specs.Prelude.{Bool, true, false}
use Rattle.locking.specs.declared.ranges.Verdict.{Verdict}
use Rattle.locking.specs.declared.ranges.Verdict.TheVariants.{Serve, Shadow, Denied}

-- whether the transfer is served, by its own bytes or by the shadow's
abbrev pub serves : Verdict → Bool
serves Serve = true
serves Shadow = true
serves (Denied why) = false
