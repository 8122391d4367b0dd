use Rattle.std.proofs.Common.{◌≡◌, drop}
use Rattle.decoded.specs.Fields.{reaches}
use Rattle.decoded.proofs.field.reaches.Given as goal

abbrev pub invariant-loop-place : goal.invariant-loop-place
invariant-loop-place l = reaches l.places l.size ≡ reaches (drop l.place-index l.places) l.size
