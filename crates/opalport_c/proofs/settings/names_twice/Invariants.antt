use Rattle.std.proofs.Common.{◌≡◌, drop}
use Rattle.opalport_c.specs.Asked.{names_twice}
use Rattle.opalport_c.proofs.settings.names_twice.Given as goal

abbrev pub invariant-loop-place : goal.invariant-loop-place
invariant-loop-place l = names_twice l.cells ≡ names_twice (drop l.place l.cells)
