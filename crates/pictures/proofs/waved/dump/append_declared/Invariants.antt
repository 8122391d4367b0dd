use Rattle.std.proofs.Common.{◌≡◌, ◌++◌}
use Rattle.pictures.specs.Dumps.{declared_to}
use Rattle.pictures.proofs.waved.dump.append_declared.Given as goal

abbrev pub invariant-loop-place : goal.invariant-loop-place
invariant-loop-place l = l.text.items ≡ l.fn.text.items ++ declared_to l.place
