use Rattle.std.proofs.Common.{◌≡◌, ◌++◌}
use Rattle.hba_waves.specs.Dumps.{first_values_to}
use Rattle.hba_waves.proofs.dump.append_first_values.Given as goal

abbrev pub invariant-loop-place : goal.invariant-loop-place
invariant-loop-place l = l.text.items ≡ l.fn.text.items ++ first_values_to l.look l.place
