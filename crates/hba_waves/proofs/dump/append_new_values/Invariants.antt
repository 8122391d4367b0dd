use Rattle.std.proofs.Common.{◌≡◌, ◌++◌}
use Rattle.hba_waves.specs.Dumps.{new_values_to}
use Rattle.hba_waves.proofs.dump.append_new_values.Given as goal

abbrev pub invariant-loop-place : goal.invariant-loop-place
invariant-loop-place l = l.text.items ≡ l.fn.text.items ++ new_values_to l.before l.look l.place
