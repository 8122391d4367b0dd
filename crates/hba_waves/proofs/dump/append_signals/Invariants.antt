use Rattle.std.proofs.Common.{◌≡◌, ◌++◌}
use Rattle.hba_waves.specs.Dumps.{signals_to}
use Rattle.hba_waves.proofs.dump.append_signals.Given as goal

abbrev pub invariant-loop-place : goal.invariant-loop-place
invariant-loop-place l = l.text.items ≡ l.fn.text.items ++ signals_to l.place
