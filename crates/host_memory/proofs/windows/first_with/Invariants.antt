use Rattle.std.proofs.Common.{take}
use Rattle.host_memory.specs.Windows.{NoWindowHas}
use Rattle.host_memory.proofs.windows.first_with.Given as goal

abbrev pub invariant-loop-place : goal.invariant-loop-place
invariant-loop-place l = NoWindowHas l.at l.len (take l.place l.windows)
