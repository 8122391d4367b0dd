use Rattle.std.proofs.Common.{◌≡◌, ◌-◌, ◌++◌}
use Rattle.drawing.specs.Dumps.{binary}
use Rattle.drawing.proofs.waveform.text.append_binary.Given as goal

abbrev pub invariant-loop-passed : goal.invariant-loop-passed
invariant-loop-passed l =
    l.fn.text.items ++ binary l.bits l.value ≡ l.text.items ++ binary (l.bits - l.passed) l.value
