use Rattle.std.proofs.Common.{◌≡◌, take}
use Rattle.circular_buffer.specs.Buffer.{buffer}
use Rattle.port.specs.Live.{most_lines}
use Rattle.port.proofs.live.copy_lines.Given as goal

abbrev pub invariant-loop-at : goal.invariant-loop-at
invariant-loop-at l = l.copies ≡ buffer (take l.at l.lines.items) most_lines
