use Rattle.std.proofs.Common.{◌≡◌, drop}
use Rattle.std.specs.List.{fold}
use Rattle.runs.specs.Rows.{summed_byte}
use Rattle.runs.proofs.explored.rows.summed_line.Given as goal

abbrev pub invariant-loop-byte : goal.invariant-loop-byte
invariant-loop-byte l = fold summed_byte l.sum (drop l.byte-index l.line) ≡ fold summed_byte l.fn.sum l.line
