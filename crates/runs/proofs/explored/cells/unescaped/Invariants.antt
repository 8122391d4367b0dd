use Rattle.std.proofs.Common.{◌≡◌, ◌++◌, false, drop}
use Rattle.runs.specs.Rows.{unescaped}
use Rattle.runs.proofs.explored.cells.unescaped.Given as goal

abbrev pub invariant-loop-byte : goal.invariant-loop-byte
invariant-loop-byte l = l.text.items ++ unescaped l.behind (drop l.byte-index l.bytes) ≡ unescaped false l.bytes
