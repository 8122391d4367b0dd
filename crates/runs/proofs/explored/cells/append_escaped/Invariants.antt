use Rattle.std.proofs.Common.{◌≡◌, ◌++◌, drop}
use Rattle.std.specs.List.{flat_map}
use Rattle.runs.specs.Rows.{escaped_for_cell, escaped_text}
use Rattle.runs.proofs.explored.cells.append_escaped.Given as goal

abbrev pub invariant-loop-byte : goal.invariant-loop-byte
invariant-loop-byte l = l.text.items ++ flat_map escaped_for_cell (drop l.byte-index l.bytes) ≡ l.fn.text.items ++ escaped_text l.bytes
