use Rattle.std.proofs.Common.{◌≡◌, take, map}
use Rattle.tcg_tokens.specs.Tree.{tree, number}
use Rattle.tcg_calls.proofs.call_shapes.cell_values.number_values.Given as goal

abbrev pub invariant-loop-number : goal.invariant-loop-number
invariant-loop-number l = map tree l.values.items ≡ map number (take l.number-index l.numbers)
