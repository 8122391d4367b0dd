use Rattle.std.proofs.Common.{◌≡◌, take, map}
use Rattle.tcg_tokens.specs.Tree.{tree}
use Rattle.tcg_calls.specs.CellValues.{element_tree}
use Rattle.tcg_calls.proofs.call_shapes.cell_values.element_values.Given as goal

abbrev pub invariant-loop-element : goal.invariant-loop-element
invariant-loop-element l = map tree l.values.items ≡ map element_tree (take l.element-index l.elements)
