use Rattle.std.proofs.Common.{◌≡◌, ◌≤◌, length, drop, map}
use Rattle.tcg_tokens.specs.Tree.{tree}
use Rattle.tcg_calls.specs.CellValues.{each_of, element_in}
use Rattle.tcg_calls.proofs.call_shapes.CellLemmas.{each_behind}
use Rattle.tcg_calls.proofs.call_shapes.cell_values.elements_in.Given as goal

abbrev pub invariant-loop-value : goal.invariant-loop-value
invariant-loop-value l = (each_behind element_in l.elements.items (map tree (drop l.value-index l.values)) ≡ each_of element_in (map tree l.values))
    × (length l.elements.items ≤ l.value-index)
