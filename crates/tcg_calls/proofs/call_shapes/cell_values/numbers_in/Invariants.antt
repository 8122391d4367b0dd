use Rattle.std.proofs.Common.{◌≡◌, drop, map}
use Rattle.tcg_tokens.specs.Tree.{tree}
use Rattle.tcg_calls.specs.CellValues.{each_of, number_in}
use Rattle.tcg_calls.proofs.call_shapes.CellLemmas.{each_behind}
use Rattle.tcg_calls.proofs.call_shapes.cell_values.numbers_in.Given as goal

abbrev pub invariant-loop-value : goal.invariant-loop-value
invariant-loop-value l = (each_behind number_in l.numbers.items (map tree (drop l.value-index l.values)) ≡ each_of number_in (map tree l.values))
