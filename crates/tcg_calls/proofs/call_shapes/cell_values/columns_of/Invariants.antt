use Rattle.std.proofs.Common.{◌≡◌, take, map}
use Rattle.sp_cells.specs.Names.{col}
use Rattle.tcg_calls.proofs.call_shapes.cell_values.columns_of.Given as goal

abbrev pub invariant-loop-number : goal.invariant-loop-number
invariant-loop-number l = l.columns.items ≡ map col (take l.number-index l.numbers)
