use Rattle.std.proofs.Common.{◌≡◌, map, take}
use Rattle.sp_tables.proofs.sp_rows.exchange.new_cells.Given as goal

abbrev pub invariant-loop-cell : goal.invariant-loop-cell
invariant-loop-cell l = l.cells.items ≡ map (λ p. p.1) (take l.cell-index l.changes)
