use Rattle.std.proofs.Common.{◌≡◌, take}
use Rattle.sp_tables.specs.Entries.{constant_cells}
use Rattle.sp_tables.proofs.sp_rows.constants.constant_row.Given as goal

abbrev pub invariant-loop-column : goal.invariant-loop-column
invariant-loop-column l = l.cells.items ≡ constant_cells (take l.column-index l.values)
