use Rattle.std.proofs.Common.{◌≡◌, None, take}
use Rattle.sp_tables.specs.Items.{column_at}
use Rattle.sp_tables.proofs.sp_rows.constants.swap_among.Given as goal

-- none before this one is of the column
abbrev pub invariant-loop-i : goal.invariant-loop-i
invariant-loop-i l = record {
  same : l.cells.items ≡ l.fn.cells.items;
  before : column_at (take l.i l.fn.cells.items) l.column ≡ None;
  cell : l.cell ≡ l.fn.cell;
}
