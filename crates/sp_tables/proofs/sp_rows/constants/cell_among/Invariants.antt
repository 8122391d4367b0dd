use Rattle.std.proofs.Common.{◌≡◌, drop}
use Rattle.sp_tables.specs.Items.{column_at}
use Rattle.sp_tables.proofs.sp_rows.constants.cell_among.Given as goal

-- the rest answers as the whole does
abbrev pub invariant-loop-held : goal.invariant-loop-held
invariant-loop-held l = column_at (drop l.held-index l.cells) l.column ≡ column_at l.cells l.column
