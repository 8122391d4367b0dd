use Rattle.std.proofs.Common.{◌≡◌, length}
use Rattle.sp_tables.specs.Factory.{IsFamily}
use Rattle.sp_tables.proofs.sp_rows.entries.rows_of.Given as goal

abbrev pub invariant-loop-i : goal.invariant-loop-i
invariant-loop-i g l = record { len : length l.rows.items ≡ l.i; family : IsFamily g.R.Row.held (g.F.Numbered.base l.family) (g.F.Numbered.values l.family) l.i l.rows.items }
