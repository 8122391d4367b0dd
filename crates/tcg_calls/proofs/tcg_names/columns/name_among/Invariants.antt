use Rattle.std.proofs.Common.{◌≡◌, drop}
use Rattle.tcg_calls.specs.Columns.{column_name_in, column_pairs}
use Rattle.tcg_calls.proofs.tcg_names.columns.name_among.Given as goal

abbrev pub invariant-loop-named : goal.invariant-loop-named
invariant-loop-named l = column_name_in (column_pairs l.columns) l.column ≡ column_name_in (column_pairs (drop l.named-index l.columns)) l.column
