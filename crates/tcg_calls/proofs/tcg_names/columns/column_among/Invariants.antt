use Rattle.std.proofs.Common.{◌≡◌, drop}
use Rattle.tcg_calls.specs.Columns.{column_in, column_pairs}
use Rattle.tcg_calls.proofs.tcg_names.columns.column_among.Given as goal

abbrev pub invariant-loop-named : goal.invariant-loop-named
invariant-loop-named l = column_in (column_pairs l.columns) l.name ≡ column_in (column_pairs (drop l.named-index l.columns)) l.name
