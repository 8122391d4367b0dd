use Rattle.std.proofs.Common.{◌≡◌, map, drop}
use Rattle.sp_tables.specs.RowNames.{listed_table, rows_among, rows_of_table}
use Rattle.sp_tables.proofs.row_names.names_of.Given as goal

-- the rest answers as the whole does
abbrev pub invariant-loop-rows : goal.invariant-loop-rows
invariant-loop-rows l = rows_among (map listed_table (drop l.rows-index l.rows-items)) l.table ≡ rows_of_table l.fn.sp l.table
