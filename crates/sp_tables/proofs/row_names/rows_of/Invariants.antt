use Rattle.std.proofs.Common.{◌≡◌, take}
use Rattle.std.specs.List.{flat_map}
use Rattle.sp_tables.specs.RowNames.{uids_in}
use Rattle.sp_tables.proofs.row_names.rows_of.Given as goal

abbrev pub invariant-loop-rows : goal.invariant-loop-rows
invariant-loop-rows l = l.names.items ≡ flat_map uids_in (take l.rows-index l.rows-items)
