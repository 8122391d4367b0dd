use Rattle.std.proofs.Common.{◌≡◌, ◌++◌}
use Rattle.sp_tables.specs.RowNames.{numbered_uids, family_name}
use Rattle.sp_tables.proofs.row_names.push_numbered.Given as goal

abbrev pub invariant-loop-i : goal.invariant-loop-i
invariant-loop-i l = l.names.items ≡ l.fn.names.items ++ numbered_uids (family_name l.family) l.first l.i
