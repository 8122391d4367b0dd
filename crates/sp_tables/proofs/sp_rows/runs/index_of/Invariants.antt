use Rattle.std.proofs.Common.{◌≡◌, None, take}
use Rattle.std.specs.List.{flat_map}
use Rattle.sp_tables.specs.Items.{item_at}
use Rattle.sp_tables.specs.Runs.{run_items}
use Rattle.sp_tables.proofs.sp_rows.runs.index_of.Given as goal

-- no run before this one has the cell
abbrev pub invariant-loop-i : goal.invariant-loop-i
invariant-loop-i g l = item_at (flat_map (run_items g.R.Row.held) (take l.i l.runs.items)) l.object l.column ≡ None
