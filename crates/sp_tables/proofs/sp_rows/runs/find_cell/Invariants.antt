use Rattle.std.proofs.Common.{◌≡◌, drop}
use Rattle.std.specs.List.{flat_map}
use Rattle.sp_tables.specs.Items.{item_at}
use Rattle.sp_tables.specs.Runs.{run_items}
use Rattle.sp_tables.proofs.sp_rows.runs.find_cell.Given as goal

-- the rest answers as the whole does
abbrev pub invariant-loop-run : goal.invariant-loop-run
invariant-loop-run g l = item_at (flat_map (run_items g.R.Row.held) (drop l.run-index l.runs)) l.object l.column ≡ item_at (flat_map (run_items g.R.Row.held) l.runs) l.object l.column
