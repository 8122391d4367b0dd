use Rattle.std.proofs.Common.{take}
use Rattle.std.specs.List.{flat_map}
use Rattle.sp_tables.specs.Items.{AddsItems}
use Rattle.sp_tables.specs.Runs.{run_items}
use Rattle.sp_tables.proofs.sp_rows.listing.list_runs.Given as goal

abbrev pub invariant-loop-run : goal.invariant-loop-run
invariant-loop-run g l = AddsItems l.fn.items.items l.items.items (flat_map (run_items g.R.Row.held) (take l.run-index l.runs))
