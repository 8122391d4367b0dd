use Rattle.std.proofs.Common.{◌≡◌, ◌++◌, take}
use Rattle.std.specs.List.{flat_map}
use Rattle.sp_tables.specs.Runs.{run_items}
use Rattle.sp_tables.specs.Entries.{entry_items}
use Rattle.sp_tables.proofs.sp_rows.entries.push_entries.Given as goal

abbrev pub invariant-loop-entry : goal.invariant-loop-entry
invariant-loop-entry g l = flat_map (run_items g.R.Row.held) l.runs.items ≡ flat_map (run_items g.R.Row.held) l.fn.runs.items ++ flat_map (entry_items g.E.Adds.items l.profile) (take l.entry-index l.entries)
