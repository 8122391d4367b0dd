use Rattle.sp_tables.specs.Runs.{run_items}
use Rattle.sp_tables.specs.Entries.{entry_items}
use Rattle.sp_tables.proofs.sp_rows.FamilyLemmas.{entries-step}
use Rattle.sp_tables.proofs.sp_rows.entries.push_entries.Goals as goal

pub loop-entry-preserved : goal.loop-entry-preserved
loop-entry-preserved g c = entries-step (run_items g.R.Row.held) (entry_items g.E.Adds.items c.args.profile) c.args.runs.now.items c.loop-entry.runs.items c.push_entry.new.runs.items _ _ _ c.loop-entry-test.true c.entry-item.is c.loop-entry.invariant c.in_ok-push_entry.ensures
