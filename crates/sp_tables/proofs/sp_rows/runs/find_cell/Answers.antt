use Rattle.sp_tables.specs.Runs.{run_items}
use Rattle.sp_tables.proofs.sp_rows.RunLemmas.{item_at-seen, item_at-passed}
use Rattle.sp_tables.proofs.sp_rows.runs.find_cell.Goals as goal

pub returns-in-Some : goal.returns-in-Some
returns-in-Some g c = item_at-seen (run_items g.R.Row.held) _ _ _ _ _ _ c.loop-run-test.true c.run-item.is c.loop-run.invariant c.in-Some.ensures

pub loop-run-preserved : goal.loop-run-preserved
loop-run-preserved g c = item_at-passed (run_items g.R.Row.held) _ _ _ _ _ c.loop-run-test.true c.run-item.is c.loop-run.invariant c.in_default.ensures
