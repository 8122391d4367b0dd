use Rattle.std.proofs.Common.{sym, ◌∙◌, ap}
use Rattle.std.specs.Prelude.{is_some}
use Rattle.sp_tables.specs.Runs.{run_items}
use Rattle.sp_tables.proofs.sp_rows.ItemLemmas.{with_item-absent}
use Rattle.sp_tables.proofs.sp_rows.RunLemmas.{item_at-found, with_item-found}
use Rattle.sp_tables.proofs.sp_rows.runs.swap_in.Goals as goal

pub returns-in-Some-clause-found : goal.returns-in-Some-clause-found
returns-in-Some-clause-found g c = c.swap.ensures.found ∙ ap is_some (sym (item_at-found (run_items g.R.Row.held) _ _ _ _ _ c.index_mut.ensures.value c.in-Some.ensures))

pub returns-in-Some-clause-old : goal.returns-in-Some-clause-old
returns-in-Some-clause-old g c = rw (item_at-found (run_items g.R.Row.held) c.args.runs.now.items _ _ _ _ c.index_mut.ensures.value c.in-Some.ensures) c.swap.ensures.old

pub returns-in-Some-clause-changed : goal.returns-in-Some-clause-changed
returns-in-Some-clause-changed g c = with_item-found (run_items g.R.Row.held) _ _ _ _ _ _ _ c.index_mut.ensures.value c.in-Some.ensures c.swap.ensures.changed

pub returns-in-None-clause-changed : goal.returns-in-None-clause-changed
returns-in-None-clause-changed g c = sym (with_item-absent _ _ _ _ c.in-None.ensures)
