use Rattle.std.proofs.Common.{◌≡◌, ◌∙◌, Bool, false, None, Some, Option, sym, ap, get_or, Bor}
use Rattle.std.specs.Prelude.{is_some, option_copied}
use Rattle.sp_cells.specs.declared.cells.Cell.{Cell}
use Rattle.sp_tables.specs.Items.{item_at}
use Rattle.sp_tables.specs.Runs.{run_items}
use Rattle.sp_tables.proofs.sp_rows.RunLemmas.{item_at-more}
use Rattle.sp_tables.proofs.sp_rows.runs.index_of.Goals as goal

none_there : (o : Option (Bor Cell)) (x : Option Cell) (b : Bool) → b ≡ false → b ≡ is_some o → option_copied o ≡ x → x ≡ None
none_there None x b f is e = sym e
none_there (Some y) x b f is e = cc

pub loop-i-preserved : goal.loop-i-preserved
loop-i-preserved g c =
    let at : c.run-item.result ≡ get_or c.args.runs.now.items c.loop-i.i c.run-item.result = rw c.deref-run-items.ensures.value at c.run-item.is in
    let none : item_at (run_items g.R.Row.held c.run-item.result) c.args.object c.args.column ≡ None = none_there _ _ _ c.if-is_some.false c.is_some.ensures c.cell.ensures in
    item_at-more (run_items g.R.Row.held) c.args.runs.now.items c.loop-i.i c.run-item.result c.args.object c.args.column (rw c.deref-run-items.ensures.value at c.loop-i-test.true) c.loop-i.invariant (ap (λ r. item_at (run_items g.R.Row.held r) c.args.object c.args.column) (sym at) ∙ none)
