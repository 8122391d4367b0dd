use Rattle.sp_cells.specs.ColumnNames.{uid_column}
use Rattle.tcg_tokens.specs.Tree.{number}
use Rattle.tcg_tokens.proofs.Trees.{tree_number}
use Rattle.tcg_calls.proofs.call_shapes.CellLemmas.{values-step}
use Rattle.saved.proofs.values.column_values.Goals as goal

pub loop-column-preserved : goal.loop-column-preserved
loop-column-preserved c =
    values-step (λ x. number x.0) c.loop-column.values.items c.push.new.self.items _ c.args.columns.now c.loop-column.column-index uid_column c.loop-column-test.true c.in_ok-push.ensures.items (tree_number _) c.loop-column.invariant
