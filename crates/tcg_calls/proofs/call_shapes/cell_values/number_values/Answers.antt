use Rattle.tcg_tokens.specs.Tree.{number}
use Rattle.tcg_tokens.proofs.Trees.{tree_number}
use Rattle.tcg_calls.proofs.call_shapes.CellLemmas.{values-step}
use Rattle.tcg_calls.proofs.call_shapes.cell_values.number_values.Goals as goal

pub loop-number-preserved : goal.loop-number-preserved
loop-number-preserved c = values-step number c.loop-number.values.items c.push.new.self.items _ c.args.numbers.now c.loop-number.number-index 0 c.loop-number-test.true c.in_ok-push.ensures.items (tree_number _) c.loop-number.invariant
