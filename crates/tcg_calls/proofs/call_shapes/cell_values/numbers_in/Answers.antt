use Rattle.std.proofs.Common.{◌+◌, sym, ◌∙◌, ap, map, drop}
use Rattle.tcg_tokens.specs.Tree.{tree}
use Rattle.tcg_calls.specs.CellValues.{number_in}
use Rattle.tcg_calls.proofs.call_shapes.CellLemmas.{each_behind, each_more}
use Rattle.tcg_calls.proofs.call_shapes.cell_values.numbers_in.Goals as goal

pub loop-value-preserved : goal.loop-value-preserved
loop-value-preserved c =
    ap (λ q. each_behind number_in q (map tree (drop (c.loop-value.value-index + 1) c.args.values.now))) c.in_ok-push.ensures.items
    ∙ sym (each_more number_in _ _ _ _ _ c.loop-value-test.true c.value-item.is (sym c.in-Some.ensures))
    ∙ c.loop-value.invariant
