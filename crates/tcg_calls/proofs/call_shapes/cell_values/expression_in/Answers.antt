use Rattle.std.proofs.Common.{◌≤◌, ◌∙◌, length, ap, arith, Some}
use Rattle.sp_cells.specs.declared.cells.Cell.TheVariants.{Expr}
use Rattle.tcg_calls.specs.CellValues.{expression_of, elements_in}
use Rattle.tcg_calls.proofs.call_shapes.CellLemmas.{fits}
use Rattle.tcg_calls.proofs.call_shapes.cell_values.expression_in.Goals as goal

pub returns : goal.returns
returns c =
    let few : length c.in-Some.values.now ≤ c.args.most = omega arith in
    ap (λ e. Some (Expr e)) c.in_ok-expr.ensures
    ∙ fits c.args.most c.in-Some.values.now c.in-Some-elements_in.elements.items few c.in-Some-elements_in.ensures
    ∙ ap (λ ts. expression_of c.args.most (elements_in ts)) c.in-Some.ensures
