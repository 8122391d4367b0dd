use Rattle.std.proofs.Common.{◌∙◌, ◌++◌, ap, sym, append_assoc, append-nil}
use Rattle.drawing.specs.Svg.{row_text}
use Rattle.drawing.proofs.Rows.{no_rows, rows_taken}
use Rattle.drawing.proofs.svg.append_rows.Goals as goal

pub loop-row-init : goal.loop-row-init
loop-row-init c =
    sym (append-nil c.args.text.now.items)
    ∙ ap (λ lines. c.args.text.now.items ++ lines) (sym no_rows)

pub loop-row-preserved : goal.loop-row-preserved
loop-row-preserved c =
    c.in_ok-append_row.ensures
    ∙ ap (λ t. t ++ row_text c.loop-row.row c.as_slice.result.now) c.loop-row.invariant
    ∙ append_assoc c.args.text.now.items _ _
    ∙ ap (λ lines. c.args.text.now.items ++ lines)
    (sym (rows_taken c.args.rows.now c.loop-row.row c.index-rows-row.result c.as_slice.result.now
    c.loop-row-test.true c.index-rows-row.is c.as_slice.ensures))
