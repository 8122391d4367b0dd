use Rattle.std.proofs.Common.{◌∙◌, sym, ap, cond, Some, drop, suc, add-one}
use Rattle.sp_tables.specs.Items.{column_at}
use Rattle.sp_tables.proofs.sp_rows.ColumnLemmas.{column_at-next}
use Rattle.sp_tables.proofs.sp_rows.constants.cell_among.Goals as goal

pub returns-then-eq : goal.returns-then-eq
returns-then-eq c =
    let next = column_at-next c.args.cells.now c.loop-held.held-index c.held-item.result c.args.column c.loop-held-test.true c.held-item.is in
    sym (ap (λ b. cond b (Some c.held-item.result.1) (column_at (drop (suc c.loop-held.held-index) c.args.cells.now) c.args.column)) (sym c.eq.ensures ∙ c.if-eq.true)) ∙ sym next ∙ c.loop-held.invariant

pub loop-held-preserved : goal.loop-held-preserved
loop-held-preserved c =
    let next = column_at-next c.args.cells.now c.loop-held.held-index c.held-item.result c.args.column c.loop-held-test.true c.held-item.is in
    rw add-one (sym (ap (λ b. cond b (Some c.held-item.result.1) (column_at (drop (suc c.loop-held.held-index) c.args.cells.now) c.args.column)) (sym c.eq.ensures ∙ c.if-eq.false)) ∙ sym next ∙ c.loop-held.invariant)
