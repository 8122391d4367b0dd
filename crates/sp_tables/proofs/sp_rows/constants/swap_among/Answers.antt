use Rattle.std.proofs.Common.{◌≡◌, ◌==◌, ◌<◌, ◌≤◌, ◌∙◌, true, ap, sym, arith, length, get_or, set, Some, add-one}
use Rattle.std.specs.Prelude.{is_some}
use Rattle.sp_tables.specs.Items.{column_at}
use Rattle.sp_tables.proofs.sp_rows.ColumnLemmas.{column_at-found, column_at-more, with_column-found, with_column-beyond, same-item}
use Rattle.sp_tables.proofs.sp_rows.constants.swap_among.Goals as goal

pub returns-then-eq : goal.returns-then-eq
returns-then-eq c =
    let so_far = c.loop-i.invariant in
    let cells = c.args.cells.now.items in
    let p = c.index_mut.result.now in
    let lt : c.loop-i.i < length c.loop-i.cells.items = omega (arith, c.loop-i-test.true, c.len-i-end.ensures, ap length so_far.same) in
    let one : c.index.result.now ≡ p = same-item c.loop-i.cells.items c.loop-i.i c.index.result.now p lt c.index.ensures c.index_mut.ensures.value in
    let is : (p.0.0 == c.args.column.0) ≡ true = ap (λ q. q.0.0 == c.args.column.0) (sym one) ∙ sym c.eq.ensures ∙ c.if-eq.true in
    let at : p ≡ get_or cells c.loop-i.i p = c.index_mut.ensures.value ∙ ap (λ xs. get_or xs c.loop-i.i p) so_far.same in
    let within : c.loop-i.i < length cells = omega (arith, lt, ap length so_far.same) in
    let found : column_at cells c.args.column ≡ Some p.1 = column_at-found cells c.loop-i.i p c.args.column within at so_far.before is in
    record {
      found = ap is_some (sym found);
      old = found ∙ ap Some (sym c.swap.ensures.y_after);
      unchanged = tt;
      changed = ap (λ v. set c.loop-i.cells.items c.loop-i.i (p.0, v)) (c.swap.ensures.x_after ∙ so_far.cell) ∙ ap (λ xs. set xs c.loop-i.i (p.0, c.args.cell.now)) so_far.same
          ∙ with_column-found cells c.loop-i.i p c.args.column c.args.cell.now within at so_far.before is;
    }

pub loop-i-preserved : goal.loop-i-preserved
loop-i-preserved c =
    let so_far = c.loop-i.invariant in
    let at : c.index.result.now ≡ get_or c.args.cells.now.items c.loop-i.i c.index.result.now = c.index.ensures ∙ ap (λ xs. get_or xs c.loop-i.i c.index.result.now) so_far.same in
    record {
      same = so_far.same;
      before = rw add-one (column_at-more c.args.cells.now.items c.loop-i.i c.index.result.now c.args.column at so_far.before (sym c.eq.ensures ∙ c.if-eq.false));
      cell = so_far.cell;
    }

pub returns-clause-changed : goal.returns-clause-changed
returns-clause-changed c =
    let so_far = c.loop-i.invariant in
    let beyond : length c.args.cells.now.items ≤ c.loop-i.i = omega (arith, c.loop-i-test.false, c.len-i-end.ensures, ap length so_far.same) in
    so_far.same ∙ sym (with_column-beyond c.args.cells.now.items c.loop-i.i c.args.column c.args.cell.now beyond so_far.before)
