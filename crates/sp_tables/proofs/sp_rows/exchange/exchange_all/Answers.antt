use Rattle.std.proofs.Common.{◌<◌, length, arith, ◌∙◌}
use Rattle.sp_tables.proofs.sp_rows.ExchangeLemmas.{waiting_within, waiting_next, replaced_next, with_items_next}
use Rattle.sp_tables.proofs.sp_rows.exchange.exchange_all.Goals as goal

pub index_mut-requires : goal.index_mut-requires
index_mut-requires c =
    let within : c.loop-i.i < length c.loop-i.cells.items = waiting_within c.loop-i.cells.items c.args.changes.now c.loop-i.i c.loop-i-test.true c.loop-i.invariant.waiting in
    omega (arith, within, c.loop-i.cells.ok)

pub exchange_one-requires : goal.exchange_one-requires
exchange_one-requires c =
    let within = waiting_within c.loop-i.cells.items c.args.changes.now c.loop-i.i c.loop-i-test.true c.loop-i.invariant.waiting in
    (waiting_next c.loop-i.cells.items c.args.changes.now c.loop-i.i c.index-changes-i.result c.index_mut.result.now c.index_mut.result.now c.loop-i-test.true within c.index-changes-i.is c.index_mut.ensures.value c.loop-i.invariant.waiting).0

pub loop-i-preserved : goal.loop-i-preserved
loop-i-preserved c =
    let cells = c.loop-i.cells.items in
    let changes = c.args.changes.now in
    let within = waiting_within cells changes c.loop-i.i c.loop-i-test.true c.loop-i.invariant.waiting in
    record {
      changed = with_items_next changes c.loop-i.i c.index-changes-i.result _ _ _ c.loop-i-test.true c.index-changes-i.is c.exchange_one.ensures.changed ∙ c.loop-i.invariant.changed;
      old = replaced_next cells changes c.loop-i.i c.index-changes-i.result _ _ _ _ c.loop-i-test.true within c.index-changes-i.is c.exchange_one.ensures.old c.exchange_one.ensures.changed ∙ c.loop-i.invariant.old;
      waiting = (waiting_next cells changes c.loop-i.i c.index-changes-i.result c.index_mut.result.now _ c.loop-i-test.true within c.index-changes-i.is c.index_mut.ensures.value c.loop-i.invariant.waiting).1;
    }
