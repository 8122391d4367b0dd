use Rattle.std.proofs.Common.{◌≡◌, map, take, drop, ◌++◌}
use Rattle.sp_tables.specs.Items.{with_items, replaced}
use Rattle.sp_tables.specs.Halves.{half_items}
use Rattle.sp_tables.proofs.sp_rows.exchange.exchange_all.Given as goal

-- what is left to do leads to the same end
abbrev pub invariant-loop-i : goal.invariant-loop-i
invariant-loop-i l = record {
  changed : with_items (half_items l.half) l.object (drop l.i l.changes) ≡ with_items (half_items l.fn.half) l.object l.changes;
  old : take l.i l.cells.items ++ replaced (half_items l.half) l.object (drop l.i l.changes) ≡ replaced (half_items l.fn.half) l.object l.changes;
  waiting : drop l.i l.cells.items ≡ map (λ p. p.1) (drop l.i l.changes);
}
