use Rattle.std.proofs.Common.{◌≡◌, ◌≤◌, length, take}
use Rattle.std.specs.Prelude.{filter}
use Rattle.reasons.specs.Remedies.{is_beside}
use Rattle.reasons.proofs.remedies.ways.aces_beside.Given as goal

abbrev pub invariant-loop-ace : goal.invariant-loop-ace
invariant-loop-ace g l = record {
  done : l.others.items ≡ filter (is_beside (g.R.Rows.look_up l.rows) l.sp l.authority) (take l.ace-index l.ace-items);
  room : length l.others.items ≤ l.ace-index;
}
