use Rattle.std.proofs.Common.{◌≡◌, ◌≤◌, length, take}
use Rattle.std.specs.Prelude.{filter}
use Rattle.ace_eval.specs.Aces.{names}
use Rattle.ace_eval.proofs.aces.named.Given as goal

abbrev pub invariant-loop-ace : goal.invariant-loop-ace
invariant-loop-ace g l = record {
  done : l.need.items ≡ filter (names (g.R.Rows.look_up l.rows) l.sp l.column) (take l.ace-index l.ace-items);
  room : length l.need.items ≤ l.ace-index;
}
