use Rattle.std.proofs.Common.{◌≡◌, ◌++◌, map, drop}
use Rattle.runs.specs.Rows.{kind_row}
use Rattle.runs.proofs.explored.part_rows.append_kinds.Given as goal

abbrev pub invariant-loop-kind : goal.invariant-loop-kind
invariant-loop-kind l = l.rows ++ map (kind_row l.size) (drop l.kind-index l.kinds) ≡ l.fn.rows ++ map (kind_row l.size) l.kinds
