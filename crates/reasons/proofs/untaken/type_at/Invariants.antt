use Rattle.std.proofs.Common.{◌≡◌, drop}
use Rattle.sp_cells.specs.Values.{type_at}
use Rattle.reasons.proofs.untaken.type_at.Given as goal

abbrev pub invariant-loop-other : goal.invariant-loop-other
invariant-loop-other l = type_at (drop l.other-index l.types) l.column ≡ type_at l.types l.column
