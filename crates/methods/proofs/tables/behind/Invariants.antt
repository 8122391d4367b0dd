use Rattle.std.proofs.Common.{◌≡◌, ℕ, length}
use Rattle.methods.specs.Tables.{rows_past}
use Rattle.methods.proofs.tables.behind.Given as goal

abbrev pub invariant-loop-rest : goal.invariant-loop-rest
invariant-loop-rest l = rows_past l.row l.rest ≡ rows_past l.row l.rows

abbrev pub decreases-loop-rest : goal.decreases-loop-rest
decreases-loop-rest l = length l.rest
