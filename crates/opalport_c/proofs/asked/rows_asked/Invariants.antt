use Rattle.std.proofs.Common.{◌≡◌, take, map}
use Rattle.opalport_c.specs.Asked.{row_asked}
use Rattle.opalport_c.proofs.asked.rows_asked.Given as goal

abbrev pub invariant-loop-one : goal.invariant-loop-one
invariant-loop-one l = l.rows.items ≡ map row_asked (take l.one-index l.cells)
