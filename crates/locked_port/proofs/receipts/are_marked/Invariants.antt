use Rattle.locked_port.specs.Receipts.{AreMarked}
use Rattle.locked_port.proofs.receipts.are_marked.Given as goal

abbrev pub invariant-loop-k : goal.invariant-loop-k
invariant-loop-k l = AreMarked l.history.items l.first l.marks l.k
