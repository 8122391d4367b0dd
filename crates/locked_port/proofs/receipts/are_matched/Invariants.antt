use Rattle.std.proofs.Common.{◌*◌}
use Rattle.locked_port.proofs.Windows.{AreMatchedBelow}
use Rattle.locked_port.proofs.receipts.are_matched.Given as goal

abbrev pub invariant-loop-window : goal.invariant-loop-window
invariant-loop-window l = AreMatchedBelow (65536 * l.window) l.history.items l.receipts
