use Rattle.std.proofs.Common.{◌≡◌, ◌==◌, take}
use Rattle.port_history.specs.Replies.{are_zero}
use Rattle.port_history.proofs.reply.are_zero_at_once.Given as goal

abbrev pub invariant-loop-i : goal.invariant-loop-i
invariant-loop-i l = (l.most == 0) ≡ are_zero (take l.i l.bytes)
