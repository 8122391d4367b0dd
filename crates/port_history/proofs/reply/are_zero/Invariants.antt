use Rattle.std.proofs.Common.{◌≡◌, ◌*◌, drop}
use Rattle.port_history.specs.Replies.{are_zero}
use Rattle.port_history.proofs.reply.are_zero.Given as goal

abbrev pub invariant-loop-i : goal.invariant-loop-i
invariant-loop-i l = are_zero (drop (512 * l.i) l.bytes) ≡ are_zero l.bytes
