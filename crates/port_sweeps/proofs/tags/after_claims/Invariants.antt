use Rattle.std.proofs.Common.{◌≡◌}
use Rattle.port_sweeps.proofs.tags.after_claims.Given as goal

abbrev pub invariant-loop : goal.invariant-loop
invariant-loop l = l.seat.board ≡ l.initial.seat.board
