use Rattle.std.proofs.Common.{◌≡◌, take}
use Rattle.sessions.proofs.live.copy_live.Given as goal

abbrev pub invariant-loop-at : goal.invariant-loop-at
invariant-loop-at l = l.copies.entries ≡ take l.at l.live.entries
