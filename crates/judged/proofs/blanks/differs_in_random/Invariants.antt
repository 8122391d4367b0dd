use Rattle.std.proofs.Common.{◌≡◌, drop}
use Rattle.judged.specs.Blanks.{differs_in_random}
use Rattle.judged.proofs.blanks.differs_in_random.Given as goal

abbrev pub invariant-loop-i : goal.invariant-loop-i
invariant-loop-i l =
    differs_in_random l.i (drop l.i l.heard) (drop l.i l.wanted) (drop l.i l.other) ≡ differs_in_random 0 l.heard l.wanted l.other
