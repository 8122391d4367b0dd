use Rattle.std.proofs.Common.{◌≡◌, drop}
use Rattle.judged.specs.Blanks.{differs_in_blanks}
use Rattle.judged.proofs.blanks.differs_in_blanks.Given as goal

abbrev pub invariant-loop-i : goal.invariant-loop-i
invariant-loop-i l =
    differs_in_blanks (drop l.i l.heard) (drop l.i l.wanted) (drop l.i l.other) ≡ differs_in_blanks l.heard l.wanted l.other
