use Rattle.std.proofs.Common.{◌≡◌, drop}
use Rattle.judged.specs.Freedoms.{differs_within}
use Rattle.judged.proofs.freedom.differs_within.Given as goal

abbrev pub invariant-loop-i : goal.invariant-loop-i
invariant-loop-i l = differs_within l.spans l.i (drop l.i l.heard) (drop l.i l.wanted) ≡ differs_within l.spans 0 l.heard l.wanted
