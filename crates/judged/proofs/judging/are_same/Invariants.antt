use Rattle.std.proofs.Common.{◌≡◌, drop}
use Rattle.judged.specs.Judgements.{are_same}
use Rattle.judged.proofs.judging.are_same.Given as goal

abbrev pub invariant-loop-i : goal.invariant-loop-i
invariant-loop-i l = are_same (drop l.i l.heard) (drop l.i l.wanted) ≡ are_same l.heard l.wanted
