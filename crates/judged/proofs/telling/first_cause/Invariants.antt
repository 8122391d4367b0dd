use Rattle.std.proofs.Common.{◌≡◌, drop}
use Rattle.judged.specs.Judgements.{first_cause}
use Rattle.judged.proofs.telling.first_cause.Given as goal

abbrev pub invariant-loop-ruling : goal.invariant-loop-ruling
invariant-loop-ruling l = first_cause (drop l.ruling-index l.rulings) ≡ first_cause l.rulings
