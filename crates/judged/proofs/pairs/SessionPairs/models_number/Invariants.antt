use Rattle.std.proofs.Common.{◌≡◌, drop}
use Rattle.judged.specs.SessionPairs.{model_by, models_number}
use Rattle.judged.proofs.pairs.SessionPairs.models_number.Given as goal

abbrev pub invariant-loop-pair : goal.invariant-loop-pair
invariant-loop-pair l = model_by l.number l.found (drop l.pair-index l.pair-items) ≡ models_number l.self l.number
