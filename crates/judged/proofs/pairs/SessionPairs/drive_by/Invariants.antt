use Rattle.std.proofs.Common.{◌≡◌, drop}
use Rattle.judged.specs.SessionPairs.{drive_by}
use Rattle.judged.proofs.pairs.SessionPairs.drive_by.Given as goal

abbrev pub invariant-loop-pair : goal.invariant-loop-pair
invariant-loop-pair l = drive_by l.number l.found (drop l.pair-index l.pair-items) ≡ drive_by l.number l.number l.self
