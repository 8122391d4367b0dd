use Rattle.std.proofs.Common.{◌≡◌, drop}
use Rattle.runs.specs.Findings.{stands_in}
use Rattle.runs.proofs.explored.kinds.stands_in.Given as goal

abbrev pub invariant-loop-i : goal.invariant-loop-i
invariant-loop-i l = stands_in l.needle (drop l.i l.text) ≡ stands_in l.needle l.text
