use Rattle.std.proofs.Common.{◌≡◌}
use Rattle.runs.specs.Merges.{merged}
use Rattle.runs.proofs.explored.merge.merged.Given as goal

abbrev pub invariant-loop-size : goal.invariant-loop-size
invariant-loop-size l = l.found ≡ merged l.parts l.size
