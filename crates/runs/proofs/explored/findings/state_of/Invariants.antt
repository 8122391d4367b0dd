use Rattle.std.proofs.Common.{◌≡◌, ◌++◌, drop}
use Rattle.runs.specs.Findings.{state_of}
use Rattle.runs.proofs.explored.findings.state_of.Given as goal

abbrev pub invariant-loop-item : goal.invariant-loop-item
invariant-loop-item l = l.state.items ++ state_of (drop l.item-index l.tries) ≡ state_of l.tries
