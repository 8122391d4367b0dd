use Rattle.std.proofs.Common.{◌≡◌, drop}
use Rattle.std.specs.List.{fold}
use Rattle.runs.specs.Findings.{noting_try}
use Rattle.runs.proofs.explored.findings.Findings.add_kinds.Given as goal

abbrev pub invariant-loop-item : goal.invariant-loop-item
invariant-loop-item l =
    (fold (noting_try l.find) l.self.kinds (drop l.item-index l.tries) ≡ fold (noting_try l.find) l.fn.self.kinds l.tries)
    × (l.self.lists ≡ l.fn.self.lists) × (l.self.states ≡ l.fn.self.states)
