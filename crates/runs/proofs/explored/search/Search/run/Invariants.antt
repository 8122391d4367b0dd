use Rattle.std.proofs.Common.{◌≡◌}
use Rattle.runs.specs.Lists.{lists_of, findings_of}
use Rattle.runs.proofs.explored.search.Search.run.Given as goal

abbrev pub invariant-loop-size : goal.invariant-loop-size
invariant-loop-size g l =
    (l.findings ≡ findings_of l.options l.self l._size) × (l.lists ≡ lists_of l.options l.self l._size)
