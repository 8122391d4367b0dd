use Rattle.std.proofs.Common.{◌≡◌, ◌++◌, drop}
use Rattle.runs.proofs.explored.front.copied.Given as goal

abbrev pub invariant-loop-list : goal.invariant-loop-list
invariant-loop-list l = l.lines ++ drop l.list-index l.lists ≡ l.lists
