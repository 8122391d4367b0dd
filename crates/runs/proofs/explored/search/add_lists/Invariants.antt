use Rattle.std.proofs.Common.{◌≡◌, drop}
use Rattle.std.specs.List.{fold}
use Rattle.runs.specs.Lists.{with_list}
use Rattle.runs.proofs.explored.search.add_lists.Given as goal

abbrev pub invariant-loop-item : goal.invariant-loop-item
invariant-loop-item l =
    fold (with_list l.limit) l.lists (drop l.item-index l.tries) ≡ fold (with_list l.limit) l.fn.lists l.tries
