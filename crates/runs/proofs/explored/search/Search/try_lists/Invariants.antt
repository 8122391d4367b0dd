use Rattle.std.proofs.Common.{◌≡◌, drop}
use Rattle.std.specs.List.{fold}
use Rattle.runs.specs.Lists.{with_longer, with_list_tried}
use Rattle.runs.proofs.explored.search.Search.try_lists.Given as goal

abbrev pub invariant-loop-place : goal.invariant-loop-place
invariant-loop-place g l =
    (fold (with_list_tried l.options l.self) l.found.findings (drop l.place-counter l.lists) ≡ fold (with_list_tried l.options l.self) l.fn.found.findings l.lists)
    × (fold (with_longer l.options l.self) l.found.next (drop l.place-counter l.lists) ≡ fold (with_longer l.options l.self) l.fn.found.next l.lists)
