use Rattle.std.proofs.Common.{◌≡◌, Some}
use Rattle.runs.specs.Shares.{front_of}
use Rattle.runs.specs.Merges.{rows_found}
use Rattle.runs.proofs.explored.search.Search.rows_found.Given as goal

abbrev pub invariant-loop-size : goal.invariant-loop-size
invariant-loop-size g l =
    (l.front ≡ front_of l.options l.self l.share l.size) × (rows_found l.options l.self l.share l.size ≡ Some l.rows)
