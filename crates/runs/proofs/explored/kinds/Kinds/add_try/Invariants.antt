use Rattle.std.proofs.Common.{◌≡◌, drop}
use Rattle.std.specs.List.{fold}
use Rattle.runs.specs.Findings.{with_printed, noting_try}
use Rattle.runs.proofs.explored.kinds.Kinds.add_try.Given as goal

abbrev pub invariant-loop-line : goal.invariant-loop-line
invariant-loop-line l =
    fold (with_printed l.find l.item.list) l.self (drop l.line-index l.line-items) ≡ noting_try l.find l.fn.self l.item
