use Rattle.std.proofs.Common.{◌≡◌, ◌++◌, drop}
use Rattle.std.specs.List.{flat_map}
use Rattle.runs.specs.Tellings.{kind_lines_told}
use Rattle.runs.proofs.explored.telling.append_kinds.Given as goal

abbrev pub invariant-loop-kind : goal.invariant-loop-kind
invariant-loop-kind l =
    l.text.items ++ flat_map kind_lines_told (drop l.kind-index l.kinds) ≡ l.fn.text.items ++ flat_map kind_lines_told l.kinds
