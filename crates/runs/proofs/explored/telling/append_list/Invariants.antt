use Rattle.std.proofs.Common.{◌≡◌, ◌++◌, ◌∷◌, [], codes, drop}
use Rattle.std.specs.List.{flat_map}
use Rattle.runs.specs.Tellings.{list_lines}
use Rattle.runs.proofs.explored.telling.append_list.Given as goal

abbrev pub invariant-loop-line : goal.invariant-loop-line
invariant-loop-line l =
    l.text.items ++ flat_map (λ line. codes "  " ++ line ++ 10 ∷ []) (drop l.line-index l.line-items) ≡ l.fn.text.items ++ list_lines l.list
