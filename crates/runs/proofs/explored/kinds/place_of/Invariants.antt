use Rattle.std.proofs.Common.{◌≡◌, ◌+◌, not, drop}
use Rattle.std.specs.List.{prefix_len}
use Rattle.std.specs.Str.{bytes_eq}
use Rattle.runs.proofs.explored.kinds.place_of.Given as goal

abbrev pub invariant-loop-i : goal.invariant-loop-i
invariant-loop-i l =
    l.i + prefix_len (λ kind. not (bytes_eq kind.text l.text)) (drop l.i l.kinds) ≡ prefix_len (λ kind. not (bytes_eq kind.text l.text)) l.kinds
