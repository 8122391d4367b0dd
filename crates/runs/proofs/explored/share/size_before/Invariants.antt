use Rattle.std.proofs.Common.{◌≡◌, ◌+◌, ◌==◌, not, drop}
use Rattle.std.specs.List.{prefix_len}
use Rattle.runs.proofs.explored.share.size_before.Given as goal

abbrev pub invariant-loop-i : goal.invariant-loop-i
invariant-loop-i l =
    l.i + prefix_len (λ b. not (b == l.byte)) (drop l.i l.text) ≡ prefix_len (λ b. not (b == l.byte)) l.text
