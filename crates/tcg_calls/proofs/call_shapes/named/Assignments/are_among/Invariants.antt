use Rattle.std.proofs.Common.{◌≡◌, drop, map}
use Rattle.tcg_tokens.specs.Tree.{tree}
use Rattle.tcg_calls.specs.Named.{are_among}
use Rattle.tcg_calls.proofs.call_shapes.named.Assignments.are_among.Given as goal

abbrev pub invariant-loop-item : goal.invariant-loop-item
invariant-loop-item l = are_among l.allowed (map (λ p. (p.0, tree p.1.now)) (drop l.item-index l.item-items)) ≡ are_among l.allowed l.self
