use Rattle.std.proofs.Common.{◌≡◌, drop, map}
use Rattle.tcg_tokens.specs.Tree.{tree}
use Rattle.tcg_calls.specs.Named.{value_of}
use Rattle.tcg_calls.proofs.call_shapes.named.Assignments.get.Given as goal

abbrev pub invariant-loop-other : goal.invariant-loop-other
invariant-loop-other l = value_of l.name (map (λ p. (p.0, tree p.1.now)) (drop l.other-index l.other-items)) ≡ value_of l.name l.self
