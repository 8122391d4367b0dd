use Rattle.std.proofs.Common.{◌≡◌, drop, map}
use Rattle.tcg_tokens.specs.Tree.{tree}
use Rattle.tcg_calls.specs.Named.{has_name}
use Rattle.tcg_calls.proofs.call_shapes.named.has_name.Given as goal

abbrev pub invariant-loop-item : goal.invariant-loop-item
invariant-loop-item l = has_name l.name (map (λ p. (p.0, tree p.1.now)) (drop l.item-index l.items)) ≡ has_name l.name (map (λ p. (p.0, tree p.1.now)) l.items)
