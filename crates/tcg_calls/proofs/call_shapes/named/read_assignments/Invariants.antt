use Rattle.std.proofs.Common.{◌≡◌, true, drop, map}
use Rattle.tcg_tokens.specs.Tree.{tree}
use Rattle.tcg_calls.specs.Named.{assignments, are_distinct}
use Rattle.tcg_calls.proofs.call_shapes.NamedLemmas.{behind}
use Rattle.tcg_calls.proofs.call_shapes.named.read_assignments.Given as goal

abbrev pub invariant-loop-value : goal.invariant-loop-value
invariant-loop-value l =
    (behind (map (λ p. (p.0, tree p.1.now)) l.items.items) (map tree (drop l.value-index l.values)) ≡ assignments (map tree l.values))
    × (are_distinct (map (λ p. (p.0, tree p.1.now)) l.items.items) ≡ true)
