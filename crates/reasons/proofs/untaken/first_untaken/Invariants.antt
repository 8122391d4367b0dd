use Rattle.std.proofs.Common.{◌≡◌, drop, map}
use Rattle.tcg_tokens.specs.Tree.{tree}
use Rattle.reasons.specs.Untaken.{first_untaken}
use Rattle.reasons.proofs.untaken.first_untaken.Given as goal

abbrev pub invariant-loop-column : goal.invariant-loop-column
invariant-loop-column l = first_untaken l.types (map (λ p. (p.0, tree p.1.now)) (drop l.column-index l.column-items)) ≡ first_untaken l.types l.values
