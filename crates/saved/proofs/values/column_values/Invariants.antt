use Rattle.std.proofs.Common.{◌≡◌, take, map}
use Rattle.tcg_tokens.specs.Tree.{tree, number}
use Rattle.saved.proofs.values.column_values.Given as goal

abbrev pub invariant-loop-column : goal.invariant-loop-column
invariant-loop-column l = map tree l.values.items ≡ map (λ c. number c.0) (take l.column-index l.columns)
