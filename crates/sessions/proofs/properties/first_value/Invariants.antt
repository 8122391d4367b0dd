use Rattle.std.proofs.Common.{◌≡◌, map, drop}
use Rattle.tcg_tokens.specs.Tree.{tree}
use Rattle.sessions.specs.Properties.{first_value}
use Rattle.sessions.proofs.properties.first_value.Given as goal

abbrev pub invariant-loop-value : goal.invariant-loop-value
invariant-loop-value l = first_value l.name (map tree (drop l.value-index l.values)) ≡ first_value l.name (map tree l.values)
