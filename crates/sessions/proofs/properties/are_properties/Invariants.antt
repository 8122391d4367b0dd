use Rattle.std.proofs.Common.{◌≡◌, map, drop}
use Rattle.std.specs.List.{list_all}
use Rattle.tcg_tokens.specs.Tree.{tree}
use Rattle.sessions.specs.Properties.{is_property}
use Rattle.sessions.proofs.properties.are_properties.Given as goal

abbrev pub invariant-loop-value : goal.invariant-loop-value
invariant-loop-value l = list_all is_property (map tree (drop l.value-index l.values)) ≡ list_all is_property (map tree l.values)
