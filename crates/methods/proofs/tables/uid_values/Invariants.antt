use Rattle.std.proofs.Common.{◌≡◌, ◌++◌, map, drop}
use Rattle.tcg_tokens.specs.Tree.{tree}
use Rattle.tcg_calls.specs.CellValues.{uid_tree}
use Rattle.methods.proofs.tables.uid_values.Given as goal

abbrev pub invariant-loop-name : goal.invariant-loop-name
invariant-loop-name l = map tree l.values.items ++ map uid_tree (drop l.name-index l.names) ≡ map uid_tree l.names
