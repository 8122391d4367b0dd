use Rattle.std.proofs.Common.{◌≡◌, drop}
use Rattle.tcg_tokens.specs.Tree.{trees}
use Rattle.tcg_tokens.specs.Writable.{are_writable_values}
use Rattle.tcg_tokens.proofs.condition.+writable.Given as goal

abbrev pub invariant-are_writable-loop-value : goal.invariant-are_writable-loop-value
invariant-are_writable-loop-value l = are_writable_values l.room (trees (drop l.value-index l.values.items)) ≡ are_writable_values l.room (trees l.values.items)
