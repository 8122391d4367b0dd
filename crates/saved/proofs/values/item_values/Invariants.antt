use Rattle.std.proofs.Common.{◌≡◌, take, map}
use Rattle.tcg_tokens.specs.Tree.{tree}
use Rattle.sp_tables.specs.Items.{item_of}
use Rattle.saved.specs.Saved.{item_tree}
use Rattle.saved.proofs.values.item_values.Given as goal

abbrev pub invariant-loop-item : goal.invariant-loop-item
invariant-loop-item l = map tree l.values.items ≡ map item_tree (map item_of (take l.item-index l.items))
