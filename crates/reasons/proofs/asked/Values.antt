-- The arguments of a call as the values of its list.
use Rattle.std.proofs.Common.{◌≡◌, List, map, sym}
use Rattle.tcg_tokens.specs.Tree.{tree, trees}
use Rattle.tcg_tokens.specs.declared.value.Value.{Value}
use Rattle.tcg_calls.specs.Named.{values_of}
use Rattle.tcg_calls.proofs.call_shapes.NamedLemmas.{values_trees}

pub values_are : (vs : List Value) → map tree vs ≡ values_of (trees vs)
values_are vs = sym (values_trees vs)
