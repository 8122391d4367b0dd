-- Values by what they are, without where they lie in memory.
use Rattle.std.specs.Prelude.{ℕ, List, [], ◌∷◌, map}
use Rattle.tcg_tokens.specs.declared.value.Value.{Value, fold-Value}
use Rattle.tcg_tokens.specs.declared.value.Value.TheOpen.{Value-F}

mutual
  -- a number, bytes, a list of values, or a name with a value
  pub data Tree : Type 0 where
    number : ℕ → Tree
    bytes : List ℕ → Tree
    list : Trees → Tree
    named : Tree → Tree → Tree

  pub data Trees : Type 0 where
    empty : Trees
    more : Tree → Trees → Trees

abbrev pub trees_of : List Tree → Trees
trees_of [] = empty
trees_of (t ∷ ts) = more t (trees_of ts)

-- one level of a value, with each value inside it already seen as its tree
abbrev pub tree_step : Value-F Tree → Tree
tree_step (Value-F.Number n) = number n
tree_step (Value-F.Bytes b) = bytes b
tree_step (Value-F.List items) = list (trees_of items.items)
tree_step (Value-F.Named both) = named both.value.0 both.value.1

abbrev pub tree : Value → Tree
tree = fold-Value Tree tree_step

abbrev pub trees : List Value → Trees
trees values = trees_of (map tree values)
