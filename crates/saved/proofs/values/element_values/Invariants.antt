use Rattle.std.proofs.Common.{◌≡◌, take, map}
use Rattle.tcg_tokens.specs.Tree.{tree}
use Rattle.saved.specs.Saved.{saved_element}
use Rattle.saved.proofs.values.element_values.Given as goal

abbrev pub invariant-loop-element : goal.invariant-loop-element
invariant-loop-element l = map tree l.values.items ≡ map saved_element (take l.element-index l.elements)
