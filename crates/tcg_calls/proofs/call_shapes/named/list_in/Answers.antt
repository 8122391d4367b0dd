use Rattle.std.proofs.Common.{◌∙◌, ap, map, Some}
use Rattle.tcg_tokens.specs.Tree.{tree}
use Rattle.tcg_calls.proofs.call_shapes.NamedLemmas.{listed}
use Rattle.tcg_calls.proofs.call_shapes.named.list_in.Goals as goal

pub returns-in-List : goal.returns-in-List
returns-in-List c = ap (λ vs. Some (map tree vs)) c.as_slice.ensures.value ∙ listed c.args.value.now c.in-List.values c.in-List.is
