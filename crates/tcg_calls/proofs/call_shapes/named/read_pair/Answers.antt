use Rattle.std.proofs.Common.{◌≡◌, sym, ap, map, length, option_map, arith}
use Rattle.std.proofs.lemmas.List.{length-map}
use Rattle.tcg_tokens.specs.Tree.{tree}
use Rattle.tcg_calls.specs.Named.{pair_of}
use Rattle.tcg_calls.proofs.call_shapes.PairLemmas.{too_many}
use Rattle.tcg_calls.proofs.call_shapes.named.read_pair.Goals as goal

pub returns-in_default : goal.returns-in_default
returns-in_default c =
    let len : length (map tree c.args.values.now) ≡ length c.args.values.now = length-map c.args.values.now tree in
    let many = c.in_default.len_at_least in
    sym (ap (option_map (pair_of c.args.first c.args.last)) (too_many c.args.first c.args.last (map tree c.args.values.now) (omega (arith, len, many))))
