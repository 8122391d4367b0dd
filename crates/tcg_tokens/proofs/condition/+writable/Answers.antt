use Rattle.std.proofs.Common.{◌≡◌, ◌+◌, ◌-◌, true, ◌∙◌, arith}
use Rattle.tcg_tokens.specs.Tree.{tree, named}
use Rattle.tcg_tokens.specs.Writable.{is_name, is_writable_value}
use Rattle.tcg_tokens.proofs.Writings.{named_within}
use Rattle.tcg_tokens.proofs.Trees.{tree_named}
use Rattle.tcg_tokens.proofs.condition.+writable.Goals as goal

pub is_writable_in-returns-else-not-is_name_value : goal.is_writable_in-returns-else-not-is_name_value
is_writable_in-returns-else-not-is_name_value t c =
    let both = c.in-Named.both.value in
    let e : tree c.args.value.now ≡ named (tree both.0) (tree both.1) = tree_named c.args.value.now c.in-Named.both c.in-Named.is in
    let k : c.args.room ≡ (c.args.room - 1) + 1 = omega arith in
    let is_a_name : is_name (tree both.0) ≡ true = cc in
    let rest : c.is_writable_in.result ≡ is_writable_value (c.args.room - 1) (tree both.1) = cc in
    rw e (rest ∙ named_within c.args.room (c.args.room - 1) (tree both.0) (tree both.1) k is_a_name)
