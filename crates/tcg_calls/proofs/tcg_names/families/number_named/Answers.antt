use Rattle.std.proofs.Common.{◌+◌, ◌<◌, ◌≤◌, ◌∙◌, sym, arith, rules}
use Rattle.tcg_calls.specs.Objects.{number_between}
use Rattle.tcg_calls.proofs.tcg_names.Numbers.{not_yet, ended}
use Rattle.tcg_calls.proofs.tcg_names.families.number_named.Goals as goal

pub loop-number-preserved : goal.loop-number-preserved
loop-number-preserved c =
    let below : c.loop-number.number < c.args.last + 1 = omega arith in
    c.loop-number.invariant
    ∙ not_yet (number_between c.args.before.now c.args.behind.now) c.loop-number.number (c.args.last + 1) c.args.name.now below (search rules)

pub returns : goal.returns
returns c =
    let over : c.args.last + 1 ≤ c.loop-number.number = omega arith in
    sym (c.loop-number.invariant
    ∙ ended (number_between c.args.before.now c.args.behind.now) c.loop-number.number (c.args.last + 1) c.args.name.now over)

pub returns-else-eq : goal.returns-else-eq
returns-else-eq c =
    let below : c.loop-number.number < c.args.last + 1 = omega arith in
    let over : c.args.last + 1 ≤ c.loop-number.number + 1 = omega arith in
    sym (c.loop-number.invariant
    ∙ not_yet (number_between c.args.before.now c.args.behind.now) c.loop-number.number (c.args.last + 1) c.args.name.now below (search rules)
    ∙ ended (number_between c.args.before.now c.args.behind.now) (c.loop-number.number + 1) (c.args.last + 1) c.args.name.now over)
