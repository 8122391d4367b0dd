use Rattle.std.proofs.Common.{◌+◌, ◌<◌, ◌≤◌, ◌∙◌, sym, arith, rules}
use Rattle.sp_cells.specs.declared.names.TheConstants.{RANGES}
use Rattle.tcg_calls.specs.Objects.{range_between}
use Rattle.tcg_calls.proofs.tcg_names.Numbers.{not_yet, found, ended}
use Rattle.tcg_calls.proofs.tcg_names.families.range_named.Goals as goal

pub loop-number-preserved : goal.loop-number-preserved
loop-number-preserved c =
    let below : c.loop-number.number < RANGES + 1 = omega arith in
    c.loop-number.invariant
    ∙ not_yet (range_between c.args.before.now c.args.behind.now) c.loop-number.number (RANGES + 1) c.args.name.now below (search rules)

pub returns-then-eq : goal.returns-then-eq
returns-then-eq c =
    let below : c.loop-number.number < RANGES + 1 = omega arith in
    sym (c.loop-number.invariant
    ∙ found (range_between c.args.before.now c.args.behind.now) c.loop-number.number (RANGES + 1) c.args.name.now below (search rules))

pub returns : goal.returns
returns c =
    let over : RANGES + 1 ≤ c.loop-number.number = omega arith in
    sym (c.loop-number.invariant
    ∙ ended (range_between c.args.before.now c.args.behind.now) c.loop-number.number (RANGES + 1) c.args.name.now over)
