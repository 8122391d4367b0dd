use Rattle.std.proofs.Common.{rules}
use Rattle.hba_program.proofs.hba_lines.Numbers.{below_sixteen, below_most}
use Rattle.hba_program.proofs.hba_lines.digits.hex_number.Goals as goal

pub overflow_mul-number : goal.overflow_mul-number
overflow_mul-number c =
    let small = below_sixteen c.loop-i.i c.loop-i.number (search rules) c.loop-i.invariant.0 in search (rules, small)

pub overflow_add-number : goal.overflow_add-number
overflow_add-number c =
    let small = below_sixteen c.loop-i.i c.loop-i.number (search rules) c.loop-i.invariant.0 in search (rules, small)

pub returns-clause-small : goal.returns-clause-small
returns-clause-small c = below_most c.loop-i.i c.args.most c.loop-i.number (search rules) c.loop-i.invariant.0
