use Rattle.std.proofs.Common.{rules}
use Rattle.locked_port.proofs.Awaits.{turn_ends}
use Rattle.locked_port.proofs.Counts.{turned}
use Rattle.locked_port.proofs.desk.Desk.turn.Goals as goal

pub invariant_of-self : goal.invariant_of-self
invariant_of-self g c =
    let s = c.args.self.now in record { stands = turned c.turn.result c.args.choice s.book.total s.port c.turn.new.self s.stands c.turn.ensures.agrees c.turn.ensures.err }

pub returns-in_err-turn-clause-errors : goal.returns-in_err-turn-clause-errors
returns-in_err-turn-clause-errors g c =
    let s = c.args.self.now in
    let h = turn_ends s.book.total s.port c.in_err-turn.field-0.0 s.stands c.in_err-turn.ensures.memory in
    let r = c.from_residual.ensures in
    search (rules, h, r)
