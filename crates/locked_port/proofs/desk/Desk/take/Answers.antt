use Rattle.std.proofs.Common.{refl, rules}
use Rattle.port_history.specs.declared.step.Step.TheVariants as steps
use Rattle.locked_port.proofs.Awaits.{take_ends}
use Rattle.locked_port.proofs.Counts.{client_step, above}
use Rattle.locked_port.proofs.desk.Desk.take.Goals as goal

pub invariant_of-self-2 : goal.invariant_of-self-2
invariant_of-self-2 g c =
    let s = c.args.self.now in record {
      stands = client_step (steps.Take c.args.client c.args.ticket.now.tag) s.book.total c.add.new.self.total s.port c.take.new.self refl s.stands c.in_ok-number.ensures.agrees c.add.ensures.total;
    }

pub returns-clause-step : goal.returns-clause-step
returns-clause-step g c =
    let s = c.args.self.now in (
      refl,
      above s.port s.book.total c.args.ticket.now.number c.in_ok-number.number s.stands c.in_ok-is_answered.ensures.number (λ o list h. (c.in_ok-number.ensures.answer o list h).0),
      (λ o list h. (c.in_ok-number.ensures.answer o list h, c.in_ok-number.ensures.agrees o list h)),
    )

pub returns-in_err-number-clause-errors : goal.returns-in_err-number-clause-errors
returns-in_err-number-clause-errors g c =
    let s = c.args.self.now in
    let h = take_ends c.args.client s.book.total c.args.ticket.now c.in_ok-is_answered.field-0 s.port c.in_err-number.field-0.0 s.stands
    c.if-not-branch.false c.in_ok-is_answered.ensures.told c.in_err-number.ensures.refused in
    let r = c.from_residual-in_err-number.ensures in
    search (rules, h, r)
