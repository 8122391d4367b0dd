use Rattle.std.proofs.Common.{refl}
use Rattle.port_history.specs.declared.step.Step.TheVariants as steps
use Rattle.locked_port.proofs.Awaits.{submit_ends}
use Rattle.locked_port.proofs.Counts.{client_step}
use Rattle.locked_port.proofs.desk.Desk.submit.Goals as goal

pub invariant_of-self : goal.invariant_of-self
invariant_of-self g c =
    let s = c.args.self.now in record {
      stands = client_step (steps.Put c.args.client c.args.built.tag c.args.built.request) s.book.total c.add.new.self.total s.port c.put_built.new.self refl s.stands c.in-Ok.ensures.agrees c.add.ensures.total;
    }

pub returns-in-Err-clause-errors : goal.returns-in-Err-clause-errors
returns-in-Err-clause-errors g c =
    let s = c.args.self.now in
    submit_ends c.args.client c.args.built.tag s.book.total c.args.built.request s.port c.in-Err.error c.requires.sized s.stands (λ o list h. (c.in-Err.ensures.refused o list h).0)
