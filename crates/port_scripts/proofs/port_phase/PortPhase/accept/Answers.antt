use Rattle.port_scripts.proofs.PortRuns.{accept-so}
use Rattle.port_scripts.proofs.port_phase.PortPhase.accept.Goals as goal

pub returns : goal.returns
returns c =
    accept-so c.accept-done.result c.in_ok-told.told c.args.self.now _ _ c.args.tag c.denials-place.result c.args.report.now
    c.told.new.report c.print_denial.new.report c.denials-place.ensures.told
    c.accept-done.ensures.refused c.accept-done.ensures.agrees c.accept-done.ensures.number c.accept-done.ensures.err
    c.told.ensures.port c.in_ok-told.ensures.made c.in_ok-told.ensures.gives c.in_ok-told.ensures.prints
    c.in_ok-print_denial.ensures
