use Rattle.port.proofs.Living.{live_fresh}
use Rattle.port.proofs.live.LivePort.new.Goals as goal

pub returns-clause-agrees : goal.returns-clause-agrees
returns-clause-agrees c = λ o h.
    live_fresh c.in_ok-port.port c.args.drive o c.in_ok-port.ensures.fresh.0 c.in_ok-port.ensures.fresh.1 c.in_ok-port.ensures.lines.0 c.in_ok-port.ensures.lines.1 h
