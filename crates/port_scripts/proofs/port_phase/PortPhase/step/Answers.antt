use Rattle.port_scripts.proofs.PortRuns.{full-so, room-so}
use Rattle.port_scripts.proofs.port_phase.PortPhase.step.Goals as goal

pub returns-then-self-ge-MOST_STEPS_MADE : goal.returns-then-self-ge-MOST_STEPS_MADE
returns-then-self-ge-MOST_STEPS_MADE c =
    full-so c.refused.result c.args.self.now c.args.step.now c.args.report.now c.refused.new.report c.if-self-ge-MOST_STEPS_MADE.true
    c.refused.ensures.prints c.refused.ensures.gives

pub returns : goal.returns
returns c =
    room-so c.make.result c.args.self.now c.make.new.self c.args.step.now c.args.report.now c.make.new.report c.if-self-ge-MOST_STEPS_MADE.false c.make.ensures
