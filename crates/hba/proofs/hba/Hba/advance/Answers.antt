-- What denied the command that is told.
use Rattle.hba.proofs.Turns.{turn_tells}
use Rattle.hba.proofs.hba.Hba.advance.Goals as goal

pub returns-clause-done : goal.returns-clause-done
returns-clause-done g c =
    turn_tells g.M.HostMemory.does c.args.self.now c.args.memory.now c.act.new.self c.denial_in-denied.new.self c.act.new.memory
    c.args.work _ _ c.denial_in-denied.result c.denial_in-denied.ensures.same c.denial_in-denied.ensures.denied c.in_ok-outcome.ensures.done
