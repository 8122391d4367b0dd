-- One turn more, or no turn for want of memory.
use Rattle.hba.specs.History.{TellsDenial}
use Rattle.hba.proofs.Turns.{runs_more, runs_still, has_stopped}
use Rattle.hba.proofs.hba.Hba.run.Goals as goal

pub returns-in-Err-clause-stopped : goal.returns-in-Err-clause-stopped
returns-in-Err-clause-stopped g c =
    has_stopped g.M.HostMemory.does c.loop-count.count c.args.self.now c.args.memory.now c.loop-count.self c.loop-count.memory
    c.turn.new.self c.turn.new.memory c.loop-count.invariant c.in-Err.ensures.err c.in-Err.ensures.kept

pub loop-count-preserved : goal.loop-count-preserved
loop-count-preserved g c =
    runs_more g.M.HostMemory.does c.loop-count.count c.args.self.now c.args.memory.now c.loop-count.self c.loop-count.memory
    c.turn.new.self c.turn.new.memory c.in-Ok-Some.field-0-0.work c.in-Ok-Some.field-0-0.done (TellsDenial c.in-Ok-Some.field-0-0.denied)
    c.loop-count.invariant
    (rw c.in-Ok-Some.field-0-is at c.in-Ok-Some.ensures.picked)
    (rw c.in-Ok-Some.field-0-is at c.in-Ok-Some.ensures.done)

pub returns-in-Ok-None-clause-ran : goal.returns-in-Ok-None-clause-ran
returns-in-Ok-None-clause-ran g c =
    runs_still g.M.HostMemory.does c.loop-count.count c.args.self.now c.args.memory.now c.loop-count.self c.loop-count.memory
    c.turn.new.self c.turn.new.memory c.loop-count.invariant (c.in-Ok-None.ensures.still c.in-Ok-None.field-0-is)
    (c.in-Ok-None.ensures.none_moved c.in-Ok-None.field-0-is)
