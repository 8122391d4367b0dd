use Rattle.hba.specs.Engine.{Runs}
use Rattle.hba.proofs.hba.Hba.run.Given as goal

abbrev pub invariant-loop-count : goal.invariant-loop-count
invariant-loop-count g l =
    Runs g.M.HostMemory.does l.count l.initial.self l.initial.memory l.self l.memory
