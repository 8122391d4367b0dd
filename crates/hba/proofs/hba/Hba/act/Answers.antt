-- The work that was matched.
use Rattle.history.specs.Answers.{expected}
use Rattle.drive.specs.Queue.{held_at}
use Rattle.hba.specs.declared.work.Work.TheVariants as works
use Rattle.hba.specs.Engine.{Completes, IsWork}
use Rattle.hba.proofs.Turns.{by_work, completes, if_turned}
use Rattle.hba.proofs.hba.Hba.act.Goals as goal

pub returns-in-Fetch-clause-done : goal.returns-in-Fetch-clause-done
returns-in-Fetch-clause-done g c =
    by_work g.M.HostMemory.does c.args.work.now (works.Fetch c.in-Fetch.tag) c.args.self.now c.args.memory.now
    c.fetch.new.self c.fetch.new.memory c.fetch.result c.in-Fetch.is c.fetch.ensures.done

pub returns-in-Complete-clause-done : goal.returns-in-Complete-clause-done
returns-in-Complete-clause-done g c =
    by_work g.M.HostMemory.does c.args.work.now (works.Complete c.in-Complete.tag) c.args.self.now c.args.memory.now
    c.complete.new.self c.complete.new.memory c.complete.result c.in-Complete.is
    (if_turned g.M.HostMemory.does (IsWork (works.Complete c.in-Complete.tag))
    (λ o a. Completes o a c.in-Complete.tag (expected (held_at c.args.self.now.drive.queue c.in-Complete.tag)))
    c.args.self.now c.args.memory.now c.args.memory.now c.complete.new.self c.complete.new.memory c.complete.result
    (λ done heard t.
    completes g.M.HostMemory.does c.args.self.now c.args.memory.now c.complete.new.self c.complete.new.memory done heard
    c.in-Complete.tag t) c.complete.ensures.done)
