-- The room is taken, and put back.
use Rattle.std.proofs.Common.{[], refl, ◌∙◌}
use Rattle.std.proofs.lemmas.Result.{on_err_weaker}
use Rattle.host_memory.proofs.hba_memory.Talks.{on_err}
use Rattle.hba.specs.Engine.{Executes}
use Rattle.hba.proofs.Turns.{turn_between}
use Rattle.hba.proofs.hba.Hba.execute.Goals as goal

pub returns-in_err-room-clause-kept : goal.returns-in_err-room-clause-kept
returns-in_err-room-clause-kept g c = on_err c.from_residual.result _ ([], tt, refl)

pub returns-clause-done : goal.returns-clause-done
returns-clause-done g c =
    turn_between g.M.HostMemory.does (λ o a. Executes o a c.args.place c.args.tag c.args.fis.now) c.args.self.now c.take_room.new.self c.args.memory.now
    c.execute_in-outcome.new.self c.execute_in-outcome.new.self c.execute_in-outcome.new.memory c.execute_in-outcome.result
    c.in_ok-room.ensures.same refl c.execute_in-outcome.ensures.done

pub returns-clause-err : goal.returns-clause-err
returns-clause-err g c =
    on_err_weaker c.execute_in-outcome.result (λ h. h ∙ c.in_ok-room.ensures.same)
    c.execute_in-outcome.ensures.err
