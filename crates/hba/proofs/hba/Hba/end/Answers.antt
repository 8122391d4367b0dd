-- The room is taken, and put back.
use Rattle.std.proofs.Common.{[], None, refl, ◌∙◌}
use Rattle.std.proofs.lemmas.Result.{on_err_weaker}
use Rattle.history.specs.History.{Complete}
use Rattle.host_memory.proofs.hba_memory.Talks.{on_err}
use Rattle.hba.specs.History.{Completed}
use Rattle.hba.specs.Engine.{ServesSo}
use Rattle.hba.proofs.Turns.{turn_between}
use Rattle.hba.proofs.hba.Hba.end.Goals as goal

pub returns-in_err-room-clause-kept : goal.returns-in_err-room-clause-kept
returns-in_err-room-clause-kept g c = on_err c.from_residual.result _ ([], tt, refl)

pub returns-clause-done : goal.returns-clause-done
returns-clause-done g c =
    turn_between g.M.HostMemory.does (λ o a. ServesSo o a c.args.place c.args.len None (Complete c.args.tag) (Completed c.args.tag)) c.args.self.now c.take_room.new.self c.args.memory.now
    c.end_in-outcome.new.self c.put_back.new.self c.end_in-outcome.new.memory c.end_in-outcome.result
    c.in_ok-room.ensures.same c.put_back.ensures c.end_in-outcome.ensures.done

pub returns-clause-err : goal.returns-clause-err
returns-clause-err g c =
    on_err_weaker c.end_in-outcome.result (λ h. c.put_back.ensures ∙ h ∙ c.in_ok-room.ensures.same)
    c.end_in-outcome.ensures.err
