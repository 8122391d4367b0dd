-- Memory fails before the act, or the drive acts.
use Rattle.std.proofs.Common.{Some, None, Ok, ap, sym, refl}
use Rattle.history.specs.History.{Complete}
use Rattle.host_memory.proofs.hba_memory.Talks.{on_err}
use Rattle.hba.specs.declared.work.Done.{Done}
use Rattle.hba.specs.declared.work.Done.TheVariants as dones
use Rattle.hba.specs.Showing.{fault_of}
use Rattle.hba.specs.History.{Completed}
use Rattle.hba.specs.Engine.{ServesSo}
use Rattle.hba.proofs.Turns.{told_as, serves_missed, serves_done, adds_completed, shown_completed, brought_reads, turn_kept}
use Rattle.host_memory.specs.Access.{IsAccess}
use Rattle.hba.proofs.hba.Hba.end_in.Goals as goal

pub returns-in-Err-clause-done : goal.returns-in-Err-clause-done
returns-in-Err-clause-done g c =
    let brought = rw (c.width-width.ensures, c.descriptors-at.ensures.value, c.requires.long, c.in-Err.is) at c.gather.ensures in
    told_as g.M.HostMemory.does (λ o a. ServesSo o a c.args.place c.args.len None (Complete c.args.tag) (Completed c.args.tag)) c.args.self.now c.args.memory.now c.miss.new.self
    c.gather.new.memory c.miss.result (dones.Fault (fault_of c.in-Err.miss)) None c.miss.ensures.told
    (serves_missed g.M.HostMemory.does c.args.place c.args.len None (Complete c.args.tag) (Completed c.args.tag)
    c.args.self.now c.args.memory.now c.miss.new.self c.gather.new.memory c.in-Err.miss
    (brought.0, brought.1, brought.2)
    c.miss.ensures.agrees)

pub returns-in_err-completed-clause-kept : goal.returns-in_err-completed-clause-kept
returns-in_err-completed-clause-kept g c =
    let brought = rw (c.width-width.ensures, c.descriptors-at.ensures.value, c.requires.long, c.in-Ok.is) at c.gather.ensures in
    on_err c.from_residual.result _
    (brought_reads (IsAccess c.args.self.now.registers.width g.M.HostMemory.does) c.args.place c.args.len c.args.memory.now c.gather.new.memory (Ok c.gather.new.room)
    (brought.0, brought.1, brought.2))

pub returns-clause-done : goal.returns-clause-done
returns-clause-done g c =
    let brought = rw (c.width-width.ensures, c.descriptors-at.ensures.value, c.requires.long, c.in-Ok.is) at c.gather.ensures in
    let gives = rw (← c.fises-told.ensures, ← c.as_slice-fises.ensures.value, ← c.as_slice-bytes.ensures.value) at c.in_ok-completed.ensures.effect in
    turn_kept g.M.HostMemory.does (λ o a. ServesSo o a c.args.place c.args.len None (Complete c.args.tag) (Completed c.args.tag)) c.args.self.now c.args.memory.now c.show-done.new.self c.give_back.new.self
    c.deliver-delivered.new.memory c.show-done.result None c.give_back.ensures
    (serves_done g.M.HostMemory.does c.args.place c.args.len None (Complete c.args.tag) (Completed c.args.tag)
    c.args.self.now c.args.memory.now c.gather.new.memory c.show-done.new.self c.deliver-delivered.new.memory
    c.gather.new.room c.as_slice-fises.result.now c.as_slice-bytes.result.now c.in-Ok.brought c.deliver-delivered.result
    c.show-done.result None
    brought
    (rw c.width-width.ensures at c.deliver-delivered.ensures)
    (ap (λ (d : Done). Some d) (sym c.show-done.ensures.told))
    gives
    (adds_completed c.args.self.now c.finish.new.self c.show-done.new.self c.args.tag c.gather.new.room
    c.as_slice-fises.result.now c.as_slice-bytes.result.now c.deliver-delivered.result
    c.in_ok-completed.ensures.acted gives
    (shown_completed c.args.self.now c.finish.new.self c.show-done.new.self c.args.tag c.as_slice-fises.result.now
    c.deliver-delivered.result c.in_ok-completed.ensures.registers c.show-done.ensures.shown))
    (λ o list a. refl))
