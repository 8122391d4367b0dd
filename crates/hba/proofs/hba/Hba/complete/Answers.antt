-- The header is read.
use Rattle.std.proofs.Common.{◌≡◌, None, Ok, Err, ap, sym, refl, ◌∙◌}
use Rattle.history.specs.Answers.{expected}
use Rattle.history.specs.History.{Complete}
use Rattle.hba.specs.declared.work.Done.TheVariants as dones
use Rattle.hba.specs.Showing.{fault_of}
use Rattle.hba.specs.History.{State, Completed}
use Rattle.hba.specs.Engine.{ServesSo, Completes, CompletesFrom}
use Rattle.std.proofs.lemmas.Result.{on_err_weaker}
use Rattle.drive.specs.Queue.{held_at}
use Rattle.hba.proofs.Turns.{told_as, turn_missed, complete_header, complete_serves, if_turned, read_first}
use Rattle.host_memory.specs.declared.width.AddressWidth.{AddressWidth}
use Rattle.host_memory.specs.Access.{IsAccess}
use Rattle.host_memory.specs.Memory.{header_by}
use Rattle.hba.proofs.hba.Hba.complete.Goals as goal

pub returns-in-Err-clause-done : goal.returns-in-Err-clause-done
returns-in-Err-clause-done g c =
    told_as g.M.HostMemory.does (λ o a. Completes o a c.args.tag (expected (held_at c.args.self.now.drive.queue c.args.tag))) c.args.self.now c.args.memory.now c.miss.new.self c.read_array.new.memory c.miss.result
    (dones.Fault (fault_of c.in-Err.miss)) None c.miss.ensures.told
    (complete_header g.M.HostMemory.does c.args.self.now c.args.memory.now c.read_array.new.memory c.miss.new.self c.read_array.new.memory (dones.Fault (fault_of c.in-Err.miss)) None c.args.tag
    (expected (held_at c.args.self.now.drive.queue c.args.tag))
    c.read_array.result (Err c.in-Err.miss) (ap (λ (w : AddressWidth). header_by w c.read_array.result) (sym c.width-width.ensures) ∙ sym c.header_by.ensures ∙ c.in-Err.is)
    (rw (c.header_at.ensures.value, c.width-width.ensures) at c.read_array.ensures)
    (turn_missed g.M.HostMemory.does (λ o a. CompletesFrom o a c.args.tag (expected (held_at c.args.self.now.drive.queue c.args.tag)) (Err c.in-Err.miss)) c.args.self.now c.read_array.new.memory c.miss.new.self
    None c.in-Err.miss (λ o list a. (refl, refl)) c.miss.ensures.agrees))

pub returns-clause-done : goal.returns-clause-done
returns-clause-done g c =
    let len : c.expects-len.result ≡ expected (held_at c.args.self.now.drive.queue c.args.tag) =
    c.expects-len.ensures.stands ∙ ap (λ (s : State). expected (held_at s.drive.queue c.args.tag)) c.self.view_is in
    if_turned g.M.HostMemory.does (λ o a. Completes o a c.args.tag (expected (held_at c.args.self.now.drive.queue c.args.tag)))
    (λ o a. ServesSo o a c.place_of-place.result (expected (held_at c.args.self.now.drive.queue c.args.tag)) None (Complete c.args.tag) (Completed c.args.tag))
    c.args.self.now c.args.memory.now c.read_array.new.memory c.end.new.self c.end.new.memory c.end.result
    (λ done heard t.
    complete_header g.M.HostMemory.does c.args.self.now c.args.memory.now c.read_array.new.memory c.end.new.self c.end.new.memory done heard c.args.tag
    (expected (held_at c.args.self.now.drive.queue c.args.tag))
    c.read_array.result (Ok c.in-Ok.header) (ap (λ (w : AddressWidth). header_by w c.read_array.result) (sym c.width-width.ensures) ∙ sym c.header_by.ensures ∙ c.in-Ok.is)
    (rw (c.header_at.ensures.value, c.width-width.ensures) at c.read_array.ensures)
    (complete_serves g.M.HostMemory.does c.args.self.now c.read_array.new.memory c.end.new.self c.end.new.memory done heard c.args.tag
    (expected (held_at c.args.self.now.drive.queue c.args.tag)) c.in-Ok.header c.place_of-place.result c.place_of-place.ensures.value t))
    (rw len at c.end.ensures.done)

pub returns-clause-kept : goal.returns-clause-kept
returns-clause-kept g c =
    on_err_weaker c.end.result
    (λ h. read_first (IsAccess c.args.self.now.registers.width g.M.HostMemory.does) c.args.memory.now c.read_array.new.memory c.end.new.memory _ _ _ (rw c.width-width.ensures at c.read_array.ensures) h)
    c.end.ensures.kept
