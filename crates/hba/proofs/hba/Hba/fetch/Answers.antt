-- The header is read, and the FIS.
use Rattle.std.proofs.lemmas.Bool.Decides.{nat_tests}
use Rattle.std.proofs.Common.{arith, Some, None, Ok, Err, ap, sym, refl, ◌∙◌}
use Rattle.hba.specs.declared.work.Done.TheVariants as dones
use Rattle.hba.specs.Showing.{fault_of}
use Rattle.hba.specs.Engine.{HearsIf, Fetches, FetchesFrom, FetchesFis, place_of}
use Rattle.std.proofs.lemmas.Result.{on_err_weaker}
use Rattle.hba.proofs.Turns.{told_as, turn_missed, fetch_header, fetch_fis, fetch_control, fetch_hears, if_turned, read_first}
use Rattle.host_memory.specs.declared.hba_memory.miss.Miss.TheVariants as misses
use Rattle.host_memory.specs.declared.width.AddressWidth.{AddressWidth}
use Rattle.host_memory.specs.Access.{IsAccess}
use Rattle.host_memory.specs.Memory.{header_by}
use Rattle.hba.proofs.hba.Hba.fetch.Goals as goal

pub returns-in-Err-clause-done : goal.returns-in-Err-clause-done
returns-in-Err-clause-done g c =
    told_as g.M.HostMemory.does (λ o a. Fetches o a c.args.tag) c.args.self.now c.args.memory.now c.miss.new.self c.read_array.new.memory c.miss.result
    (dones.Fault (fault_of c.in-Err.miss)) None c.miss.ensures.told
    (fetch_header g.M.HostMemory.does c.args.self.now c.args.memory.now c.read_array.new.memory c.miss.new.self c.read_array.new.memory (dones.Fault (fault_of c.in-Err.miss)) None c.args.tag
    c.read_array.result (Err c.in-Err.miss) (ap (λ (w : AddressWidth). header_by w c.read_array.result) (sym c.width-width.ensures) ∙ sym c.header_by.ensures ∙ c.in-Err.is)
    (rw (c.header_at.ensures.value, c.width-width.ensures) at c.read_array.ensures)
    (turn_missed g.M.HostMemory.does (λ o a. FetchesFrom o a c.args.tag (Err c.in-Err.miss)) c.args.self.now c.read_array.new.memory c.miss.new.self
    (Some c.args.tag) c.in-Err.miss (λ o list a. (refl, refl)) c.miss.ensures.agrees))

pub returns-in_default-clause-done : goal.returns-in_default-clause-done
returns-in_default-clause-done g c =
    told_as g.M.HostMemory.does (λ o a. Fetches o a c.args.tag) c.args.self.now c.args.memory.now c.miss-in_default.new.self c.read_array-2.new.memory c.miss-in_default.result
    (dones.Fault (fault_of misses.Table)) None c.miss-in_default.ensures.told
    (fetch_header g.M.HostMemory.does c.args.self.now c.args.memory.now c.read_array.new.memory c.miss-in_default.new.self c.read_array-2.new.memory (dones.Fault (fault_of misses.Table)) None c.args.tag
    c.read_array.result (Ok c.in-Ok.header) (ap (λ (w : AddressWidth). header_by w c.read_array.result) (sym c.width-width.ensures) ∙ sym c.header_by.ensures ∙ c.in-Ok.is)
    (rw (c.header_at.ensures.value, c.width-width.ensures) at c.read_array.ensures)
    (fetch_fis g.M.HostMemory.does c.args.self.now c.read_array.new.memory c.read_array-2.new.memory c.miss-in_default.new.self c.read_array-2.new.memory
    (dones.Fault (fault_of misses.Table)) None c.args.tag c.in-Ok.header None
    (rw (c.from.ensures, c.in_default.is, c.width-width.ensures) at c.read_array-2.ensures)
    (turn_missed g.M.HostMemory.does (λ o a. FetchesFis o a (place_of a.registers c.args.tag c.in-Ok.header) c.args.tag None) c.args.self.now c.read_array-2.new.memory
    c.miss-in_default.new.self (Some c.args.tag) misses.Table (λ o list a. (refl, refl)) c.miss-in_default.ensures.agrees)))

pub returns-then-not-is_command-clause-done : goal.returns-then-not-is_command-clause-done
returns-then-not-is_command-clause-done g c =
    fetch_header g.M.HostMemory.does c.args.self.now c.args.memory.now c.read_array.new.memory c.control.new.self c.control.new.memory c.control.result.done c.control.result.heard c.args.tag
    c.read_array.result (Ok c.in-Ok.header) (ap (λ (w : AddressWidth). header_by w c.read_array.result) (sym c.width-width.ensures) ∙ sym c.header_by.ensures ∙ c.in-Ok.is)
    (rw (c.header_at.ensures.value, c.width-width.ensures) at c.read_array.ensures)
    (fetch_fis g.M.HostMemory.does c.args.self.now c.read_array.new.memory c.read_array-2.new.memory c.control.new.self c.control.new.memory
    c.control.result.done c.control.result.heard c.args.tag c.in-Ok.header (Some c.in-Some.fis)
    (rw (c.from.ensures, c.in-Some.is, c.width-width.ensures) at c.read_array-2.ensures)
    (fetch_control g.M.HostMemory.does c.args.self.now c.read_array-2.new.memory c.control.new.self c.control.new.memory c.control.result.done c.control.result.heard
    c.args.tag c.in-Ok.header c.in-Some.fis
    (sym c.is_command.ensures ∙ c.if-not-is_command.true) c.control.ensures))

pub hear-requires-clause-kind : goal.hear-requires-clause-kind
hear-requires-clause-kind g c =
    let is = sym c.is_command.ensures ∙ c.if-not-is_command.false in
    grind (arith, nat_tests, is)

pub returns-clause-done : goal.returns-clause-done
returns-clause-done g c =
    if_turned g.M.HostMemory.does (λ o a. Fetches o a c.args.tag) (λ o a. HearsIf a.registers.in_reset o a c.place_of-place.result c.args.tag c.in-Some.fis)
    c.args.self.now c.args.memory.now c.read_array-2.new.memory c.hear.new.self c.hear.new.memory c.hear.result
    (λ done heard t.
    fetch_header g.M.HostMemory.does c.args.self.now c.args.memory.now c.read_array.new.memory c.hear.new.self c.hear.new.memory done heard c.args.tag
    c.read_array.result (Ok c.in-Ok.header) (ap (λ (w : AddressWidth). header_by w c.read_array.result) (sym c.width-width.ensures) ∙ sym c.header_by.ensures ∙ c.in-Ok.is)
    (rw (c.header_at.ensures.value, c.width-width.ensures) at c.read_array.ensures)
    (fetch_fis g.M.HostMemory.does c.args.self.now c.read_array.new.memory c.read_array-2.new.memory c.hear.new.self c.hear.new.memory
    done heard c.args.tag c.in-Ok.header (Some c.in-Some.fis)
    (rw (c.from.ensures, c.in-Some.is, c.width-width.ensures) at c.read_array-2.ensures)
    (fetch_hears g.M.HostMemory.does c.args.self.now c.read_array-2.new.memory c.hear.new.self c.hear.new.memory done heard c.args.tag c.in-Ok.header
    c.in-Some.fis c.place_of-place.result (sym c.is_command.ensures ∙ c.if-not-is_command.false) c.place_of-place.ensures.value t)))
    c.hear.ensures.done

pub returns-clause-kept : goal.returns-clause-kept
returns-clause-kept g c =
    on_err_weaker c.hear.result
    (λ h. read_first (IsAccess c.args.self.now.registers.width g.M.HostMemory.does) c.args.memory.now c.read_array.new.memory c.hear.new.memory _ _ _ (rw c.width-width.ensures at c.read_array.ensures)
    (read_first (IsAccess c.args.self.now.registers.width g.M.HostMemory.does) c.read_array.new.memory c.read_array-2.new.memory c.hear.new.memory _ _ _ (rw c.width-width.ensures at c.read_array-2.ensures) h))
    c.hear.ensures.kept
