-- A device in reset takes no command.
use Rattle.std.proofs.Common.{None, sym, ap, ◌∙◌}
use Rattle.hba.specs.declared.work.Done.TheVariants as dones
use Rattle.hba.specs.History.{State}
use Rattle.hba.specs.Engine.{HearsIf, Executes}
use Rattle.hba.proofs.Turns.{told_as, if_turned}
use Rattle.hba.proofs.SoftwareResets.{stays, hears}
use Rattle.hba.proofs.hba.Hba.hear.Goals as goal

pub returns-then-self-clause-done : goal.returns-then-self-clause-done
returns-then-self-clause-done g c =
    told_as g.M.HostMemory.does (λ o a. HearsIf a.registers.in_reset o a c.args.place c.args.tag c.args.fis.now)
    c.args.self.now c.args.memory.now c.stay_busy.new.self c.args.memory.now c.of_control.result dones.Control None c.of_control.ensures
    (stays g.M.HostMemory.does c.args.self.now c.args.memory.now c.stay_busy.new.self c.args.place c.args.tag c.args.fis.now
    (ap (λ (s : State). s.registers.in_reset) (sym c.self.view_is) ∙ c.if-self.true) c.stay_busy.ensures)

pub returns-clause-done : goal.returns-clause-done
returns-clause-done g c =
    if_turned g.M.HostMemory.does (λ o a. HearsIf a.registers.in_reset o a c.args.place c.args.tag c.args.fis.now)
    (λ o a. Executes o a c.args.place c.args.tag c.args.fis.now)
    c.args.self.now c.args.memory.now c.args.memory.now c.execute.new.self c.execute.new.memory c.execute.result
    (λ done heard t.
    hears g.M.HostMemory.does c.args.self.now c.args.memory.now c.execute.new.self c.execute.new.memory done heard c.args.place c.args.tag c.args.fis.now
    (ap (λ (s : State). s.registers.in_reset) (sym c.self.view_is) ∙ c.if-self.false) t)
    c.execute.ensures.done
