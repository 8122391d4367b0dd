-- By SRST before the FIS and behind it.
use Rattle.std.proofs.Common.{sym, ap, ◌∙◌}
use Rattle.hba.specs.History.{State}
use Rattle.hba.specs.SoftwareReset.{resets_behind}
use Rattle.hba.proofs.SoftwareResets.{asserts, drops, falls}
use Rattle.hba.proofs.hba.Hba.take_control.Goals as goal

pub returns-then-resets_behind : goal.returns-then-resets_behind
returns-then-resets_behind g c =
    asserts g.M.HostMemory.does c.args.self.now c.args.memory.now c.enter_reset.new.self c.args.tag c.args.fis.now
    (ap (λ (s : State). resets_behind s.registers.in_reset c.args.fis.now) (sym c.self.view_is)
    ∙ sym c.resets_behind.ensures ∙ c.if-resets_behind.true)
    c.enter_reset.ensures

pub returns-then-self : goal.returns-then-self
returns-then-self g c =
    falls g.M.HostMemory.does c.args.self.now c.args.memory.now c.restart.new.self c.restart.new.memory c.args.tag c.args.fis.now
    (ap (λ (s : State). s.registers.in_reset) (sym c.self.view_is) ∙ c.if-self.true)
    (ap (λ (s : State). resets_behind s.registers.in_reset c.args.fis.now) (sym c.self.view_is)
    ∙ sym c.resets_behind.ensures ∙ c.if-resets_behind.false)
    c.restart.ensures

pub returns-else-self : goal.returns-else-self
returns-else-self g c =
    drops g.M.HostMemory.does c.args.self.now c.args.memory.now c.drop_control.new.self c.args.tag c.args.fis.now
    (ap (λ (s : State). s.registers.in_reset) (sym c.self.view_is) ∙ c.if-self.false)
    (ap (λ (s : State). resets_behind s.registers.in_reset c.args.fis.now) (sym c.self.view_is)
    ∙ sym c.resets_behind.ensures ∙ c.if-resets_behind.false)
    c.drop_control.ensures
