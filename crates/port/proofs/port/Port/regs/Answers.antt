use Rattle.std.proofs.Common.{ℕ, sym, ap, ◌∙◌}
use Rattle.std.specs.Int.{bit_at}
use Rattle.hba_regs.specs.Registers.{Regs}
use Rattle.port.specs.State.{PortState}
use Rattle.port_history.proofs.RegisterProofs.{register_law}
use Rattle.port.proofs.port.Port.regs.Goals as goal

pub returns-clause-active : goal.returns-clause-active
returns-clause-active c = λ o list h tag lt.
    ap (λ (r : Regs). bit_at r.active tag) (c.regs.ensures ∙ ap (λ (s : PortState). s.regs) c.self.view_is ∙ h.regs) ∙ (register_law o list h.lawful tag lt).active

pub returns-clause-issued : goal.returns-clause-issued
returns-clause-issued c = λ o list h tag lt.
    ap (λ (r : Regs). bit_at r.issued tag) (c.regs.ensures ∙ ap (λ (s : PortState). s.regs) c.self.view_is ∙ h.regs) ∙ (register_law o list h.lawful tag lt).issued
