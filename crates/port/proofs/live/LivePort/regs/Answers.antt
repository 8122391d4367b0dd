use Rattle.std.proofs.Common.{ℕ, sym, ap, ◌∙◌}
use Rattle.std.specs.Int.{bit_at}
use Rattle.hba_regs.specs.Registers.{Regs}
use Rattle.port.specs.Live.{LiveState}
use Rattle.port_history.proofs.RegisterProofs.{register_law}
use Rattle.port.proofs.live.LivePort.regs.Goals as goal

pub returns-clause-active : goal.returns-clause-active
returns-clause-active c = λ o list h tag lt.
    ap (λ (r : Regs). bit_at r.active tag) (c.regs.ensures ∙ ap (λ (s : LiveState). s.bare.regs) c.self.view_is ∙ h.stands.regs) ∙ (register_law o list h.stands.lawful tag lt).active

pub returns-clause-issued : goal.returns-clause-issued
returns-clause-issued c = λ o list h tag lt.
    ap (λ (r : Regs). bit_at r.issued tag) (c.regs.ensures ∙ ap (λ (s : LiveState). s.bare.regs) c.self.view_is ∙ h.stands.regs) ∙ (register_law o list h.stands.lawful tag lt).issued
