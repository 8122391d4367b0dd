use Rattle.std.proofs.Common.{refl, sym, ◌∙◌, subst}
use Rattle.port_scripts.specs.PortEffects.{PortDoes}
use Rattle.port_scripts.proofs.PortTurns.{does-asked, does-unasked}
use Rattle.port_scripts.proofs.port_phase.PortPhase.act.Goals as goal

pub returns-in_default : goal.returns-in_default
returns-in_default c = λ o list runs.
    subst
    (λ turn. PortDoes c.args.line.now c.args.text.now turn c.args.self.now c.args.self.now o list c.args.report.now
    c.args.report.now)
    (sym c.turn_without.ensures)
    (does-unasked c.args.line.now c.args.text.now c.args.self.now o list c.args.report.now
    (sym c.in_ok-step.ensures ∙ c.in_default.is))

pub returns : goal.returns
returns c = λ o list runs.
    does-asked c.args.line.now c.in-Some.step c.args.text.now c.args.self.now c.step.new.self o list c.args.report.now
    c.step.new.report (sym c.in_ok-step.ensures ∙ c.in-Some.is) (c.in_ok-step-2.ensures o list runs).0
