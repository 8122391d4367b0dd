use Rattle.std.proofs.Common.{◌∙◌, ◌++◌, List, ℕ, ap}
use Rattle.port_scripts.proofs.PortTold.{explains-done, explains-refused}
use Rattle.port_scripts.proofs.explaining.explain_step.Goals as goal

pub returns-in-Some-clause-explains : goal.returns-in-Some-clause-explains
returns-in-Some-clause-explains c = λ o past before-it agrees kept.
    explains-refused o past c.args.step.now c.args.line c.args.refused c.in-Some.error c.in_ok-text.text.items
    c.args.port.now c.args.explainer.now c.args.report.now _ c.in-Some.is
    (c.in_ok-extend_from_slice.ensures.items
    ∙ ap (λ (t : List ℕ). c.args.report.now.pending.items ++ t) c.deref.ensures.value)
    agrees c.in_ok-text.ensures kept

pub returns-clause-explains : goal.returns-clause-explains
returns-clause-explains c = λ o past before-it agrees kept.
    explains-done o past c.args.step.now c.args.line c.args.refused c.in_ok-text-2.text.items c.args.port.now c.args.ahead.now
    c.note_step.new.explainer c.args.report.now _ c.in_default.is
    (c.in_ok-extend_from_slice-2.ensures.items
    ∙ ap (λ (t : List ℕ). c.args.report.now.pending.items ++ t) c.deref-2.ensures.value)
    before-it agrees
    (λ now it. c.in_ok-text-2.ensures o past now it kept)
    (λ now it. c.note_step.ensures o past c.args.step.now now it kept)
