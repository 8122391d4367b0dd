use Rattle.std.proofs.Common.{[], Some, None, refl, subst, sym, ap, ◌∙◌}
use Rattle.drive.specs.State.{Agrees}
use Rattle.port_scripts.proofs.PortTurns.{kept-starts, plain-starts}
use Rattle.port_scripts.proofs.port_desk.PortDesk.new.Goals as goal

pub returns-then-explains : goal.returns-then-explains
returns-then-explains c = λ o runs.
    kept-starts c.args.explains
    (record { phase = c.args.phase; explainer = Some c.new.result }) c.new.result o c.if-explains.true refl runs
    (c.new.ensures o
    (subst (λ drive. Agrees drive o []) (sym (c.drive.ensures ∙ ap (λ port. port.bare.drive) c.port.ensures)) runs.stands.stands.drive))

pub returns : goal.returns
returns c = λ o runs.
    plain-starts c.args.explains (record { phase = c.args.phase; explainer = None }) o c.if-explains.false refl runs
