use Rattle.std.proofs.Common.{◌≡◌, None, subst, sym}
use Rattle.std.proofs.lemmas.Result.{IfOk-weaker}
use Rattle.port_history.specs.Refusals.{refusal}
use Rattle.port_history.specs.Steps.{trace}
use Rattle.port_scripts.specs.PortReasons.{Brings}
use Rattle.port_scripts.proofs.PortActs.{accepted-brings}
use Rattle.port_scripts.proofs.ahead.brought_by.Goals as goal

pub returns-in-Accept : goal.returns-in-Accept
returns-in-Accept c =
    IfOk-weaker c.accepted.result _ _
    (λ brought brings. λ o list agrees lawful.
    subst (λ step. Brings brought o list step) (sym c.in-Accept.is)
    (accepted-brings c.args.port.now brought o list c.in-Accept.tag c.accepted.ensures.slot brings agrees
    (subst (λ step. refusal (trace o list) step ≡ None) c.in-Accept.is lawful)))
    c.accepted.ensures.brings
