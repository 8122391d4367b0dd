use Rattle.std.proofs.Common.{sym, subst}
use Rattle.std.proofs.lemmas.Result.{IfOk-weaker}
use Rattle.port.specs.Live.{LiveState}
use Rattle.opalport_c.specs.PortCalls.{PortOver}
use Rattle.opalport_c.proofs.ports.port_over.Goals as goal

pub returns-in-Ok-clause-made : goal.returns-in-Ok-clause-made
returns-in-Ok-clause-made c =
    IfOk-weaker c.boxed.result _ _
    (λ object is. (
      c.new-in-Ok.result,
      is,
      c.new-in-Ok.ensures.last,
      subst (λ (p : LiveState). PortOver c.args.drive p) (sym c.new-in-Ok.ensures.port) c.in-Ok.ensures.agrees,
    ))
    c.boxed.ensures.value
