use Rattle.std.proofs.Common.{sym, subst}
use Rattle.std.proofs.lemmas.Result.{IfOk-weaker}
use Rattle.hba.specs.History.{State}
use Rattle.opalport_c.specs.HbaCalls.{HbaOver}
use Rattle.opalport_c.proofs.hbas.hba_over.Goals as goal

pub returns-clause-made : goal.returns-clause-made
returns-clause-made c =
    IfOk-weaker c.boxed.result _ _
    (λ object is. (
      c.new.result,
      is,
      c.new.ensures.denied,
      subst (λ (h : State). HbaOver c.args.width c.args.drive h) (sym c.new.ensures.hba) c.with_addresses.ensures,
    ))
    c.boxed.ensures.value
