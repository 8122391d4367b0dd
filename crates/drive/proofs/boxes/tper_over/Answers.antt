use Rattle.std.proofs.Common.{[], sym, subst}
use Rattle.std.proofs.lemmas.Result.{IfOk-weaker}
use Rattle.history.specs.Opening.{origin_on}
use Rattle.history.specs.Agreement.{HasNoTries}
use Rattle.history.specs.KeptStore.{HasKnownRows}
use Rattle.tper.specs.Tper.{Tper, Keeps}
use Rattle.drive.proofs.boxes.tper_over.Goals as goal

pub returns-clause-kept : goal.returns-clause-kept
returns-clause-kept c =
    let origin = origin_on c.args.tables in
    IfOk-weaker c.boxed.result _ _
    (λ boxed is. subst (λ (t : Tper). HasNoTries origin → HasKnownRows origin → Keeps t origin []) (sym is) c.new.ensures.kept)
    c.boxed.ensures
