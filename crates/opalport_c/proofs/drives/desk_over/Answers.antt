use Rattle.std.proofs.lemmas.Result.{IfOk-weaker}
use Rattle.opalport_c.proofs.drives.desk_over.Goals as goal

pub returns-clause-made : goal.returns-clause-made
returns-clause-made c =
    IfOk-weaker c.boxed.result _ _
    (λ object is. (c.new.result, is, c.new.ensures.new, c.new.ensures.drive))
    c.boxed.ensures.value
