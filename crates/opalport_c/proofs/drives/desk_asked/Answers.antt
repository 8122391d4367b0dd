use Rattle.std.proofs.Common.{map, sym, subst}
use Rattle.std.proofs.lemmas.Result.{IfOk-weaker}
use Rattle.drive.specs.State.{DriveState}
use Rattle.opalport_c.specs.Asked.{StartsAs, row_asked}
use Rattle.opalport_c.proofs.drives.desk_asked.Goals as goal

pub returns-clause-made : goal.returns-clause-made
returns-clause-made c =
    IfOk-weaker c.desk_over.result _ _
    (λ object over. (
      over.0,
      over.1,
      over.2,
      (
        c.in_ok-drive.ensures.1.0,
        c.in_ok-drive.ensures.1.1,
        subst (λ (d : DriveState). StartsAs c.in_ok-drive.ensures.1.0 (map row_asked c.args.cells.now) d)
            (sym over.3) c.in_ok-drive.ensures.1.2,
      ),
    ))
    c.desk_over.ensures.made
