use Rattle.std.proofs.Common.{map, subst}
use Rattle.host_memory.specs.declared.width.AddressWidth.{AddressWidth}
use Rattle.host_memory.specs.Access.{width_by}
use Rattle.opalport_c.specs.HbaCalls.{HbaOver}
use Rattle.std.proofs.lemmas.Result.{IfOk-weaker}
use Rattle.opalport_c.specs.Asked.{row_asked}
use Rattle.opalport_c.proofs.Starts.{hba_starts}
use Rattle.opalport_c.proofs.hbas.hba_asked.Goals as goal

pub returns-clause-made : goal.returns-clause-made
returns-clause-made c =
    IfOk-weaker c.hba_over.result _ _
    (λ object over. (
      over.0,
      over.1,
      over.2,
      (
        c.in_ok-drive.ensures.1.0,
        c.in_ok-drive.ensures.1.1,
        hba_starts (width_by c.args.size.now.wide) c.in_ok-drive.ensures.1.0 (map row_asked c.args.cells.now) c.in_ok-drive.drive over.0.hba
            (subst (λ (w : AddressWidth). HbaOver w c.in_ok-drive.drive over.0.hba) c.by.ensures over.3) c.in_ok-drive.ensures.1.2,
      ),
    ))
    c.hba_over.ensures.made
