use Rattle.std.proofs.Common.{map}
use Rattle.std.proofs.lemmas.Result.{IfOk-weaker}
use Rattle.opalport_c.specs.Asked.{row_asked}
use Rattle.opalport_c.proofs.Starts.{port_starts}
use Rattle.opalport_c.proofs.ports.port_asked.Goals as goal

pub returns-clause-made : goal.returns-clause-made
returns-clause-made c =
    IfOk-weaker c.port_over.result _ _
    (λ object over. (
      over.0,
      over.1,
      over.2,
      (
        c.in_ok-drive.ensures.1.0,
        c.in_ok-drive.ensures.1.1,
        port_starts c.in_ok-drive.ensures.1.0 (map row_asked c.args.cells.now) c.in_ok-drive.drive over.0.port over.3
            c.in_ok-drive.ensures.1.2,
      ),
    ))
    c.port_over.ensures.made
