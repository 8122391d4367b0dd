use Rattle.drive_scripts.specs.Acts.{read_of}
use Rattle.drive_scripts.specs.Effects.{Makes, transferred}
use Rattle.drive_scripts.specs.declared.turn.Turn.TheVariants.{Goes}
use Rattle.drive_scripts.proofs.Runs.{as-asked}
use Rattle.drive_scripts.proofs.running.RunningPhase.read.Goals as goal

pub returns : goal.returns
returns c = as-asked
    (λ command. Makes
    (λ o acts. transferred o acts command c.args.transfer.now 0) c.args.self.now
    c.transfer.new.self c.args.report.now c.transfer.new.report (Goes c.in_ok-aborted.aborted))
    c.read_of.result
    (read_of c.args.transfer.now) c.read_of.ensures.value c.in_ok-aborted.ensures
