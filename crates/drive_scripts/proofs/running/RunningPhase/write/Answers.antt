use Rattle.drive_scripts.specs.Acts.{write_of}
use Rattle.drive_scripts.specs.Effects.{Makes, transferred}
use Rattle.drive_scripts.specs.declared.turn.Turn.TheVariants.{Goes}
use Rattle.drive_scripts.proofs.Runs.{as-asked}
use Rattle.drive_scripts.proofs.running.RunningPhase.write.Goals as goal

pub returns : goal.returns
returns c = as-asked
    (λ command. Makes
    (λ o acts. transferred o acts command c.args.transfer.now c.args.byte) c.args.self.now
    c.transfer.new.self c.args.report.now c.transfer.new.report (Goes c.in_ok-aborted.aborted))
    c.write_of.result
    (write_of c.args.transfer.now) c.write_of.ensures.value c.in_ok-aborted.ensures
