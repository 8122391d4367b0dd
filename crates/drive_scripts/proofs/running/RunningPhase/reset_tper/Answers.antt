use Rattle.drive_scripts.specs.Acts.{tper_reset, zero_block}
use Rattle.drive_scripts.specs.Effects.{Makes, command_effect}
use Rattle.drive_scripts.specs.declared.turn.Turn.TheVariants.{Goes}
use Rattle.drive_scripts.proofs.Runs.{as-given}
use Rattle.drive_scripts.proofs.running.RunningPhase.reset_tper.Goals as goal

pub returns : goal.returns
returns c = as-given
    (λ command payload. Makes
    (λ o acts. command_effect o acts c.args.client command payload) c.args.self.now
    c.command.new.self c.args.report.now c.command.new.report (Goes c.in_ok-aborted.aborted))
    c.tper_reset.result
    tper_reset c.fill.new.buffer.items zero_block c.tper_reset.ensures
    c.in_ok-fill.ensures c.in_ok-aborted.ensures
