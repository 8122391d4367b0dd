use Rattle.std.proofs.Common.{[]}
use Rattle.drive_scripts.specs.Acts.{received_by}
use Rattle.drive_scripts.specs.Effects.{Makes, command_effect}
use Rattle.drive_scripts.specs.declared.turn.Turn.TheVariants.{Goes}
use Rattle.drive_scripts.proofs.Runs.{as-given}
use Rattle.drive_scripts.proofs.running.RunningPhase.receive.Goals as goal

pub returns : goal.returns
returns c = as-given
    (λ command payload. Makes
    (λ o acts. command_effect o acts c.args.client command payload) c.args.self.now
    c.command.new.self c.args.report.now c.command.new.report (Goes c.in_ok-aborted.aborted))
    c.received_by.result
    (received_by c.args.protocol c.args.sp_specific c.args.blocks) c.clear.new.self.items [] c.received_by.ensures
    c.clear.ensures.items c.in_ok-aborted.ensures
