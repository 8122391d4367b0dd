use Rattle.std.proofs.Common.{[]}
use Rattle.drive_scripts.specs.Acts.{read_dma_of}
use Rattle.drive_scripts.specs.Effects.{Makes, command_effect}
use Rattle.drive_scripts.specs.declared.turn.Turn.TheVariants.{Goes}
use Rattle.drive_scripts.proofs.Runs.{as-given}
use Rattle.drive_scripts.proofs.running.RunningPhase.read_dma.Goals as goal

pub returns : goal.returns
returns c = as-given
    (λ command payload. Makes
    (λ o acts. command_effect o acts c.args.transfer.now.client command payload) c.args.self.now
    c.command.new.self c.args.report.now c.command.new.report (Goes c.in_ok-aborted.aborted))
    c.read_dma_of.result (read_dma_of c.args.transfer.now) c.clear.new.self.items []
    c.read_dma_of.ensures.value c.clear.ensures.items c.in_ok-aborted.ensures
