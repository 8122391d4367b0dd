use Rattle.std.proofs.Common.{ap, ◌∙◌, ◌*◌, replicate}
use Rattle.trusted_cmds.specs.Commands.{sector_size}
use Rattle.drive_scripts.specs.Acts.{write_dma_of, write_bytes}
use Rattle.drive_scripts.specs.Effects.{Makes, command_effect}
use Rattle.drive_scripts.specs.declared.turn.Turn.TheVariants.{Goes}
use Rattle.drive_scripts.proofs.Runs.{as-given}
use Rattle.drive_scripts.proofs.running.RunningPhase.write_dma.Goals as goal

pub returns : goal.returns
returns c = as-given
    (λ command payload. Makes
    (λ o acts. command_effect o acts c.args.transfer.now.client command payload) c.args.self.now
    c.command.new.self c.args.report.now c.command.new.report (Goes c.in_ok-aborted.aborted))
    c.write_dma_of.result (write_dma_of c.args.transfer.now) c.fill.new.buffer.items
    (write_bytes c.args.transfer.now c.args.byte) c.write_dma_of.ensures.value
    (c.in_ok-fill.ensures ∙ ap (λ n. replicate (sector_size * n) c.args.byte) c.sectors.ensures.value)
    c.in_ok-aborted.ensures
