use Rattle.std.proofs.Common.{ap, ◌∙◌, length}
use Rattle.drive_scripts.specs.Acts.{sent_by, block_count, in_blocks}
use Rattle.drive_scripts.specs.Effects.{Makes, command_effect}
use Rattle.drive_scripts.specs.declared.turn.Turn.TheVariants.{Goes}
use Rattle.drive_scripts.proofs.Runs.{as-given}
use Rattle.drive_scripts.proofs.running.RunningPhase.send_bytes.Goals as goal

pub returns : goal.returns
returns c =
    let bytes = c.args.self.now.payload.items in
    as-given
    (λ command payload. Makes
    (λ o acts. command_effect o acts c.args.client command payload) c.args.self.now
    c.command.new.self c.args.report.now c.command.new.report (Goes c.in_ok-aborted.aborted))
    c.sent_by.result (sent_by c.args.protocol c.args.sp_specific (block_count (length bytes))) _ (in_blocks bytes)
    (c.sent_by.ensures ∙ ap (sent_by c.args.protocol c.args.sp_specific) c.in_ok-blocks.ensures.blocks)
    c.in_ok-blocks.ensures.bytes c.in_ok-aborted.ensures
