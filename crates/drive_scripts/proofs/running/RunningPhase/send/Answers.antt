use Rattle.std.proofs.Common.{ap, ◌∙◌, ◌++◌}
use Rattle.drive_scripts.specs.Effects.{Makes, sends}
use Rattle.drive_scripts.proofs.Runs.{of-same}
use Rattle.drive_scripts.proofs.running.RunningPhase.send.Goals as goal

pub returns : goal.returns
returns c = of-same c.send_bytes.result
    (λ payload. Makes
    (λ o acts. sends o acts c.args.client c.args.protocol c.args.sp_specific payload) c.args.self.now
    c.send_bytes.new.self c.args.report.now c.send_bytes.new.report)
    c.decode_into.new.bytes.items c.args.payload.now
    (c.in_ok-decode_into.ensures.appended
    ∙ ap (λ front. front ++ c.args.payload.now) c.clear.ensures.items) c.send_bytes.ensures
