use Rattle.std.proofs.Common.{ap, ◌∙◌, ◌++◌}
use Rattle.compacket.specs.Spelling.{frame_bytes}
use Rattle.drive_scripts.specs.Acts.{com_id_protocol}
use Rattle.drive_scripts.specs.Effects.{Makes, sends}
use Rattle.drive_scripts.proofs.Runs.{of-same}
use Rattle.drive_scripts.proofs.running.RunningPhase.call.Goals as goal

pub returns : goal.returns
returns c =
    let tokens = c.args.tokens.now in
    of-same c.send_bytes.result
    (λ payload. Makes
    (λ o acts. sends o acts c.args.client com_id_protocol c.args.com_id payload) c.args.self.now
    c.send_bytes.new.self c.args.report.now c.send_bytes.new.report)
    c.put_frame.new.buffer.items (frame_bytes c.args.com_id c.args.session tokens)
    (c.in_ok-put_frame.ensures ∙ ap (frame_bytes c.args.com_id c.args.session)
    (c.deref.ensures.value ∙ c.in_ok-decode_into.ensures.appended
    ∙ ap (λ front. front ++ tokens) c.clear.ensures.items)) c.send_bytes.ensures
