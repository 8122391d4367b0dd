use Rattle.std.proofs.Common.{◌∙◌, ap, sym}
use Rattle.std.proofs.lemmas.Result.{IfOk-weaker}
use Rattle.hex.specs.Hex.{decode_of}
use Rattle.compacket.specs.Frames.{reading}
use Rattle.judged.specs.SessionNumbers.{received_by_bytes, received_by_frame}
use Rattle.judged.proofs.received.packet_told.Goals as goal

pub returns-in-Ok-clause-exact : goal.returns-in-Ok-clause-exact
returns-in-Ok-clause-exact c =
    IfOk-weaker c.received_by_frame.result _ _
    (λ found is. is
    ∙ ap (λ bytes. received_by_frame c.args.line.now (reading bytes)) c.deref.ensures.value
    ∙ ap (received_by_bytes c.args.line.now) (sym c.in-Ok.ensures.ok)
    ∙ ap (λ digits. received_by_bytes c.args.line.now (decode_of digits)) c.behind.ensures)
    c.received_by_frame.ensures.exact
