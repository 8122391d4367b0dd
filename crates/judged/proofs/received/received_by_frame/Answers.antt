use Rattle.std.proofs.Common.{◌∙◌, ap, sym}
use Rattle.std.proofs.lemmas.Result.{IfOk-weaker}
use Rattle.judged.specs.SessionNumbers.{received_if, received_by_frame}
use Rattle.judged.proofs.received.received_by_frame.Goals as goal

pub returns-clause-exact : goal.returns-clause-exact
returns-clause-exact c =
    IfOk-weaker c.received_if.result _ _
    (λ found is. is
    ∙ ap (λ payload. received_if c.args.line.now (record { com_id = c.in-Ok.opened.com_id; session = c.in-Ok.opened.session; payload = payload }))
    (c.from_vec.ensures ∙ c.in_ok-payload.ensures.items)
    ∙ ap (received_by_frame c.args.line.now) (sym c.in-Ok.ensures.exact))
    c.received_if.ensures.exact
