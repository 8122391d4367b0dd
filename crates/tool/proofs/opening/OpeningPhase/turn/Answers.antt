use Rattle.std.proofs.lemmas.Result.{IfOk-weaker}
use Rattle.tool.proofs.Opened.{opened-stands}
use Rattle.tool.proofs.opening.OpeningPhase.turn.Goals as goal

pub returns-in-Ok-clause-stands : goal.returns-in-Ok-clause-stands
returns-in-Ok-clause-stands c =
    IfOk-weaker c.act.result _ _
    (λ turn does. opened-stands c.args.head c.args.self c.in-Ok.row turn does) c.act.ensures
